-- Numbers of pairs of vertex numbers, in threes, are edge numbers.
use Rattle.std.proofs.Common.{◌≡◌, ℕ, zero, suc, ◌≤◌, ◌<◌, ◌+◌, ◌*◌, ◌^◌, ◌/◌, ◌%◌, min, max, true, List, [], ◌∷◌, length, map, get_or, refl, sym, ap, ◌∙◌, subst, inl, inr, ◌⊎◌, arith}
use Rattle.std.specs.List.{Contains, flat_map}
use Rattle.std.proofs.lemmas.List.Elements.{All-contains}
use Rattle.std.proofs.lemmas.List.{length-map}
use Rattle.std.specs.Simd.{first_chunks}
use Rattle.geometry.specs.Point.{Point, origin}
use Rattle.geometry.specs.Facet.{Facet, Edge, edge, corners, edges}
use Rattle.mesh_weld.specs.HalfEdge.{pair_key, half_edges_from, ArePairNumbers, IsEven}
use Rattle.mesh_weld.specs.Numbering.{threes}
use Rattle.mesh_weld.specs.CornerIds.{AreIds}
use Rattle.mesh_weld.specs.Balance.{IsBalanced}
use Rattle.mesh_weld.specs.EdgeNumbers.{AreEdgeNumbers, HaveSameEnds, edge_of, edge_number}
use Rattle.mesh_weld.specs.Solid.{vertices, number_of, triples}
use Rattle.mesh_weld.proofs.lemmas.InOrder.{is_in, in_order-members, is_in-from_contains, contains_from_is_in}
use Rattle.mesh_weld.proofs.lemmas.HalfEdges.{half_edges_from-length, nowhere, halves, either_order}
use Rattle.mesh_weld.proofs.lemmas.Transfer.{number_found, ends_are_vertices, numbered, balanced_by_ids}

pub triples-by_number : (f : Point → ℕ) (fs : List Facet) → threes (map f (flat_map corners fs)) ≡ map (λ t. map f (corners t)) fs
triples-by_number f [] = refl
triples-by_number f (t ∷ ts) = ap (λ l. (f t.a ∷ f t.b ∷ f t.c ∷ []) ∷ l) (triples-by_number f ts)

-- a part of three holds three in turn
pub threes-at : (xs : List ℕ) (n k s : ℕ) → length xs ≡ 3 * n → k < n → s < 3 → get_or (get_or (threes xs) k []) s 0 ≡ get_or xs (3 * k + s) 0
threes-at [] n k s e l m = absurd (omega (arith, e, l))
threes-at (a ∷ []) n k s e l m = absurd (omega (arith, e))
threes-at (a ∷ b ∷ []) n k s e l m = absurd (omega (arith, e))
threes-at (a ∷ b ∷ c ∷ xs) n zero zero e l m = refl
threes-at (a ∷ b ∷ c ∷ xs) n zero (suc zero) e l m = refl
threes-at (a ∷ b ∷ c ∷ xs) n zero (suc (suc zero)) e l m = refl
threes-at (a ∷ b ∷ c ∷ xs) n zero (suc (suc (suc s))) e l m = absurd (omega (arith, m))
threes-at (a ∷ b ∷ c ∷ xs) zero (suc k) s e l m = absurd (omega (arith, l))
threes-at (a ∷ b ∷ c ∷ xs) (suc n) (suc k) s e l m =
    threes-at xs n k s (omega (arith, e)) (omega (arith, l)) m
    ∙ (let at : suc (suc (suc (3 * k + s))) ≡ 3 * suc k + s = omega arith in ap (λ i. get_or (a ∷ b ∷ c ∷ xs) i 0) at)

pub threes-length : (xs : List ℕ) (n : ℕ) → length xs ≡ 3 * n → length (threes xs) ≡ n
threes-length [] n e = omega (arith, e)
threes-length (a ∷ []) n e = absurd (omega (arith, e))
threes-length (a ∷ b ∷ []) n e = absurd (omega (arith, e))
threes-length (a ∷ b ∷ c ∷ xs) zero e = absurd (omega (arith, e))
threes-length (a ∷ b ∷ c ∷ xs) (suc n) e = ap suc (threes-length xs n (omega (arith, e)))

-- the half-edge of each edge runs between the numbers of its ends
half_edge_ends : (f : Point → ℕ) (n : ℕ) (fs : List Facet) (k s : ℕ) → k < length fs → s < 3
    → ((get_or (half_edges_from n (map (numbered f) fs)) (3 * k + s) nowhere).from ≡ f (edge_of fs k s).from)
    × ((get_or (half_edges_from n (map (numbered f) fs)) (3 * k + s) nowhere).to ≡ f (edge_of fs k s).to)
half_edge_ends f n [] k s l m = absurd (omega (arith, l))
half_edge_ends f n (t ∷ ts) zero zero l m = (refl, refl)
half_edge_ends f n (t ∷ ts) zero (suc zero) l m = (refl, refl)
half_edge_ends f n (t ∷ ts) zero (suc (suc zero)) l m = (refl, refl)
half_edge_ends f n (t ∷ ts) zero (suc (suc (suc s))) l m = absurd (omega (arith, m))
half_edge_ends f n (t ∷ ts) (suc k) s l m =
    let at : suc (suc (suc (3 * k + s))) ≡ 3 * suc k + s = omega arith in
    subst (λ i. ((get_or (half_edges_from n (map (numbered f) (t ∷ ts))) i nowhere).from ≡ f (edge_of ts k s).from) × ((get_or (half_edges_from n (map (numbered f) (t ∷ ts))) i nowhere).to ≡ f (edge_of ts k s).to)) at
    (half_edge_ends f (n + 3) ts k s (omega (arith, l)) m)

-- edge s of facet k is edge 3 * k + s of the mesh
pub edge-at : (fs : List Facet) (k s : ℕ) → k < length fs → s < 3
    → (3 * k + s < length (edges fs)) × (get_or (edges fs) (3 * k + s) (edge origin origin) ≡ edge_of fs k s)
edge-at [] k s l m = absurd (omega (arith, l))
edge-at (t ∷ ts) zero zero l m = (omega arith, refl)
edge-at (t ∷ ts) zero (suc zero) l m = (omega arith, refl)
edge-at (t ∷ ts) zero (suc (suc zero)) l m = (omega arith, refl)
edge-at (t ∷ ts) zero (suc (suc (suc s))) l m = absurd (omega (arith, m))
edge-at (t ∷ ts) (suc k) s l m =
    let at : suc (suc (suc (3 * k + s))) ≡ 3 * suc k + s = omega arith in
    let rest : (3 * k + s < length (edges ts)) × (get_or (edges ts) (3 * k + s) (edge origin origin) ≡ edge_of ts k s) = edge-at ts k s (omega (arith, l)) m in
    (let low : 3 * k + s < length (edges ts) = rest.0 in omega (arith, low), ap (λ i. get_or (edges (t ∷ ts)) i (edge origin origin)) (sym at) ∙ rest.1)

-- what has the same lesser and greater end
key_tells : (a b c d : ℕ) → a < 2 ^ 32 → b < 2 ^ 32 → c < 2 ^ 32 → d < 2 ^ 32 → min a b * 2 ^ 32 + max a b ≡ min c d * 2 ^ 32 + max c d
    → ((a ≡ c) × (b ≡ d)) ⊎ ((a ≡ d) × (b ≡ c))
key_tells a b c d k l m n e = either_order a b c d (halves (min a b) (max a b) (min c d) (max c d) (omega (arith, k, l)) (omega (arith, m, n)) e)

-- by any ids that differ for different vertices
module _ (fs : List Facet) (id : Point → ℕ) (small : (p : Point) → is_in p (vertices fs) ≡ true → id p < 2 ^ 32)
    (apart : (p q : Point) → is_in p (vertices fs) ≡ true → is_in q (vertices fs) ≡ true → id p ≡ id q → p ≡ q)
    (numbers : List ℕ) (count : ℕ) (h : ArePairNumbers (half_edges_from 0 (map (numbered id) fs)) numbers count) where
  size : length (half_edges_from 0 (map (numbered id) fs)) ≡ 3 * length fs
  size = half_edges_from-length 0 (map (numbered id) fs) ∙ ap (λ n. 3 * n) (length-map fs (numbered id))

  at_number : (k s : ℕ) → k < length fs → s < 3 → edge_number (threes numbers) k s ≡ get_or numbers (3 * k + s) 0
  at_number k s l m = threes-at numbers (length fs) k s (h.each_half_edge ∙ size) l m

  ends_in : (k s : ℕ) → k < length fs → s < 3 → (is_in (edge_of fs k s).from (vertices fs) ≡ true) × (is_in (edge_of fs k s).to (vertices fs) ≡ true)
  ends_in k s l m =
      let at = edge-at fs k s l m in
      subst (λ (e : Edge). (is_in e.from (vertices fs) ≡ true) × (is_in e.to (vertices fs) ≡ true)) at.1 (ends_are_vertices fs (3 * k + s) (edge origin origin) at.0)

  key_of : (k s : ℕ) → k < length fs → s < 3
      → pair_key (get_or (half_edges_from 0 (map (numbered id) fs)) (3 * k + s) nowhere) ≡ pair_key (record { from = id (edge_of fs k s).from; to = id (edge_of fs k s).to; slot = 0 })
  key_of k s l m =
      let ends = half_edge_ends id 0 fs k s l m in
      λ i. pair_key (record { from = ends.0 i; to = ends.1 i; slot = 0 })

  pub numbered_edge_numbers : AreEdgeNumbers fs (threes numbers) count
  numbered_edge_numbers =
      record {
        each_facet = threes-length numbers (length fs) (h.each_half_edge ∙ size);
        below = λ k s l m. let b : get_or numbers (3 * k + s) 0 < count = h.below (3 * k + s) (omega (arith, size, l, m)) in omega (arith, b, at_number k s l m);
        used = λ n l.
            let u : (s : ℕ) × (s < length (half_edges_from 0 (map (numbered id) fs))) × (get_or numbers s 0 ≡ n) = h.used n l in
            let inside : u.0 < length (half_edges_from 0 (map (numbered id) fs)) = u.1 in
            let k : ℕ = u.0 / 3 in let s : ℕ = u.0 % 3 in
            let low : k < length fs = omega (arith, inside, size) in
            let small : s < 3 = omega arith in
            (k, s, low, small, at_number k s low small ∙ ap (λ i. get_or numbers i 0) (let e : 3 * k + s ≡ u.0 = omega arith in e) ∙ u.2);
        shared = λ f s g t l m p q. (forward f s g t l m p q, backward f s g t l m p q);
      }
    where
      forward : (f s g t : ℕ) → f < length fs → s < 3 → g < length fs → t < 3 → edge_number (threes numbers) f s ≡ edge_number (threes numbers) g t → HaveSameEnds (edge_of fs f s) (edge_of fs g t)
      forward f s g t l m p q e =
          by_key (edge_of fs f s) (edge_of fs g t) (ends_in f s l m) (ends_in g t p q)
          (sym (key_of f s l m) ∙ (h.shared (3 * f + s) (3 * g + t) nowhere (omega (arith, size, l, m)) (omega (arith, size, p, q))).0 (sym (at_number f s l m) ∙ e ∙ at_number g t p q) ∙ key_of g t p q)
        where
          by_key : (d c : Edge) → (is_in d.from (vertices fs) ≡ true) × (is_in d.to (vertices fs) ≡ true) → (is_in c.from (vertices fs) ≡ true) × (is_in c.to (vertices fs) ≡ true)
              → pair_key (record { from = id d.from; to = id d.to; slot = 0 }) ≡ pair_key (record { from = id c.from; to = id c.to; slot = 0 })
              → HaveSameEnds d c
          by_key d c a b k =
              by_ends (key_tells (id d.from) (id d.to) (id c.from) (id c.to)
              (small d.from a.0) (small d.to a.1) (small c.from b.0) (small c.to b.1) k)
            where
              by_ends : ((id d.from ≡ id c.from) × (id d.to ≡ id c.to)) ⊎ ((id d.from ≡ id c.to) × (id d.to ≡ id c.from)) → HaveSameEnds d c
              by_ends (inl n) = inl (apart d.from c.from a.0 b.0 n.0, apart d.to c.to a.1 b.1 n.1)
              by_ends (inr n) = inr (apart d.from c.to a.0 b.1 n.0, apart d.to c.from a.1 b.0 n.1)

      same_key : (d c : Edge) → HaveSameEnds d c → pair_key (record { from = id d.from; to = id d.to; slot = 0 }) ≡ pair_key (record { from = id c.from; to = id c.to; slot = 0 })
      same_key d c (inl k) = λ i. pair_key (record { from = id (k.0 i); to = id (k.1 i); slot = 0 })
      same_key d c (inr k) =
          (λ i. pair_key (record { from = id (k.0 i); to = id (k.1 i); slot = 0 }))
          ∙ turned (id c.to) (id c.from)
        where
          turned : (m n : ℕ) → min m n * 2 ^ 32 + max m n ≡ min n m * 2 ^ 32 + max n m
          turned m n = omega arith

      backward : (f s g t : ℕ) → f < length fs → s < 3 → g < length fs → t < 3 → HaveSameEnds (edge_of fs f s) (edge_of fs g t) → edge_number (threes numbers) f s ≡ edge_number (threes numbers) g t
      backward f s g t l m p q e =
          at_number f s l m
          ∙ (h.shared (3 * f + s) (3 * g + t) nowhere (omega (arith, size, l, m)) (omega (arith, size, p, q))).1
          (key_of f s l m ∙ same_key (edge_of fs f s) (edge_of fs g t) e ∙ sym (key_of g t p q))
          ∙ sym (at_number g t p q)

-- by vertex numbers
pub edge_numbers : (fs : List Facet) → length (vertices fs) ≤ 2 ^ 32 → (numbers : List ℕ) (count : ℕ) → ArePairNumbers (half_edges_from 0 (triples fs)) numbers count → AreEdgeNumbers fs (threes numbers) count
edge_numbers fs few numbers count h =
    numbered_edge_numbers fs (number_of (vertices fs)) (λ p k. omega (arith, few, (number_found p (vertices fs) k).0))
    (λ p q k l e. sym (number_found p (vertices fs) k).1 ∙ ap (λ n. get_or (vertices fs) n origin) e ∙ (number_found q (vertices fs) l).1) numbers count h

-- by numbers among points that have all corners
module _ (fs : List Facet) (ids : List (List ℕ)) (n : AreIds fs ids) where
  id_found : (p : Point) → is_in p (vertices fs) ≡ true → (number_of n.found p < length n.found) × (get_or n.found (number_of n.found p) origin ≡ p)
  id_found p h =
      number_found p n.found
      (is_in-from_contains n.found p
      (All-contains (Contains n.found) (flat_map corners fs) p n.covers
      (contains_from_is_in (flat_map corners fs) p (sym (in_order-members p (flat_map corners fs)) ∙ h))))

  id_apart : (p q : Point) → is_in p (vertices fs) ≡ true → is_in q (vertices fs) ≡ true → number_of n.found p ≡ number_of n.found q → p ≡ q
  id_apart p q k l e = sym (id_found p k).1 ∙ ap (λ i. get_or n.found i origin) e ∙ (id_found q l).1

  pub edges_by_ids : (numbers : List ℕ) (count : ℕ) → ArePairNumbers (half_edges_from 0 ids) numbers count → AreEdgeNumbers fs (threes numbers) count
  edges_by_ids numbers count h =
      numbered_edge_numbers fs (number_of n.found) (λ p k. omega (arith, n.few, (id_found p k).0)) id_apart numbers count
      (subst (λ l. ArePairNumbers (half_edges_from 0 l) numbers count) n.are h)

  pub closed_by_ids : IsEven (half_edges_from 0 ids) → IsBalanced fs
  closed_by_ids h = balanced_by_ids fs (number_of n.found) id_apart (subst (λ l. IsEven (half_edges_from 0 l)) n.are h)

-- the same parts of three, by their number
pub threes_by_count : (n : ℕ) (xs : List ℕ) → 3 * n ≤ length xs → length xs < 3 * n + 3 → first_chunks 3 n xs ≡ threes xs
threes_by_count zero [] l m = refl
threes_by_count zero (a ∷ []) l m = refl
threes_by_count zero (a ∷ b ∷ []) l m = refl
threes_by_count zero (a ∷ b ∷ c ∷ xs) l m = absurd (omega (arith, m))
threes_by_count (suc n) [] l m = absurd (omega (arith, l))
threes_by_count (suc n) (a ∷ []) l m = absurd (omega (arith, l))
threes_by_count (suc n) (a ∷ b ∷ []) l m = absurd (omega (arith, l))
threes_by_count (suc n) (a ∷ b ∷ c ∷ xs) l m = ap (λ rest. (a ∷ b ∷ c ∷ []) ∷ rest) (threes_by_count n xs (omega (arith, l)) (omega (arith, m)))
