-- The edges of all facets can be numbered: each one gets the number of an earlier edge with the same ends, or else the next
-- number.
use Rattle.std.proofs.Common.{◌≡◌, ◌≢◌, ℕ, zero, suc, ◌+◌, ◌*◌, ◌/◌, ◌%◌, ◌<◌, ◌≤◌, ◌⊎◌, inl, inr, ◌↔◌, Bool, true, false, subst, List, [], ◌∷◌, length, get_or, refl, sym, ◌∙◌, ap, arith}
use Rattle.std.specs.Prelude.{nat_le}
use Rattle.std.proofs.lemmas.Bool.Decides.{leb_tells}
use Rattle.geometry.specs.Point.{Point, origin, same}
use Rattle.geometry.specs.Facet.{Facet, Edge, edge, edges}
use Rattle.mesh_weld.specs.EdgeNumbers.{AreEdgeNumbers, HaveSameEnds, edge_number, edge_of}
use Rattle.mesh_weld.specs.Numbering.{threes}
use Rattle.mesh_weld.proofs.lemmas.EdgeNumbering.{edge-at, threes-at, threes-length}
use Rattle.mesh_weld.proofs.lemmas.Order.{points_decide}

-- ---- having the same ends is an equivalence that can be decided
own_ends : (d : Edge) → HaveSameEnds d d
own_ends d = inl (refl, refl)

back_ends : (d e : Edge) → HaveSameEnds d e → HaveSameEnds e d
back_ends d e (inl h) = inl (sym h.0, sym h.1)
back_ends d e (inr h) = inr (sym h.1, sym h.0)

joined_ends : (d e f : Edge) → HaveSameEnds d e → HaveSameEnds e f → HaveSameEnds d f
joined_ends d e f (inl h) (inl k) = inl (h.0 ∙ k.0, h.1 ∙ k.1)
joined_ends d e f (inl h) (inr k) = inr (h.0 ∙ k.0, h.1 ∙ k.1)
joined_ends d e f (inr h) (inl k) = inr (h.0 ∙ k.1, h.1 ∙ k.0)
joined_ends d e f (inr h) (inr k) = inl (h.0 ∙ k.1, h.1 ∙ k.0)

as_ends : (a b c d : Edge) → a ≡ c → b ≡ d → HaveSameEnds a b → HaveSameEnds c d
as_ends a b c d e h k = subst (λ x. HaveSameEnds x d) e (subst (λ x. HaveSameEnds a x) h k)

abbrev Equal : Point → Point → Type 0
Equal p q = (p ≡ q) ⊎ (p ≢ q)

equal_points : (p q : Point) → Equal p q
equal_points p q = by_test (same p q) refl
  where
    differ : same p q ≡ false → p ≢ q
    differ h e = let t = (points_decide p q).1 e in cc

    by_test : (b : Bool) → same p q ≡ b → Equal p q
    by_test true h = inl ((points_decide p q).0 h)
    by_test false h = inr (differ h)

abbrev Decided : Edge → Edge → Type 0
Decided d e = HaveSameEnds d e ⊎ (HaveSameEnds d e → ⊥)

-- two facts, of which each holds or not
both_or_not : {A B : Type 0} → A ⊎ (A → ⊥) → B ⊎ (B → ⊥) → (A × B) ⊎ ((A × B) → ⊥)
both_or_not (inl a) (inl b) = inl (a, b)
both_or_not (inl a) (inr b) = inr (λ h. b h.1)
both_or_not (inr a) b = inr (λ h. a h.0)

either_or_not : {A B : Type 0} → A ⊎ (A → ⊥) → B ⊎ (B → ⊥) → (A ⊎ B) ⊎ ((A ⊎ B) → ⊥)
either_or_not (inl a) b = inl (inl a)
either_or_not (inr a) (inl b) = inl (inr b)
either_or_not {A} {B} (inr a) (inr b) = inr neither
  where
    neither : A ⊎ B → ⊥
    neither (inl x) = a x
    neither (inr y) = b y

decided : (d e : Edge) → Decided d e
decided d e =
    either_or_not (both_or_not (equal_points d.from e.from) (equal_points d.to e.to)) (both_or_not (equal_points d.from e.to) (equal_points d.to e.from))

-- ---- numbers of edges, so that two have one number exactly if their ends are the same
record AreNumbers (list : List Edge) (numbers : List ℕ) (count : ℕ) : Type 0 where
  each : length numbers ≡ length list
  below : (s : ℕ) → s < length list → get_or numbers s 0 < count
  used : (n : ℕ) → n < count → (s : ℕ) × (s < length list) × (get_or numbers s 0 ≡ n)
  shared : (s t : ℕ) (d : Edge) → s < length list → t < length list
      → (get_or numbers s 0 ≡ get_or numbers t 0) ↔ HaveSameEnds (get_or list s d) (get_or list t d)

-- an edge of the list has the ends of this one
abbrev IsThere : Edge → List Edge → Type 0
IsThere e list = (t : ℕ) × (t < length list) × ((d : Edge) → HaveSameEnds e (get_or list t d))

-- no edge has them
abbrev IsNew : Edge → List Edge → Type 0
IsNew e list = (t : ℕ) (d : Edge) → t < length list → HaveSameEnds e (get_or list t d) → ⊥

there_or_new : (e : Edge) (list : List Edge) → IsThere e list ⊎ IsNew e list
there_or_new e [] = inr (λ t d low h. omega (arith, low))
there_or_new e (x ∷ xs) = by_head (decided e x) (there_or_new e xs)
  where
    not_here : (HaveSameEnds e x → ⊥) → IsNew e xs → IsNew e (x ∷ xs)
    not_here other new zero d low h = other h
    not_here other new (suc t) d low h = new t d (omega (arith, low)) h

    by_head : Decided e x → IsThere e xs ⊎ IsNew e xs → IsThere e (x ∷ xs) ⊎ IsNew e (x ∷ xs)
    by_head (inl same) rest = inl (zero, omega arith, λ d. same)
    by_head (inr other) (inl found) = let low : found.0 < length xs = found.1 in inl (suc found.0, omega (arith, low), found.2)
    by_head (inr other) (inr new) = inr (not_here other new)

within : (s n : ℕ) → s < n → suc s < suc n
within s n l = omega (arith, l)

-- one more edge, with the ends of another
known_edge : (x : Edge) (xs : List Edge) (numbers : List ℕ) (count : ℕ) → AreNumbers xs numbers count → (found : IsThere x xs)
    → AreNumbers (x ∷ xs) (get_or numbers found.0 0 ∷ numbers) count
known_edge x xs numbers count are found = record {
  each = ap suc are.each;
  below = below;
  used = λ n l. let u = are.used n l in (suc u.0, within u.0 (length xs) u.1, u.2);
  shared = shared;
}
  where
    below : (s : ℕ) → s < suc (length xs) → get_or (get_or numbers found.0 0 ∷ numbers) s 0 < count
    below zero l = are.below found.0 found.1
    below (suc s) l = are.below s (omega (arith, l))

    shared : (s t : ℕ) (d : Edge) → s < suc (length xs) → t < suc (length xs)
        → (get_or (get_or numbers found.0 0 ∷ numbers) s 0 ≡ get_or (get_or numbers found.0 0 ∷ numbers) t 0) ↔ HaveSameEnds (get_or (x ∷ xs) s d) (get_or (x ∷ xs) t d)
    shared zero zero d l m = (λ e. own_ends x, λ e. refl)
    shared zero (suc t) d l m =
        let q = are.shared found.0 t d found.1 (omega (arith, m)) in
        let here = found.2 d in (
          λ e. joined_ends x (get_or xs found.0 d) (get_or xs t d) here (q.0 e),
          λ h. q.1 (joined_ends (get_or xs found.0 d) x (get_or xs t d) (back_ends x (get_or xs found.0 d) here) h),
        )
    shared (suc s) zero d l m =
        let q = are.shared s found.0 d (omega (arith, l)) found.1 in
        let here = found.2 d in (
          λ e. joined_ends (get_or xs s d) (get_or xs found.0 d) x (q.0 e) (back_ends x (get_or xs found.0 d) here),
          λ h. q.1 (joined_ends (get_or xs s d) x (get_or xs found.0 d) h here),
        )
    shared (suc s) (suc t) d l m = are.shared s t d (omega (arith, l)) (omega (arith, m))

-- one more edge, with ends that no other has
new_edge : (x : Edge) (xs : List Edge) (numbers : List ℕ) (count : ℕ) → AreNumbers xs numbers count → IsNew x xs
    → AreNumbers (x ∷ xs) (count ∷ numbers) (suc count)
new_edge x xs numbers count are new = record { each = ap suc are.each; below = below; used = λ n l. used n l (leb_tells (suc n) count); shared = shared }
  where
    below : (s : ℕ) → s < suc (length xs) → get_or (count ∷ numbers) s 0 < suc count
    below zero l = omega arith
    below (suc s) l = let low : get_or numbers s 0 < count = are.below s (omega (arith, l)) in omega (arith, low)

    used : (n : ℕ) → n < suc count → ((nat_le (suc n) count ≡ true) × (suc n ≤ count)) ⊎ ((nat_le (suc n) count ≡ false) × (count < suc n))
        → (s : ℕ) × (s < suc (length xs)) × (get_or (count ∷ numbers) s 0 ≡ n)
    used n l (inl low) = let u = are.used n low.1 in (suc u.0, within u.0 (length xs) u.1, u.2)
    used n l (inr last) = (zero, omega arith, omega (arith, l, last.1))

    shared : (s t : ℕ) (d : Edge) → s < suc (length xs) → t < suc (length xs)
        → (get_or (count ∷ numbers) s 0 ≡ get_or (count ∷ numbers) t 0) ↔ HaveSameEnds (get_or (x ∷ xs) s d) (get_or (x ∷ xs) t d)
    shared zero zero d l m = (λ e. own_ends x, λ e. refl)
    shared zero (suc t) d l m =
        let low : get_or numbers t 0 < count = are.below t (omega (arith, m)) in
        (λ e. absurd (omega (arith, low, e)), λ h. absurd (new t d (omega (arith, m)) h))
    shared (suc s) zero d l m =
        let low : get_or numbers s 0 < count = are.below s (omega (arith, l)) in
        (λ e. absurd (omega (arith, low, e)), λ h. absurd (new s d (omega (arith, l)) (back_ends (get_or xs s d) x h)))
    shared (suc s) (suc t) d l m = are.shared s t d (omega (arith, l)) (omega (arith, m))

abbrev Numbering : List Edge → Type 0
Numbering list = (numbers : List ℕ) × (count : ℕ) × AreNumbers list numbers count

number_all : (list : List Edge) → Numbering list
number_all [] = (
  [],
  0,
  record {
    each = refl;
    below = λ s l. absurd (omega (arith, l));
    used = λ n l. absurd (omega (arith, l));
    shared = λ s t d l m. absurd (omega (arith, l));
  },
)
number_all (x ∷ xs) = by_ends (number_all xs) (there_or_new x xs)
  where
    by_ends : Numbering xs → IsThere x xs ⊎ IsNew x xs → Numbering (x ∷ xs)
    by_ends n (inl found) = (get_or n.0 found.0 0 ∷ n.0, n.1, known_edge x xs n.0 n.1 n.2 found)
    by_ends n (inr new) = (n.1 ∷ n.0, suc n.1, new_edge x xs n.0 n.1 n.2 new)

-- ---- in threes they are the numbers of each facet's edges
length-edges : (facets : List Facet) → length (edges facets) ≡ 3 * length facets
length-edges [] = refl
length-edges (t ∷ ts) = let rest = length-edges ts in omega (arith, rest)

module _ (facets : List Facet) (numbers : List ℕ) (count : ℕ) (are : AreNumbers (edges facets) numbers count) where
  size : length (edges facets) ≡ 3 * length facets
  size = length-edges facets

  long : length numbers ≡ 3 * length facets
  long = are.each ∙ size

  at_number : (k s : ℕ) → k < length facets → s < 3 → edge_number (threes numbers) k s ≡ get_or numbers (3 * k + s) 0
  at_number k s l m = threes-at numbers (length facets) k s long l m

  shared_at : (f s g t : ℕ) → f < length facets → s < 3 → g < length facets → t < 3
      → (edge_number (threes numbers) f s ≡ edge_number (threes numbers) g t) ↔ HaveSameEnds (edge_of facets f s) (edge_of facets g t)
  shared_at f s g t l m p q =
      let here = edge-at facets f s l m in
      let there = edge-at facets g t p q in
      let both = are.shared (3 * f + s) (3 * g + t) (edge origin origin) here.0 there.0 in (
        λ e. as_ends _ _ _ _ here.1 there.1 (both.0 (sym (at_number f s l m) ∙ e ∙ at_number g t p q)),
        λ h. at_number f s l m ∙ both.1 (as_ends _ _ _ _ (sym here.1) (sym there.1) h) ∙ sym (at_number g t p q),
      )

  in_threes : AreEdgeNumbers facets (threes numbers) count
  in_threes =
      record {
        each_facet = threes-length numbers (length facets) long;
        below = λ k s l m. let b : get_or numbers (3 * k + s) 0 < count = are.below (3 * k + s) (edge-at facets k s l m).0 in omega (arith, b, at_number k s l m);
        used = λ n l.
            let u : (s : ℕ) × (s < length (edges facets)) × (get_or numbers s 0 ≡ n) = are.used n l in
            let inside : u.0 < length (edges facets) = u.1 in
            let k : ℕ = u.0 / 3 in let s : ℕ = u.0 % 3 in
            let low : k < length facets = omega (arith, inside, size) in
            let small : s < 3 = omega arith in
            (k, s, low, small, at_number k s low small ∙ ap (λ i. get_or numbers i 0) (let e : 3 * k + s ≡ u.0 = omega arith in e) ∙ u.2);
        shared = shared_at;
      }

pub some_edge_numbers : (facets : List Facet) → (numbers : List (List ℕ)) × (count : ℕ) × AreEdgeNumbers facets numbers count
some_edge_numbers facets =
    let n : Numbering (edges facets) = number_all (edges facets) in
    (threes n.0, n.1, in_threes facets n.0 n.1 n.2)
