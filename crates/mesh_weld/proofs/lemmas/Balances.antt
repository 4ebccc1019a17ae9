-- Balances of edges: each half-edge counts in that of its number, and if all are even, so are the half-edges.
use Rattle.std.proofs.Common.{◌≡◌, ℕ, zero, suc, ◌≤◌, ◌<◌, ◌+◌, ◌*◌, ◌^◌, ◌%◌, min, max, Bool, true, false, cond, ltb, ◌==◌, ◌&&◌, List, [], ◌∷◌, length, get_or, set, take, count_by, refl, sym, ap, ◌∙◌, subst, inl, inr, ◌⊎◌, arith}
use Rattle.std.specs.List.{All, Contains}
use Rattle.std.proofs.lemmas.Bool.{cases_eq, cases_order}
use Rattle.std.proofs.lemmas.Bool.Decides.{nat_tests}
use Rattle.std.proofs.lemmas.List.{length-set, get_or-set_same, get_or-set_other, take_all}
use Rattle.std.proofs.lemmas.List.Sums.{sum_by_more}
use Rattle.mesh_weld.specs.declared.half_edge.HalfEdge.{HalfEdge}
use Rattle.mesh_weld.specs.declared.by_hash.edges.TheConstants.{EVEN}
use Rattle.mesh_weld.specs.EdgeChains.{AreInHalfWords, IsWeighed}
use Rattle.mesh_weld.specs.HalfEdge.{half_edges_from, count_between, IsEven, ArePairNumbers}
use Rattle.mesh_weld.proofs.lemmas.Edges.{count_by-cons}
use Rattle.mesh_weld.proofs.lemmas.HalfEdges.{half_edges_from-length, halves}

-- half-edge c of facet f is in slot 3 * f + c
ends_from : (n : ℕ) (ts : List (List ℕ)) (f c : ℕ) (d : HalfEdge) (t : List ℕ) → f < length ts → c < 3
    → ((get_or (half_edges_from n ts) (3 * f + c) d).from ≡ get_or (get_or ts f t) c 0) × ((get_or (half_edges_from n ts) (3 * f + c) d).to ≡ get_or (get_or ts f t) ((c + 1) % 3) 0)
ends_from n [] f c d t l m = absurd (omega (arith, l))
ends_from n (t ∷ ts) zero zero d u l m = (refl, refl)
ends_from n (t ∷ ts) zero (suc zero) d u l m = (refl, refl)
ends_from n (t ∷ ts) zero (suc (suc zero)) d u l m = (refl, refl)
ends_from n (t ∷ ts) zero (suc (suc (suc c))) d u l m = absurd (omega (arith, m))
ends_from n (t ∷ ts) (suc f) c d u l m =
    let at : 3 * suc f + c ≡ suc (suc (suc (3 * f + c))) = omega arith in
    let rest = ends_from (n + 3) ts f c d u (omega (arith, l)) m in
    (ap (λ k. (get_or (half_edges_from n (t ∷ ts)) k d).from) at ∙ rest.0, ap (λ k. (get_or (half_edges_from n (t ∷ ts)) k d).to) at ∙ rest.1)

abbrev pub lesser : HalfEdge → ℕ
lesser e = min e.from e.to

abbrev pub greater : HalfEdge → ℕ
greater e = max e.from e.to

-- what holds once i half-edges are weighed
pub record AreBalances (half_edges : List HalfEdge) (numbers : List ℕ) (count i : ℕ) (balances : List ℕ) : Type 0 where
  pub each_edge : length balances ≡ count
  pub weighed : (s : ℕ) (d : HalfEdge) → s < length half_edges
      → get_or balances (get_or numbers s 0) 0 + count_between (greater (get_or half_edges s d)) (lesser (get_or half_edges s d)) (take i half_edges)
      ≡ EVEN + count_between (lesser (get_or half_edges s d)) (greater (get_or half_edges s d)) (take i half_edges)

-- the half-edge has the ends of an edge
counted_here : (from to x y there back : ℕ) → x + cond (ltb to from) 1 0 ≡ y + cond (ltb from to) 1 0 → y + back ≡ EVEN + there
    → x + (back + cond (from == max from to && to == min from to) 1 0) ≡ EVEN + (there + cond (from == min from to && to == max from to) 1 0)
counted_here from to x y there back h e = grind (arith, nat_tests)

-- it has other ends
counted_elsewhere : (from to low high : ℕ) → low ≤ high → (min from to ≡ low → max from to ≡ high → ⊥) → ((from == high && to == low) ≡ false) × ((from == low && to == high) ≡ false)
counted_elsewhere from to low high l other = (first, second)
  where
    first : (from == high && to == low) ≡ false
    first = grind (arith, nat_tests)

    second : (from == low && to == high) ≡ false
    second = grind (arith, nat_tests)

-- keys determine the ends
pub key_ends : (a b p q : ℕ) → a < 2 ^ 32 → b < 2 ^ 32 → p < 2 ^ 32 → q < 2 ^ 32 → min a b * 2 ^ 32 + max a b ≡ min p q * 2 ^ 32 + max p q → (min a b ≡ min p q) × (max a b ≡ max p q)
key_ends a b p q k l m n e = halves (min a b) (max a b) (min p q) (max p q) (omega (arith, k, l)) (omega (arith, m, n)) e

module _ (half_edges : List HalfEdge) (numbers : List ℕ) (count : ℕ) (pairs : ArePairNumbers half_edges numbers count) (small : AreInHalfWords half_edges) where
  -- what has one number has the same ends
  ends_of_number : (s t : ℕ) (d : HalfEdge) → s < length half_edges → t < length half_edges → get_or numbers s 0 ≡ get_or numbers t 0
      → (lesser (get_or half_edges s d) ≡ lesser (get_or half_edges t d)) × (greater (get_or half_edges s d) ≡ greater (get_or half_edges t d))
  ends_of_number s t d l m same =
      let a = small s d l in let b = small t d m in
      key_ends (get_or half_edges s d).from (get_or half_edges s d).to (get_or half_edges t d).from (get_or half_edges t d).to a.0 a.1 b.0 b.1 ((pairs.shared s t d l m).0 same)

  number_of_ends : (s t : ℕ) (d : HalfEdge) → s < length half_edges → t < length half_edges
      → lesser (get_or half_edges s d) ≡ lesser (get_or half_edges t d) → greater (get_or half_edges s d) ≡ greater (get_or half_edges t d) → get_or numbers s 0 ≡ get_or numbers t 0
  number_of_ends s t d l m a b = (pairs.shared s t d l m).1 (λ i. a i * 2 ^ 32 + b i)

  pub balances_more : (i : ℕ) (balances new : List ℕ) (number from to : ℕ) → i < length half_edges → AreBalances half_edges numbers count i balances
      → number ≡ get_or numbers i 0 → ((d : HalfEdge) → (from ≡ (get_or half_edges i d).from) × (to ≡ (get_or half_edges i d).to))
      → IsWeighed balances number from to new → AreBalances half_edges numbers count (i + 1) new
  balances_more i balances new number from to inside h number_is ends change =
      record {
        each_edge = ap length change.1 ∙ length-set balances number change.0 ∙ h.each_edge;
        weighed = λ s d l. by_number s d l (cases_eq (get_or numbers s 0) number);
      }
    where
      more : (u v : ℕ) (d : HalfEdge) → count_between u v (take (i + 1) half_edges) ≡ count_between u v (take i half_edges) + cond (from == u && to == v) 1 0
      more u v d =
          sum_by_more (λ (e : HalfEdge). cond (e.from == u && e.to == v) 1 0) half_edges i d inside
          ∙ (λ j. count_between u v (take i half_edges) + cond (sym (ends d).0 j == u && sym (ends d).1 j == v) 1 0)

      now : (s : ℕ) → get_or numbers s 0 ≡ number → s < length half_edges → get_or new (get_or numbers s 0) 0 ≡ change.0
      now s is l =
          ap (λ b. get_or b (get_or numbers s 0) 0) change.1 ∙ ap (λ n. get_or (set balances number change.0) n 0) is
          ∙ get_or-set_same balances number change.0 0 (subst (λ n. n < length balances) is (subst (λ n. get_or numbers s 0 < n) (sym h.each_edge) (pairs.below s l)))

      by_number : (s : ℕ) (d : HalfEdge) → s < length half_edges → (get_or numbers s 0 ≡ number) ⊎ (get_or numbers s 0 ≡ number → ⊥)
          → get_or new (get_or numbers s 0) 0 + count_between (greater (get_or half_edges s d)) (lesser (get_or half_edges s d)) (take (i + 1) half_edges)
          ≡ EVEN + count_between (lesser (get_or half_edges s d)) (greater (get_or half_edges s d)) (take (i + 1) half_edges)
      by_number s d l (inl is) =
          let same = ends_of_number s i d l inside (is ∙ number_is) in
          let low : lesser (get_or half_edges s d) ≡ min from to = same.0 ∙ (λ j. min (sym (ends d).0 j) (sym (ends d).1 j)) in
          let high : greater (get_or half_edges s d) ≡ max from to = same.1 ∙ (λ j. max (sym (ends d).0 j) (sym (ends d).1 j)) in
          let old : get_or balances number 0 + count_between (max from to) (min from to) (take i half_edges) ≡ EVEN + count_between (min from to) (max from to) (take i half_edges) =
          subst (λ p. get_or balances number 0 + count_between p (min from to) (take i half_edges) ≡ EVEN + count_between (min from to) p (take i half_edges)) high
          (subst (λ p. get_or balances number 0 + count_between (greater (get_or half_edges s d)) p (take i half_edges) ≡ EVEN + count_between p (greater (get_or half_edges s d)) (take i half_edges)) low
          (subst (λ n. get_or balances n 0 + count_between (greater (get_or half_edges s d)) (lesser (get_or half_edges s d)) (take i half_edges) ≡ EVEN + count_between (lesser (get_or half_edges s d)) (greater (get_or half_edges s d)) (take i half_edges)) is (h.weighed s d l))) in
          let goal : change.0 + (count_between (max from to) (min from to) (take i half_edges) + cond (from == max from to && to == min from to) 1 0) ≡ EVEN + (count_between (min from to) (max from to) (take i half_edges) + cond (from == min from to && to == max from to) 1 0) =
          counted_here from to change.0 (get_or balances number 0) (count_between (min from to) (max from to) (take i half_edges)) (count_between (max from to) (min from to) (take i half_edges)) change.2 old in
          subst (λ p. get_or new (get_or numbers s 0) 0 + count_between p (lesser (get_or half_edges s d)) (take (i + 1) half_edges) ≡ EVEN + count_between (lesser (get_or half_edges s d)) p (take (i + 1) half_edges)) (sym high)
          (subst (λ p. get_or new (get_or numbers s 0) 0 + count_between (max from to) p (take (i + 1) half_edges) ≡ EVEN + count_between p (max from to) (take (i + 1) half_edges)) (sym low)
          ((λ j. now s is l j + more (max from to) (min from to) d j) ∙ goal ∙ (λ j. EVEN + sym (more (min from to) (max from to) d) j)))
      by_number s d l (inr other) =
          let p = get_or half_edges s d in
          let apart = counted_elsewhere from to (lesser p) (greater p) (omega arith)
          (λ a b. other (number_of_ends s i d l inside (sym a ∙ (λ j. min ((ends d).0 j) ((ends d).1 j))) (sym b ∙ (λ j. max ((ends d).0 j) ((ends d).1 j))) ∙ sym number_is)) in
          let back : count_between (greater p) (lesser p) (take (i + 1) half_edges) ≡ count_between (greater p) (lesser p) (take i half_edges) + 0 = more (greater p) (lesser p) d ∙ ap (λ b. count_between (greater p) (lesser p) (take i half_edges) + cond b 1 0) apart.0 in
          let there : count_between (lesser p) (greater p) (take (i + 1) half_edges) ≡ count_between (lesser p) (greater p) (take i half_edges) + 0 = more (lesser p) (greater p) d ∙ ap (λ b. count_between (lesser p) (greater p) (take i half_edges) + cond b 1 0) apart.1 in
          let kept : get_or new (get_or numbers s 0) 0 ≡ get_or balances (get_or numbers s 0) 0 = ap (λ b. get_or b (get_or numbers s 0) 0) change.1 ∙ get_or-set_other balances number (get_or numbers s 0) change.0 0 other in
          omega (arith, back, there, kept, h.weighed s d l)

  pub balances_even : (i : ℕ) (balances : List ℕ) → AreBalances half_edges numbers count i balances → length half_edges ≤ i → All (λ b. b ≡ EVEN) balances → IsEven half_edges
  balances_even i balances h end all u v = first (some_or_none (λ (e : HalfEdge). e.from == u && e.to == v) half_edges)
    where
      some_or_none : {X : Type 0} (p : X → Bool) (xs : List X) → (count_by p xs ≡ 0) ⊎ ((x : X) × (p x ≡ true) × Contains xs x)
      some_or_none p [] = inl refl
      some_or_none {X} p (x ∷ xs) = by_test (p x) refl (some_or_none p xs)
        where
          by_test : (b : Bool) → p x ≡ b → (count_by p xs ≡ 0) ⊎ ((y : X) × (p y ≡ true) × Contains xs y) → (count_by p (x ∷ xs) ≡ 0) ⊎ ((y : X) × (p y ≡ true) × Contains (x ∷ xs) y)
          by_test true is rest = inr (x, is, (0, omega arith, refl))
          by_test false is (inl none) = inl (count_by-cons p x xs ∙ ap (λ b. cond b 1 0 + count_by p xs) is ∙ ap (λ n. 0 + n) none)
          by_test false is (inr some) = let at : Contains xs some.0 = some.2 in let low : at.0 < length xs = at.1 in inr (some.0, some.1, (suc at.0, omega (arith, low), at.2))

      tied : (s : ℕ) (d : HalfEdge) → s < length half_edges
          → count_between (greater (get_or half_edges s d)) (lesser (get_or half_edges s d)) half_edges ≡ count_between (lesser (get_or half_edges s d)) (greater (get_or half_edges s d)) half_edges
      tied s d l =
          let p = get_or half_edges s d in
          let e : get_or balances (get_or numbers s 0) 0 ≡ EVEN = all (get_or numbers s 0) 0 (subst (λ n. get_or numbers s 0 < n) (sym h.each_edge) (pairs.below s l)) in
          let sum = subst (λ es. get_or balances (get_or numbers s 0) 0 + count_between (greater p) (lesser p) es ≡ EVEN + count_between (lesser p) (greater p) es) (take_all i half_edges end) (h.weighed s d l) in
          omega (arith, e, sum)

      by_order : (a b : ℕ) → count_between (max a b) (min a b) half_edges ≡ count_between (min a b) (max a b) half_edges → count_between a b half_edges ≡ count_between b a half_edges
      by_order a b e = pick (cases_order a b)
        where
          pick : (a ≡ b) ⊎ ((a < b) ⊎ (b < a)) → count_between a b half_edges ≡ count_between b a half_edges
          pick (inl is) = (λ i. count_between (is i) (sym is i) half_edges)
          pick (inr (inl l)) =
              let low : min a b ≡ a = omega (arith, l) in let high : max a b ≡ b = omega (arith, l) in
              (λ i. count_between (sym low i) (sym high i) half_edges) ∙ sym e ∙ (λ i. count_between (high i) (low i) half_edges)
          pick (inr (inr l)) =
              let low : min a b ≡ b = omega (arith, l) in let high : max a b ≡ a = omega (arith, l) in
              (λ i. count_between (sym high i) (sym low i) half_edges) ∙ e ∙ (λ i. count_between (low i) (high i) half_edges)

      at_some : (a b : ℕ) → (x : HalfEdge) × ((x.from == a && x.to == b) ≡ true) × Contains half_edges x → count_between a b half_edges ≡ count_between b a half_edges
      at_some a b some =
          let x : HalfEdge = some.0 in let at : Contains half_edges x = some.2 in
          let ends : (x.from ≡ a) × (x.to ≡ b) = both x.from x.to some.1 in
          let e : count_between (greater x) (lesser x) half_edges ≡ count_between (lesser x) (greater x) half_edges = subst (λ (y : HalfEdge). count_between (greater y) (lesser y) half_edges ≡ count_between (lesser y) (greater y) half_edges) at.2 (tied at.0 x at.1) in
          by_order a b (subst (λ n. count_between (max a n) (min a n) half_edges ≡ count_between (min a n) (max a n) half_edges) ends.1 (subst (λ n. count_between (max n x.to) (min n x.to) half_edges ≡ count_between (min n x.to) (max n x.to) half_edges) ends.0 e))
        where
          both : (p q : ℕ) → (p == a && q == b) ≡ true → (p ≡ a) × (q ≡ b)
          both p q h = (grind (arith, nat_tests), grind (arith, nat_tests))

      first : (count_between u v half_edges ≡ 0) ⊎ ((x : HalfEdge) × ((x.from == u && x.to == v) ≡ true) × Contains half_edges x) → count_between u v half_edges ≡ count_between v u half_edges
      first (inr some) = at_some u v some
      first (inl none) = second (some_or_none (λ (e : HalfEdge). e.from == v && e.to == u) half_edges)
        where
          second : (count_between v u half_edges ≡ 0) ⊎ ((x : HalfEdge) × ((x.from == v && x.to == u) ≡ true) × Contains half_edges x) → count_between u v half_edges ≡ count_between v u half_edges
          second (inl none_back) = none ∙ sym none_back
          second (inr some) = sym (at_some v u some)

-- half-edge c of facet f is weighed
pub facet_weighed : (ts : List (List ℕ)) (numbers : List ℕ) (count : ℕ) → ArePairNumbers (half_edges_from 0 ts) numbers count → AreInHalfWords (half_edges_from 0 ts)
    → (f c i j : ℕ) → i ≡ 3 * f + c → j ≡ i + 1 → f < length ts → c < 3 → (ns : List ℕ) → ns ≡ numbers → (balances new : List ℕ) → AreBalances (half_edges_from 0 ts) numbers count i balances
    → IsWeighed balances (get_or ns i 0) (get_or (get_or ts f []) c 0) (get_or (get_or ts f []) ((c + 1) % 3) 0) new → AreBalances (half_edges_from 0 ts) numbers count j new
facet_weighed ts numbers count pairs small f c i j i_is j_is below c_below ns ns_is balances new h weighed =
    subst (λ k. AreBalances (half_edges_from 0 ts) numbers count k new) (sym j_is)
    (balances_more (half_edges_from 0 ts) numbers count pairs small i balances new (get_or ns i 0) (get_or (get_or ts f []) c 0) (get_or (get_or ts f []) ((c + 1) % 3) 0)
    (omega (arith, i_is, below, c_below, half_edges_from-length 0 ts)) h (ap (λ l. get_or l i 0) ns_is)
    (λ d. let ends = ends_from 0 ts f c d [] below c_below in
    (sym ends.0 ∙ ap (λ k. (get_or (half_edges_from 0 ts) k d).from) (sym i_is), sym ends.1 ∙ ap (λ k. (get_or (half_edges_from 0 ts) k d).to) (sym i_is))) weighed)

-- its number is that of a balance
pub balance_there : (ts : List (List ℕ)) (numbers : List ℕ) (count : ℕ) → ArePairNumbers (half_edges_from 0 ts) numbers count → (f c i : ℕ) → i ≡ 3 * f + c → f < length ts → c < 3
    → (ns : List ℕ) → ns ≡ numbers → (n : ℕ) → n ≡ count → (i < length ns) × (get_or ns i 0 < n)
balance_there ts numbers count pairs f c i i_is below c_below ns ns_is n n_is =
    let inside : i < length (half_edges_from 0 ts) = omega (arith, i_is, below, c_below, half_edges_from-length 0 ts) in
    let room : i < length numbers = omega (arith, inside, pairs.each_half_edge) in
    (subst (λ l. i < length l) (sym ns_is) room, subst (λ l. get_or l i 0 < n) (sym ns_is) (subst (λ k. get_or numbers i 0 < k) (sym n_is) (pairs.below i inside)))
