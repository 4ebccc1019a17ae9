-- Edges by the numbers of a table: each is at the same slots, and so the same slots are popped.
use Rattle.std.proofs.Common.{◌≡◌, ℕ, zero, suc, ◌+◌, ◌<◌, ◌≤◌, cond, eqb, List, [], ◌∷◌, ◌⊎◌, inl, inr, refl, sym, ◌∙◌, ap, length, take, get_or, arith}
use Rattle.std.specs.Prelude.{All, ◌==◌}
use Rattle.std.proofs.lemmas.List.{get_or_append_left, get_or_default, length-append, take_all}
use Rattle.std.proofs.lemmas.List.FromFn.{get_or-range_with_len, length-range_with_len}
use Rattle.std.specs.List.{range_with_len}
use Rattle.std.proofs.lemmas.Bool.{cases_eq, cases_lt, cases_order, eq-eqb, ne_eqb}
use Rattle.mesh_weld.proofs.lemmas.Edges.{count_by-cons}
use Rattle.contour.specs.EdgeTable.{AreDistinct, AreNumbered}
use Rattle.contour.specs.Linker.{AreNumbers, ArePopped, AreRenumbered, slot_after, slots}
use Rattle.contour.specs.declared.linker.TheConstants.{NONE}
use Rattle.contour.proofs.lemmas.Counts.{AreEven, times, times-other}

-- ---- two lists that have their numbers k and e at the same places
slots-by_tests : (n k e : ℕ) (xs ys : List ℕ) → length xs ≡ length ys → ((j : ℕ) → j < length ys → eqb (get_or xs j 0) k ≡ eqb (get_or ys j 0) e)
    → slots n k xs ≡ slots n e ys
slots-by_tests n k e [] [] s h = refl
slots-by_tests n k e [] (y ∷ ys) s h = absurd (omega (arith, s))
slots-by_tests n k e (x ∷ xs) [] s h = absurd (omega (arith, s))
slots-by_tests n k e (x ∷ xs) (y ∷ ys) s h =
    let rest = slots-by_tests (n + 1) k e xs ys (omega (arith, s)) (λ j l. h (suc j) (omega (arith, l))) in
    λ i. cond (h 0 (omega arith) i) (n ∷ rest i) (rest i)

times-by_tests : (k e j : ℕ) (xs ys : List ℕ) → length xs ≡ length ys → ((i : ℕ) → i < length ys → eqb (get_or xs i 0) k ≡ eqb (get_or ys i 0) e)
    → times k (take j xs) ≡ times e (take j ys)
times-by_tests k e zero xs ys s h = refl
times-by_tests k e (suc j) [] [] s h = refl
times-by_tests k e (suc j) [] (y ∷ ys) s h = absurd (omega (arith, s))
times-by_tests k e (suc j) (x ∷ xs) [] s h = absurd (omega (arith, s))
times-by_tests k e (suc j) (x ∷ xs) (y ∷ ys) s h =
    count_by-cons (λ m. m == k) x (take j xs)
    ∙ (λ i. cond (h 0 (omega arith) i) 1 0 + times-by_tests k e j xs ys (omega (arith, s)) (λ i l. h (suc i) (omega (arith, l))) i)
    ∙ sym (count_by-cons (λ m. m == e) y (take j ys))

-- ---- the numbers of a table
module _ (edges : List ℕ) (distinct : AreDistinct edges) (k : ℕ) (inside : k < length edges) where
  one : (n : ℕ) → n < length edges → get_or edges n 0 ≡ get_or edges k 0 → n ≡ k
  one n l e = by_order (cases_order n k)
    where
      by_order : (n ≡ k) ⊎ ((n < k) ⊎ (k < n)) → n ≡ k
      by_order (inl h) = h
      by_order (inr (inl h)) = absurd (distinct n k h inside e)
      by_order (inr (inr h)) = absurd (distinct k n h l (sym e))

  same_tests : (list numbers : List ℕ) → AreNumbers edges list numbers → (j : ℕ) → j < length list
      → eqb (get_or numbers j 0) k ≡ eqb (get_or list j 0) (get_or edges k 0)
  same_tests list numbers p j l = by_test (cases_eq (get_or numbers j 0) k)
    where
      by_test : (get_or numbers j 0 ≡ k) ⊎ (get_or numbers j 0 ≡ k → ⊥) → eqb (get_or numbers j 0) k ≡ eqb (get_or list j 0) (get_or edges k 0)
      by_test (inl h) = eq-eqb _ _ h ∙ sym (eq-eqb _ _ (sym (p.is j l) ∙ ap (λ n. get_or edges n 0) h))
      by_test (inr h) = ne_eqb _ _ h ∙ sym (ne_eqb _ _ (λ q. h (one (get_or numbers j 0) (p.within j l) (p.is j l ∙ q))))

pub renumbered-popped : (starts finishes edges new_starts new_finishes next : List ℕ) (n : ℕ)
    → AreRenumbered starts finishes edges new_starts new_finishes → n ≤ length finishes
    → ArePopped next new_starts new_finishes n → ArePopped next starts finishes n
renumbered-popped starts finishes edges new_starts new_finishes next n p few popped j l =
    popped j l
    ∙ (λ i. get_or (places i) (turns i) NONE)
    ∙ ap (slot_after starts finishes j) (p.finishes_are.is j short)
  where
    short : j < length finishes
    short = omega (arith, l, few)

    places : slots 0 (get_or new_finishes j 0) new_starts ≡ slots 0 (get_or edges (get_or new_finishes j 0) 0) starts
    places =
        slots-by_tests 0 _ _ new_starts starts p.starts_are.size
        (same_tests edges p.distinct (get_or new_finishes j 0) (p.finishes_are.within j short) starts new_starts p.starts_are)

    turns : times (get_or new_finishes j 0) (take j new_finishes) ≡ times (get_or edges (get_or new_finishes j 0) 0) (take j finishes)
    turns =
        times-by_tests _ _ j new_finishes finishes p.finishes_are.size
        (same_tests edges p.distinct (get_or new_finishes j 0) (p.finishes_are.within j short) finishes new_finishes p.finishes_are)

pub numbers-below : (edges list numbers : List ℕ) (n : ℕ) → AreNumbers edges list numbers → length edges ≤ n → All (λ e. e < n) numbers
numbers-below edges list numbers n p size k d l =
    let m : k < length list = (let s = p.size in omega (arith, l, s)) in
    let same = get_or_default numbers k d 0 l in let low = p.within k m in omega (arith, same, low, size)

-- a number that no edge has
none_of : (k : ℕ) (xs : List ℕ) → All (λ e. e < k) xs → times k xs ≡ 0
none_of k [] h = refl
none_of k (x ∷ xs) h =
    let small : x < k = h 0 0 (omega arith) in
    times-other k x xs (ne_eqb x k (λ q. omega (arith, q, small))) ∙ none_of k xs (λ i d l. h (suc i) d (omega (arith, l)))

more_than : (k n : ℕ) (xs : List ℕ) → n ≤ k → All (λ e. e < n) xs → All (λ e. e < k) xs
more_than k n xs low h i d l = let m = h i d l in omega (arith, m, low)

-- each edge starts as often as it finishes, by its new number too
pub renumbered-even : (starts finishes edges new_starts new_finishes : List ℕ) → AreRenumbered starts finishes edges new_starts new_finishes
    → AreEven starts finishes → AreEven new_starts new_finishes
renumbered-even starts finishes edges new_starts new_finishes p even k = by_use (cases_lt k (length edges))
  where
    all : (e : ℕ) (xs : List ℕ) (n : ℕ) → length xs ≤ n → times e (take n xs) ≡ times e xs
    all e xs n l = ap (times e) (take_all n xs l)

    same : (inside : k < length edges) (list numbers : List ℕ) → AreNumbers edges list numbers → times k numbers ≡ times (get_or edges k 0) list
    same inside list numbers q =
        let n = q.size in
        sym (all k numbers (length list) (omega (arith, n)))
        ∙ times-by_tests k (get_or edges k 0) (length list) numbers list q.size (same_tests edges p.distinct k inside list numbers q)
        ∙ all (get_or edges k 0) list (length list) (omega arith)

    none : length edges ≤ k → (list numbers : List ℕ) → AreNumbers edges list numbers → times k numbers ≡ 0
    none low list numbers q = none_of k numbers (more_than k (length edges) numbers low (numbers-below edges list numbers (length edges) q (omega arith)))

    by_use : (k < length edges) ⊎ (length edges ≤ k) → times k new_starts ≡ times k new_finishes
    by_use (inl l) = same l starts new_starts p.starts_are ∙ even (get_or edges k 0) ∙ sym (same l finishes new_finishes p.finishes_are)
    by_use (inr l) = none l starts new_starts p.starts_are ∙ sym (none l finishes new_finishes p.finishes_are)

-- numbers below a count are those that the list of all such numbers gives
own_numbers : (n : ℕ) (list : List ℕ) → All (λ e. e < n) list → AreNumbers (range_with_len 0 n) list list
own_numbers n list below = record {
  size = refl;
  within = λ j l. let low = below j 0 l in let size = length-range_with_len 0 n in omega (arith, low, size);
  is = λ j l. get_or-range_with_len 0 n (get_or list j 0) 0 (below j 0 l) ∙ zero_plus (get_or list j 0);
}
  where
    zero_plus : (m : ℕ) → 0 + m ≡ m
    zero_plus m = omega arith

pub renumbered-not : (starts finishes : List ℕ) (n : ℕ) → All (λ e. e < n) starts → All (λ e. e < n) finishes
    → AreRenumbered starts finishes (range_with_len 0 n) starts finishes
renumbered-not starts finishes n low low' = record {
  distinct = λ i j l m e. (
      let size = length-range_with_len 0 n in
      let here = get_or-range_with_len 0 n i 0 (omega (arith, l, m, size)) in let there = get_or-range_with_len 0 n j 0 (omega (arith, m, size)) in
      omega (arith, l, e, here, there)
      );
  starts_are = own_numbers n starts low;
  finishes_are = own_numbers n finishes low';
}

-- ---- from the two lists that were numbered, one after the other
pub renumbered : (starts finishes mid edges new_starts new_finishes : List ℕ) → AreDistinct edges → length new_starts ≡ length starts
    → length new_finishes ≡ length finishes → AreNumbered [] starts mid new_starts (length starts) → AreNumbered mid finishes edges new_finishes (length finishes)
    → AreRenumbered starts finishes edges new_starts new_finishes
renumbered starts finishes mid edges new_starts new_finishes distinct size size' p q = record {
  distinct = distinct;
  starts_are = record {
    size = size;
    within = λ j l. let w = p.within j l in let n = ap length q.grown ∙ length-append mid q.more in omega (arith, w, n);
    is = λ j l. ap (λ xs. get_or xs (get_or new_starts j 0) 0) q.grown ∙ get_or_append_left mid q.more 0 (get_or new_starts j 0) (p.within j l) ∙ p.is j l;
  };
  finishes_are = record { size = size'; within = q.within; is = q.is };
}
