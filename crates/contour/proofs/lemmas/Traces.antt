-- Loops traced one by one, in order of their first segments: what they are in the end.
use Rattle.std.proofs.Common.{◌≡◌, ℕ, zero, suc, ◌+◌, ◌-◌, ◌<◌, ◌≤◌, Bool, true, false, cond, ◌&&◌, List, [], ◌∷◌, ◌++◌, ◌⊎◌, inl, inr, refl, sym, ◌∙◌, ap, subst, length, take, drop, get_or, arith, map}
use Rattle.std.specs.Prelude.{nat_le, ℤ, ◌==◌}
use Rattle.std.specs.List.{list_all, AllByRecursion}
use Rattle.std.specs.List.Sorted.{IsStrictlyIncreasing}
use Rattle.std.proofs.lemmas.Bool.{cases_eq}
use Rattle.std.proofs.lemmas.List.{length-append, map-append, take-append-le, take_all}
use Rattle.std.proofs.lemmas.List.Folds.{list_all-append}
use Rattle.plane_segments.specs.declared.segment.Segment.{Segment}
use Rattle.plane_segments.specs.Segment.{segments}
use Rattle.plane_segments.proofs.lemmas.FacetOrder.{AreFrom, segments_ascend}
use Rattle.contour.specs.Loops.{AreEnds, AreLoops, IsCycle, count_of, first_facet, is_from_least, parts_from}
use Rattle.contour.specs.Linker.{AreLinks, AreTraced, IsTracedLoop, InFacetOrder, facet_number, is_visited, unvisited}
use Rattle.contour.proofs.lemmas.Counts.{count-append}
use Rattle.geometry.specs.Facet.{Facet}
use Rattle.contour.proofs.lemmas.Parts.{AreOthers, ends-push, others-are, parts-all, parts-push}

unvisited-none : (visited : List Bool) (list : List Segment) → length visited ≡ length list → ((j : ℕ) → j < length list → is_visited visited j ≡ false) → unvisited visited list ≡ list
unvisited-none [] list e h = refl
unvisited-none (b ∷ visited) [] e h = refl
unvisited-none (b ∷ visited) (x ∷ list) e h =
    (λ i. cond (h 0 (omega arith) i) (unvisited visited list) (x ∷ unvisited visited list))
    ∙ ap (λ l. x ∷ l) (unvisited-none visited list (omega (arith, e)) (λ j l. h (suc j) (omega (arith, l))))

unvisited-all : (visited : List Bool) (list : List Segment) → length visited ≡ length list → ((j : ℕ) → j < length list → is_visited visited j ≡ true) → unvisited visited list ≡ []
unvisited-all [] [] e h = refl
unvisited-all [] (x ∷ list) e h = absurd (omega (arith, e))
unvisited-all (b ∷ visited) [] e h = refl
unvisited-all (b ∷ visited) (x ∷ list) e h =
    (λ i. cond (h 0 (omega arith) i) (unvisited visited list) (x ∷ unvisited visited list))
    ∙ unvisited-all visited list (omega (arith, e)) (λ j l. h (suc j) (omega (arith, l)))

pub trace-begins : (list : List Segment) (next : List ℕ) (visited : List Bool) → AreLinks list next → length visited ≡ length list
    → ((j : ℕ) → j < length list → is_visited visited j ≡ false) → AreTraced list next 0 visited [] []
trace-begins list next visited links e h = record {
  ends_are = refl;
  size = e;
  whole = λ j l k. h _ (links.within j l);
  earlier = λ j l. absurd (omega (arith, l));
  cycles = tt;
  least = refl;
  rising = λ k l. absurd (omega (arith, l));
  below = λ k j l m n. absurd (omega (arith, l));
  once = λ n. plain (count_of n (unvisited visited list)) ∙ ap (count_of n) (unvisited-none visited list e h);
}
  where
    plain : (k : ℕ) → 0 + k ≡ k
    plain k = omega arith

earlier_more : (visited : List Bool) (first : ℕ) → ((j : ℕ) → j < first → is_visited visited j ≡ true) → is_visited visited first ≡ true
    → (j : ℕ) → j < first + 1 → is_visited visited j ≡ true
earlier_more visited first h k j l = by_slot (cases_eq j first)
  where
    by_slot : (j ≡ first) ⊎ (j ≡ first → ⊥) → is_visited visited j ≡ true
    by_slot (inl e) = ap (is_visited visited) e ∙ k
    by_slot (inr n) = h j (omega (arith, l, n))

pub trace-skips : (list : List Segment) (next : List ℕ) (first : ℕ) (visited : List Bool) (flat : List Segment) (ends : List ℕ)
    → AreTraced list next first visited flat ends → is_visited visited first ≡ true → AreTraced list next (first + 1) visited flat ends
trace-skips list next first visited flat ends g h = record {
  ends_are = g.ends_are;
  size = g.size;
  whole = g.whole;
  earlier = earlier_more visited first g.earlier h;
  cycles = g.cycles;
  least = g.least;
  rising = g.rising;
  below = λ k j l m n. g.below k j l (omega (arith, m)) n;
  once = g.once;
}

All-push : (P : List Segment → Type 0) (xs : List (List Segment)) (y : List Segment) → AllByRecursion P xs → P y → AllByRecursion P (xs ++ y ∷ [])
All-push P [] y h k = (k, tt)
All-push P (x ∷ xs) y h k = (h.0, All-push P xs y h.1 k)

in_front : (xs ys : List ℕ) (k : ℕ) → k < length xs → get_or (xs ++ ys) k 0 ≡ get_or xs k 0
in_front [] ys k l = absurd (omega (arith, l))
in_front (x ∷ xs) ys zero l = refl
in_front (x ∷ xs) ys (suc k) l = in_front xs ys k (omega (arith, l))

at_end : (xs : List ℕ) (y : ℕ) → get_or (xs ++ y ∷ []) (length xs) 0 ≡ y
at_end [] y = refl
at_end (x ∷ xs) y = at_end xs y

rising-push : (xs : List ℕ) (y : ℕ) → IsStrictlyIncreasing xs → ((k : ℕ) → k < length xs → get_or xs k 0 < y) → IsStrictlyIncreasing (xs ++ y ∷ [])
rising-push xs y h b k l = by_slot (cases_eq (k + 1) (length xs))
  where
    by_slot : (k + 1 ≡ length xs) ⊎ (k + 1 ≡ length xs → ⊥) → get_or (xs ++ y ∷ []) k 0 < get_or (xs ++ y ∷ []) (k + 1) 0
    by_slot (inl e) =
        let last : get_or (xs ++ y ∷ []) (k + 1) 0 ≡ y = ap (λ m. get_or (xs ++ y ∷ []) m 0) e ∙ at_end xs y in
        let front = in_front xs (y ∷ []) k (omega (arith, e)) in
        let low = b k (omega (arith, e)) in
        omega (arith, last, front, low)
    by_slot (inr n) =
        let size = length-append xs (y ∷ []) in
        let front = in_front xs (y ∷ []) k (omega (arith, l, n, size)) in
        let front' = in_front xs (y ∷ []) (k + 1) (omega (arith, l, n, size)) in
        let low = h k (omega (arith, l, n, size)) in
        omega (arith, front, front', low)

module _ (list : List Segment) (next : List ℕ) (order : InFacetOrder list) (first : ℕ) (inside : first < length list) (visited after : List Bool) (flat : List Segment) (ends : List ℕ)
    (part : List Segment) (g : AreTraced list next first visited flat ends) (size : length after ≡ length list) (t : IsTracedLoop list next first visited after part) where
  end : ℕ
  end = length (flat ++ part)

  found : parts_from 0 (ends ++ length (flat ++ part) ∷ []) (flat ++ part) ≡ parts_from 0 ends flat ++ part ∷ []
  found =
      parts-push 0 ends flat part (length flat) (length (flat ++ part)) g.ends_are (omega arith)
      (let e = length-append flat part in omega (arith, e))

  heads : map first_facet (parts_from 0 (ends ++ length (flat ++ part) ∷ []) (flat ++ part)) ≡ map first_facet (parts_from 0 ends flat) ++ facet_number list first ∷ []
  heads =
      ap (map first_facet) found ∙ map-append first_facet (parts_from 0 ends flat) (part ∷ [])
      ∙ ap (λ n. map first_facet (parts_from 0 ends flat) ++ n ∷ []) t.head

  abbrev Below : List ℕ → Type 0
  Below hs = (k j : ℕ) → k < length hs → first + 1 ≤ j → j < length list → get_or hs k 0 < facet_number list j

  below_more : Below (map first_facet (parts_from 0 ends flat) ++ facet_number list first ∷ [])
  below_more k j l m n = by_slot (cases_eq k (length (map first_facet (parts_from 0 ends flat))))
    where
      by_slot : (k ≡ length (map first_facet (parts_from 0 ends flat))) ⊎ (k ≡ length (map first_facet (parts_from 0 ends flat)) → ⊥)
          → get_or (map first_facet (parts_from 0 ends flat) ++ facet_number list first ∷ []) k 0 < facet_number list j
      by_slot (inl e) =
          let last = ap (λ i. get_or (map first_facet (parts_from 0 ends flat) ++ facet_number list first ∷ []) i 0) e ∙ at_end (map first_facet (parts_from 0 ends flat)) (facet_number list first) in
          let up = order first j (omega (arith, m)) n in omega (arith, last, up)
      by_slot (inr d) =
          let long = length-append (map first_facet (parts_from 0 ends flat)) (facet_number list first ∷ []) in
          let short : k < length (map first_facet (parts_from 0 ends flat)) = omega (arith, l, long, d) in
          let front = in_front (map first_facet (parts_from 0 ends flat)) (facet_number list first ∷ []) k short in
          let low = g.below k j short (omega (arith, m)) n in omega (arith, front, low)

  from_least : is_from_least part ≡ true
  from_least = ap (λ n. list_all (λ (s : Segment). nat_le n s.facet) part) t.head ∙ t.least

  pub trace-takes : AreTraced list next (first + 1) after (flat ++ part) (ends ++ length (flat ++ part) ∷ [])
  trace-takes = record {
    ends_are = ends-push 0 ends (length flat) (length (flat ++ part)) g.ends_are (let e = length-append flat part in omega (arith, e));
    size = size;
    whole = t.whole;
    earlier = earlier_more after first (λ j l. t.kept j (g.earlier j l)) t.done;
    cycles = subst (AllByRecursion (IsCycle list)) (sym found) (All-push (IsCycle list) (parts_from 0 ends flat) part g.cycles t.cycle);
    least = ap (list_all is_from_least) found ∙ list_all-append is_from_least (parts_from 0 ends flat) (part ∷ []) ∙ (λ i. g.least i && (from_least i && true));
    rising = subst IsStrictlyIncreasing (sym heads)
        (rising-push (map first_facet (parts_from 0 ends flat)) (facet_number list first) g.rising (λ k l. g.below k first l (omega arith) inside));
    below = subst Below (sym heads) below_more;
    once = λ n.
        let a = count-append (λ (s : Segment). s.facet == n) flat part in
        let b = t.once n in let c = g.once n in omega (arith, a, b, c);
  }

pub trace-ends : (list : List Segment) (next : List ℕ) (first : ℕ) (visited : List Bool) (flat : List Segment) (ends : List ℕ)
    → AreTraced list next first visited flat ends → length list ≤ first → AreLoops list (parts_from 0 ends flat)
trace-ends list next first visited flat ends g l = record {
  cycles = g.cycles;
  from_least = g.least;
  in_order = g.rising;
  once = λ n.
      ap (count_of n) (parts-all 0 ends flat (let z : length flat ≡ length flat + 0 = omega arith in subst (AreEnds 0 ends) z g.ends_are))
      ∙ (let a = g.once n in
      let b : count_of n (unvisited visited list) ≡ 0 = ap (count_of n) (unvisited-all visited list g.size (λ j m. g.earlier j (omega (arith, m, l)))) in omega (arith, a, b));
}

-- no loop is empty, so the ends of all but the last one give its end too
pub trace-others : (list : List Segment) (next : List ℕ) (first : ℕ) (visited : List Bool) (flat : List Segment) (ends inner : List ℕ) (m : ℕ)
    → AreTraced list next first visited flat ends → inner ≡ take m ends → m ≡ length ends - 1 → AreOthers ends inner (length flat)
trace-others list next first visited flat ends inner m g told e =
    subst (λ es. AreOthers ends es (length flat)) (sym told) (others-are (IsCycle list) (λ none. none) m ends flat e g.ends_are g.cycles)

from_on : (a b : ℕ) (list : List Segment) (k : ℕ) → AreFrom a b list → k < length list → a ≤ facet_number list k
from_on a b [] k h l = absurd (omega (arith, l))
from_on a b (x ∷ list) zero h l = h.0
from_on a b (x ∷ list) (suc k) h l =
    let low : a ≤ x.facet = h.0 in let r = from_on (x.facet + 1) b list k h.2 (omega (arith, l)) in omega (arith, low, r)

AreFrom-order : (a b : ℕ) (list : List Segment) → AreFrom a b list → InFacetOrder list
AreFrom-order a b [] h i j l m = absurd (omega (arith, m))
AreFrom-order a b (x ∷ list) h i zero l m = absurd (omega (arith, l))
AreFrom-order a b (x ∷ list) h zero (suc j) l m = let r = from_on (x.facet + 1) b list j h.2 (omega (arith, m)) in omega (arith, r)
AreFrom-order a b (x ∷ list) h (suc i) (suc j) l m = AreFrom-order (x.facet + 1) b list h.2 i j (omega (arith, l)) (omega (arith, m))

pub segments_rise : (facets : List Facet) (list : List Segment) → (z : ℤ) × (list ≡ segments facets z) → InFacetOrder list
segments_rise facets list e = AreFrom-order 0 (length facets) list (subst (AreFrom 0 (length facets)) (sym e.1) (segments_ascend facets e.0))

pub cut : {X : Type 0} (n : ℕ) (xs ys : List X) → length xs ≡ n → take n (xs ++ drop (length xs) ys) ≡ xs
cut n xs ys e = take-append-le n xs (drop (length xs) ys) (omega (arith, e)) ∙ take_all n xs (omega (arith, e))
