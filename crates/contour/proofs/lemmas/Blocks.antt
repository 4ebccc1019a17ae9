-- An order by height, passed block by block, and a block in which all facets have ended.
use Rattle.std.proofs.Common.{◌≡◌, ℕ, ◌+◌, ◌^◌, ◌<◌, ◌≤◌, ◌++◌, Bool, true, false, cond, eqb, List, [], ◌∷◌, refl, sym, ◌∙◌, ap, subst, length, take, drop, get_or, min, arith}
use Rattle.std.specs.Prelude.{All, filter, ℤ, pos, ◌*ℤ◌, ◌≤ℤ◌}
use Rattle.std.specs.Int.{int_max, int_min}
use Rattle.std.specs.List.{prefix_len}
use Rattle.std.proofs.Math.Seq.{take-add}
use Rattle.std.proofs.lemmas.Bool.{eq-eqb, ne_eqb}
use Rattle.std.proofs.lemmas.Int.{ints}
use Rattle.std.proofs.lemmas.List.{append-nil, drop-drop, drop_all, drop_min, drop_more, length-drop, length-take, take-append-drop, take-take, take_all}
use Rattle.std.proofs.lemmas.List.Elements.{All-drop, All-tail, All-take, All-weaker, filter-append, recursion_from_All}
use Rattle.std.proofs.lemmas.List.Folds.{prefix_len-append}
use Rattle.std.proofs.lemmas.List.Sums.{prefix_len-le-length}
use mir.Syntax.{w64}
use mir.Val.{Fits}
use Rattle.geometry.specs.TieRule.{is_below, is_above}
use Rattle.geometry.specs.Facet.{Facet, greatest_z, least_z}
use Rattle.mesh_weld.specs.Solid.{AreBlockTops, IsTop, facet_at, top_of}
use Rattle.mesh_weld.specs.declared.height_order.TheConstants.{BLOCK_LEN}
use Rattle.contour.specs.Active.{ends_above, starts_by}
use Rattle.contour.proofs.lemmas.Swept.{none_pass}

-- ---- one part of a list after another
-- the first elements of a list were passed: each of them passes p, and `found` has those that pass q
pub record ArePassed {X : Type 0} (p q : X → Bool) (xs : List X) (count : ℕ) (rest found : List X) : Type 0 where
  pub reached : count + prefix_len p rest ≡ prefix_len p xs
  pub within : count ≤ length xs
  pub rest_is : rest ≡ drop count xs
  pub found_is : found ≡ filter q (take count xs)

pub passed_none : {X : Type 0} (p q : X → Bool) (xs found : List X) → found ≡ [] → ArePassed p q xs 0 xs found
passed_none p q xs found e = record { reached = omega arith; within = omega arith; rest_is = refl; found_is = e }

-- once nothing is left
pub passed_all : {X : Type 0} (p q : X → Bool) (xs : List X) (count : ℕ) (rest found : List X) → rest ≡ []
    → ArePassed p q xs count rest found → count ≡ prefix_len p xs
passed_all p q xs count rest found none passed =
    let end : prefix_len p rest ≡ 0 = ap (prefix_len p) none in
    let r = passed.reached in
    omega (arith, end, r)

-- n of the next m elements pass p, up to the first that does not
module _ {X : Type 0} (p q : X → Bool) (xs : List X) (count : ℕ) (rest found : List X) (m n : ℕ) (passed : ArePassed p q xs count rest found)
    (is : n ≡ prefix_len p (take m rest)) where
  at_most : n ≤ length (take m rest)
  at_most = subst (λ k. k ≤ length (take m rest)) (sym is) (prefix_len-le-length p (take m rest))

  sum_within : count + n ≤ length xs
  sum_within =
      let inside = passed.within in
      omega (arith, at_most, length-take m rest, ap length passed.rest_is, length-drop count xs, inside)

  in_parts : prefix_len p rest
      ≡ cond (eqb (prefix_len p (take m rest)) (length (take m rest))) (length (take m rest) + prefix_len p (drop m rest)) (prefix_len p (take m rest))
  in_parts = ap (prefix_len p) (sym (take-append-drop m rest)) ∙ prefix_len-append p (take m rest) (drop m rest)

  goes_on : length (take m rest) ≤ n → prefix_len p rest ≡ n + prefix_len p (drop m rest)
  goes_on whole =
      let full : prefix_len p (take m rest) ≡ length (take m rest) = omega (arith, is, whole, at_most) in
      in_parts
      ∙ ap (λ b. cond b (length (take m rest) + prefix_len p (drop m rest)) (prefix_len p (take m rest)))
      (eq-eqb (prefix_len p (take m rest)) (length (take m rest)) full)
      ∙ ap (λ k. k + prefix_len p (drop m rest)) (sym full ∙ sym is)

  ends : n < length (take m rest) → prefix_len p rest ≡ n
  ends short =
      in_parts
      ∙ ap (λ b. cond b (length (take m rest) + prefix_len p (drop m rest)) (prefix_len p (take m rest)))
      (ne_eqb (prefix_len p (take m rest)) (length (take m rest)) (λ e. omega (arith, e, is, short)))
      ∙ sym is

  left : length (take m rest) ≤ n → drop m rest ≡ drop (count + n) xs
  left whole =
      let as_many : min m (length rest) ≡ n = omega (arith, whole, at_most, length-take m rest) in
      sym (drop_min m rest) ∙ ap (λ k. drop k rest) as_many ∙ ap (drop n) passed.rest_is ∙ drop-drop n count xs

  module _ (new : List X) (pushed : new ≡ found ++ filter q (take n (take m rest))) where
    pub found_more : new ≡ filter q (take (count + n) xs)
    found_more =
        pushed
        ∙ ap (λ ys. found ++ filter q ys) (take-take n m rest (omega (arith, at_most, length-take m rest)) ∙ ap (take n) passed.rest_is)
        ∙ ap (λ ys. ys ++ filter q (take n (drop count xs))) passed.found_is
        ∙ sym (ap (filter q) (take-add count n xs) ∙ filter-append q (take count xs) (take n (drop count xs)))

    pub passed_more : length (take m rest) ≤ n → ArePassed p q xs (count + n) (drop m rest) new
    passed_more whole =
        let on = goes_on whole in
        let r = passed.reached in
        record { reached = omega (arith, on, r); within = sum_within; rest_is = left whole; found_is = found_more }

  pub passed_last : n < length (take m rest) → count + n ≡ prefix_len p xs
  passed_last short =
      let end = ends short in
      let r = passed.reached in
      omega (arith, end, r)

  pub count_fits : length xs < 2 ^ 64 → Fits w64 (count + n)
  count_fits small = record { fits = omega (arith, sum_within, small) }

-- ---- a part of an order
pub all_in_part : (P : ℕ → Type 0) (order : List ℕ) (count m : ℕ) (rest part : List ℕ) → rest ≡ drop count order → part ≡ take m rest
    → All P order → All P part
all_in_part P order count m rest part r is all =
    subst (All P) (sym (is ∙ ap (take m) r)) (All-take P m (drop count order) (All-drop P count order all))

-- the top of the next block, and those of the blocks behind it
pub next_top : (height : ℕ → ℤ) (rest : List ℕ) (tops : List ℤ) (i : ℕ) (d : ℤ) → i < length tops → AreBlockTops height rest (drop i tops)
    → IsTop height (take BLOCK_LEN rest) (get_or tops i d) × AreBlockTops height (drop BLOCK_LEN rest) (drop (i + 1) tops)
next_top height rest tops i d l h = subst (AreBlockTops height rest) (drop_more tops i d l) h

pub no_block : (height : ℕ → ℤ) (rest : List ℕ) (tops : List ℤ) (i : ℕ) → length tops ≤ i → AreBlockTops height rest (drop i tops) → rest ≡ []
no_block height rest tops i l h = subst (AreBlockTops height rest) (drop_all i tops l) h

-- ---- a block whose top is not above a height
least-greatest : (a b c : ℤ) → int_min (int_min a b) c ≤ℤ int_max (int_max a b) c
least-greatest a b c = grind (arith, ints)

started-below : (low high top z : ℤ) → low ≤ℤ high → high ≤ℤ top → is_above (pos 2 *ℤ top) z ≡ false → is_below (pos 2 *ℤ low) z ≡ true
started-below low high top z h k e = grind (arith, ints)

ended-below : (high top z : ℤ) → high ≤ℤ top → is_above (pos 2 *ℤ top) z ≡ false → is_above (pos 2 *ℤ high) z ≡ false
ended-below high top z k e = grind (arith, ints)

all_pass : {X : Type 0} (p : X → Bool) (xs : List X) → All (λ x. p x ≡ true) xs → length xs ≡ prefix_len p xs
all_pass p [] h = refl
all_pass p (x ∷ xs) h =
    let rest : length xs ≡ prefix_len p xs = all_pass p xs (All-tail (λ y. p y ≡ true) x xs h) in
    let one : length (x ∷ xs) ≡ 1 + prefix_len p xs = omega (arith, rest) in
    one ∙ sym (ap (λ b. cond b (1 + prefix_len p xs) 0) (h 0 x (omega arith)))

module _ (facets : List Facet) (z top : ℤ) (block : List ℕ) (within : All (λ n. top_of facets n ≤ℤ top) block)
    (under : is_above (pos 2 *ℤ top) z ≡ false) where
  pub block_started : length block ≡ prefix_len (starts_by facets z) block
  block_started =
      all_pass (starts_by facets z) block
      (All-weaker (λ n. top_of facets n ≤ℤ top) (λ n. starts_by facets z n ≡ true)
      (λ n h. started-below (least_z (facet_at facets n)) (greatest_z (facet_at facets n)) top z
      (least-greatest (facet_at facets n).a.z (facet_at facets n).b.z (facet_at facets n).c.z) h under)
      block within)

  pub block_ended : (old : List ℕ) → old ≡ old ++ filter (ends_above facets z) (take (length block) block)
  block_ended old =
      let none : filter (ends_above facets z) block ≡ [] =
      none_pass (ends_above facets z) block
      (recursion_from_All (λ n. ends_above facets z n ≡ false) block
      (All-weaker (λ n. top_of facets n ≤ℤ top) (λ n. ends_above facets z n ≡ false)
      (λ n h. ended-below (greatest_z (facet_at facets n)) top z h under) block within)) in
      sym (append-nil old) ∙ ap (λ ks. old ++ ks) (sym (ap (filter (ends_above facets z)) (take_all (length block) block (omega arith)) ∙ none))
