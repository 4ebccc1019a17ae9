-- Passes are put at the end of a list and taken from there, one by one. What the lists of the passes taken so far add up to,
-- and what closing says of them.
use Rattle.std.proofs.Common.{◌≡◌, ℕ, zero, suc, ◌+◌, ◌<◌, ◌≤◌, true, List, [], ◌∷◌, ◌++◌, length, sum_by, All, Any, nat_le, refl, sym, ap, ◌∙◌, subst, arith, length-append, ltb-true}
use Rattle.std.specs.Prelude.{◌==◌}
use Rattle.std.proofs.lemmas.List.{get_or_at, get_or_append_left}
use Rattle.std.proofs.lemmas.List.Elements.{All-append}
use Rattle.std.proofs.lemmas.List.Sums.{sum_by_push}
use Rattle.atomic_table.proofs.Lists.{at_index}
use Rattle.stripe_claims.specs.declared.machine.Hand.{Hand}
use Rattle.stripe_claims.specs.Machine.{one_if, times, once_below, IsEachOnce, beyond, given}
use Rattle.stripe_claims.specs.Claims.{Claims, Pass, found_by_all, IsOwned, plan_of, HasGathered, HasReached}
use Rattle.stripe_claims.proofs.lemmas.Counts.{sum_by-flat, length-flat, sum_by-one-le, beyond_below, below-all, each-given}
use Rattle.stripe_claims.proofs.lemmas.Moves.{Closed}

module _ {X : Type 0} where
  pub all_none : (P : X → Type 0) (xs : List X) → xs ≡ [] → All P xs
  all_none P xs is = subst (All P) (sym is) (λ k d lt. absurd (omega arith))

  pub all_last : (P : X → Type 0) (xs all : List X) (x : X) → all ≡ xs ++ x ∷ [] → All P all → P x
  all_last P xs all x is h =
      let h' : All P (xs ++ x ∷ []) = subst (All P) is h in
      subst P (get_or_at xs x [] x (length xs) refl) (h' (length xs) x (omega (arith, length-append xs (x ∷ []))))

  pub all_front : (P : X → Type 0) (xs all : List X) (x : X) → all ≡ xs ++ x ∷ [] → All P all → All P xs
  all_front P xs all x is h k d lt =
      let h' : All P (xs ++ x ∷ []) = subst (All P) is h in
      subst P (get_or_append_left xs (x ∷ []) d k lt) (h' k d (omega (arith, length-append xs (x ∷ []))))

  pub all_push : (P : X → Type 0) (xs all : List X) (x : X) → all ≡ xs ++ x ∷ [] → All P xs → P x → All P all
  all_push P xs all x is h p = subst (All P) (sym is) (All-append P xs (x ∷ []) h one)
    where
      one : All P (x ∷ [])
      one zero d lt = p
      one (suc k) d lt = absurd (omega arith)

  pub count_push : (xs all : List X) (x : X) (n : ℕ) → all ≡ xs ++ x ∷ [] → length xs ≡ n → length all ≡ n + 1
  count_push xs all x n is count = ap (λ (l : List X). length l) is ∙ length-append xs (x ∷ []) ∙ ap (λ k. k + 1) count

  pub none_of : (xs : List X) → length xs ≡ 0 → xs ≡ []
  none_of [] none = refl
  none_of (x ∷ xs) none = absurd (omega arith)

abbrev found : Pass → List ℕ
found p = p.found

pub times_pop : (n : ℕ) (all rest : List Pass) (p : Pass) → all ≡ rest ++ p ∷ [] → times n (found_by_all all) ≡ times n (found_by_all rest) + times n p.found
times_pop n all rest p is =
    let f : ℕ → ℕ = λ y. one_if (y == n) in
    let g : Pass → ℕ = λ q. sum_by f (found q) in
    ap (λ ps. times n (found_by_all ps)) is
    ∙ omega (arith, sum_by-flat f found (rest ++ p ∷ []), sum_by-flat f found rest, sum_by_push g rest p)

pub length_pop : (all rest : List Pass) (p : Pass) → all ≡ rest ++ p ∷ [] → length (found_by_all all) ≡ length (found_by_all rest) + length p.found
length_pop all rest p is =
    let g : Pass → ℕ = λ q. length (found q) in
    ap (λ ps. length (found_by_all ps)) is
    ∙ omega (arith, length-flat found (rest ++ p ∷ []), length-flat found rest, sum_by_push g rest p)

pub times_none : (n : ℕ) (passes : List Pass) → passes ≡ [] → times n (found_by_all passes) ≡ 0
times_none n passes none = ap (λ ps. times n (found_by_all ps)) none

pub length_none : (passes : List Pass) → passes ≡ [] → length (found_by_all passes) ≡ 0
length_none passes none = ap (λ ps. length (found_by_all ps)) none

-- if a pass has ended, the word is above `stripes`
ended_past : (claims : Claims) (passes : List Pass) (word : ℕ) → All (IsOwned claims) passes → ((x : ℕ) → times x (found_by_all passes) ≤ once_below x word) → Any (λ p. p.has_ended ≡ true) passes → claims.stripes < word
ended_past claims passes word owned once (k, p, lt, at, ended) =
    let n = claims.stripes in
    let mine : IsOwned claims p = subst (IsOwned claims) at (owned k p lt) in
    let some_beyond : 0 < beyond n p.found = ltb-true 0 (beyond n p.found) (sym mine.ends ∙ ended) in
    let g : Pass → ℕ = λ q. beyond n (found q) in
    let part = sum_by-one-le g passes k p (at_index passes k p lt (sym at)) in
    let all = sum_by-flat (λ y. one_if (nat_le n y)) found passes in
    beyond_below n word (found_by_all passes) (below-all word (found_by_all passes) once) (omega arith)

first_of : (P : Pass → Type 0) (passes : List Pass) → 0 < length passes → All P passes → Any P passes
first_of P [] lt all = absurd (omega arith)
first_of P (p ∷ ps) lt all = (0, p, lt, refl, all 0 p lt)

-- What closing says of the passes that it is given.
pub record ClosedBy (claims : Claims) (passes : List Pass) (word : ℕ) : Type 0 where
  pub machine : HasGathered claims passes word
  pub once : (x : ℕ) → times x (found_by_all passes) ≤ once_below x word
  pub count : length (found_by_all passes) ≤ word
  pub ended : Any (λ p. p.has_ended ≡ true) passes → claims.stripes < word
  pub whole : length passes ≡ claims.passes → IsEachOnce word (found_by_all passes)
  pub all : length passes ≡ claims.passes → length (found_by_all passes) ≡ word
  pub given : length passes ≡ claims.passes → All (λ p. p.has_ended ≡ true) passes → IsEachOnce claims.stripes (given claims.stripes (found_by_all passes))

-- if none is given, not all are, since claims have at least one
pub closed_none : (claims : Claims) (passes : List Pass) (word : ℕ) → passes ≡ [] → HasGathered claims [] word → 0 < claims.passes → ClosedBy claims passes word
closed_none claims passes word none last some =
    let zero = ap (λ (ps : List Pass). length ps) none in
    record {
      machine = subst (λ ps. HasGathered claims ps word) (sym none) last;
      once = λ x. (let t = times_none x passes none in omega arith);
      count = (let l = length_none passes none in omega arith);
      ended = λ (k, p, lt, at, ended). absurd (omega arith);
      whole = λ all. absurd (omega arith);
      all = λ all. absurd (omega arith);
      given = λ all. absurd (omega arith);
    }

-- a hand that has found what these passes have says of them what it says of itself
pub closed_all : (claims : Claims) (passes : List Pass) (h : Hand) (word : ℕ) → All (IsOwned claims) passes → 0 < length passes → h.stands_for ≡ length passes
    → ((x : ℕ) → times x h.found ≡ times x (found_by_all passes)) → length h.found ≡ length (found_by_all passes) → HasReached claims h word → Closed (plan_of claims) h word → ClosedBy claims passes word
closed_all claims passes h word owned some stands same long last told =
    let once : (x : ℕ) → times x (found_by_all passes) ≤ once_below x word = λ x. subst (λ (t : ℕ). t ≤ once_below x word) (same x) (told.once x) in
    let ended = ended_past claims passes word owned once in
    let whole : length passes ≡ claims.passes → IsEachOnce word (found_by_all passes) = λ all x. sym (same x) ∙ told.whole (stands ∙ all) x in
    record {
      machine = record { hands = last.hands; reached = last.reached; joined = λ _. record { id = last.id; hand = h; there = last.there; stands = stands; found = same } };
      once = once;
      count = subst (λ (n : ℕ). n ≤ word) long told.count;
      ended = ended;
      whole = whole;
      all = λ all. sym long ∙ told.all (stands ∙ all);
      given = λ all each. each-given claims.stripes word (found_by_all passes) (ended (first_of (λ (p : Pass). p.has_ended ≡ true) passes some each)) (whole all);
    }
