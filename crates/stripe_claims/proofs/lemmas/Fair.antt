-- However hands draw, split and join, the lists are fair at every moment.
use Rattle.std.proofs.Common.{◌≡◌, ◌≢◌, ℕ, zero, suc, ◌+◌, ◌<◌, ◌≤◌, List, [], ◌∷◌, ◌++◌, length, set, sum_by, All, nat_le, length-append, zero-add, refl, sym, ap, ◌∙◌, subst, ⊎_elim, arith}
use Rattle.std.specs.Prelude.{◌==◌}
use Rattle.std.proofs.lemmas.List.Sums.{sum_by-append, sum_by_push}
use Rattle.std.proofs.lemmas.Bool.Decides.{nat_tests}
use mathlib.Core.Option.{some, some-ne-none, some-injective}
use lib.ListN.{get_elem?}
use Rattle.atomic_table.proofs.Lists.{at_set, at_snoc}
use Rattle.stripe_claims.specs.declared.machine.Hand.{Hand}
use Rattle.stripe_claims.specs.declared.machine.Plan.{Plan}
use Rattle.stripe_claims.specs.Machine.{one_if, times, once_below, beyond, hand, all_found, Moment, first_moment, IsDraw, IsSplit, IsJoin, both_hands, nobody, Step, Step.draw, Step.split, Step.join, IsReachable, IsReachable.first, IsReachable.next, IsFair, NeverTwice, EndsLast}
use Rattle.stripe_claims.proofs.lemmas.Counts.{sum_by-two-le, once_at_most, once_when, beyond_below, sum_by-set, sum_by-one-le, sum_by-all, length-all, below-all, once_more, sum_by-below}

-- a fact of each hand, after one has changed
each_set : (F : Hand → Type 0) (hands : List Hand) (id : ℕ) (w : Hand) → ((j : ℕ) (u : Hand) → get_elem? hands j ≡ some u → F u) → F w → (j : ℕ) (u : Hand) → get_elem? (set hands id w) j ≡ some u → F u
each_set F hands id w others mine j u at =
    ⊎_elim
    (λ (x : (j ≡ id) × (w ≡ u)). subst F x.1 mine)
    (λ (x : (j ≢ id) × (get_elem? hands j ≡ some u)). others j u x.1)
    (at_set hands id j w u at)

-- a fact of each hand, after one was added
each_snoc : (F : Hand → Type 0) (hands : List Hand) (w : Hand) → ((j : ℕ) (u : Hand) → get_elem? hands j ≡ some u → F u) → F w → (j : ℕ) (u : Hand) → get_elem? (hands ++ w ∷ []) j ≡ some u → F u
each_snoc F hands w others mine j u at = ⊎_elim (λ was. others j u was) (λ (same : w ≡ u). subst F same mine) (at_snoc hands w u j at)

abbrev Few : Plan → Hand → Type 0
Few plan h = beyond plan.stripes h.found ≤ h.stands_for

abbrev Spent : Hand → Type 0
Spent h = h.stands_for ≡ 0 → h.found ≡ []

-- a sum over all lists, after one number was appended to one of them
appended : (f : ℕ → ℕ) (hands : List Hand) (id : ℕ) (h : Hand) (x : ℕ) → get_elem? hands id ≡ some h → sum_by f (all_found (set hands id (hand h.stands_for (h.found ++ x ∷ [])))) ≡ sum_by f (all_found hands) + f x
appended f hands id h x at =
    let after = hand h.stands_for (h.found ++ x ∷ []) in
    let g : Hand → ℕ = λ k. sum_by f k.found in
    omega (arith, sum_by-all f hands, sum_by-all f (set hands id after), sum_by-set g hands id h after at, sum_by_push f h.found x)

appended_length : (hands : List Hand) (id : ℕ) (h : Hand) (x : ℕ) → get_elem? hands id ≡ some h → length (all_found (set hands id (hand h.stands_for (h.found ++ x ∷ [])))) ≡ length (all_found hands) + 1
appended_length hands id h x at =
    let after = hand h.stands_for (h.found ++ x ∷ []) in
    let g : Hand → ℕ = λ k. length k.found in
    omega (arith, length-all hands, length-all (set hands id after), sum_by-set g hands id h after at, length-append h.found (x ∷ []))

past_by : (n w t : ℕ) → w ≤ n + t → w + 1 ≤ n + (t + one_if (nat_le n w))
past_by n w t h = grind (arith, nat_tests)

beyond_by : (n w : ℕ) → one_if (nat_le n w) ≤ 1
beyond_by n w = grind (arith, nat_tests)

fair_start : (plan : Plan) → IsFair plan (first_moment plan)
fair_start plan =
    record {
      each_once = λ x. sym (nothing_below x);
      as_long = refl;
      few_beyond = alone (Few plan) (hand plan.passes []) (omega arith);
      spent = alone Spent (hand plan.passes []) (λ _. refl);
      together = zero-add plan.passes;
      past = omega arith;
    }
  where
    nothing_below : (x : ℕ) → once_below x 0 ≡ 0
    nothing_below x = grind (arith, nat_tests)

    alone : (F : Hand → Type 0) (h : Hand) → F h → (j : ℕ) (u : Hand) → get_elem? (h ∷ []) j ≡ some u → F u
    alone F h f zero u at = subst F (some-injective h u at) f
    alone F h f (suc j) u at = absurd (some-ne-none u (sym at))

fair_draw : (plan : Plan) (m after : Moment) (id : ℕ) (h : Hand) → IsFair plan m → IsDraw plan m id h after → IsFair plan after
fair_draw plan m after id h fair d =
    let n = plan.stripes in
    let w = m.word in
    let drawn = hand h.stands_for (h.found ++ w ∷ []) in
    let at = d.there in
    let none = d.goes_on in
    let some_pass = d.stands in
    let one = beyond_by n w in
    let push = sum_by_push (λ y. one_if (nat_le n y)) h.found w in
    subst (IsFair plan) (sym d.becomes)
    (record {
      each_once = λ x. appended (λ y. one_if (y == x)) m.hands id h w at ∙ ap (λ t. t + one_if (w == x)) (fair.each_once x) ∙ once_more x w;
      as_long = appended_length m.hands id h w at ∙ ap (λ t. t + 1) fair.as_long;
      few_beyond = each_set (Few plan) m.hands id drawn fair.few_beyond (omega arith);
      spent = each_set Spent m.hands id drawn fair.spent (λ spent. absurd (omega arith));
      together = (let t = sum_by-set (λ (k : Hand). k.stands_for) m.hands id h drawn at in let k = fair.together in omega arith);
      past = subst (λ t. w + 1 ≤ n + t) (sym (appended (λ y. one_if (nat_le n y)) m.hands id h w at)) (past_by n w (beyond n (all_found m.hands)) fair.past);
    })

-- a sum over all lists, after one hand was cut in two
split_sum : (f : ℕ → ℕ) (hands : List Hand) (id left moved : ℕ) (h : Hand) → get_elem? hands id ≡ some h → sum_by f (all_found (set hands id (hand left h.found) ++ hand moved [] ∷ [])) ≡ sum_by f (all_found hands)
split_sum f hands id left moved h at =
    let g : Hand → ℕ = λ k. sum_by f k.found in
    let after = set hands id (hand left h.found) in
    omega (arith, sum_by-all f hands, sum_by-all f (after ++ hand moved [] ∷ []), sum_by_push g after (hand moved []), sum_by-set g hands id h (hand left h.found) at)

split_length : (hands : List Hand) (id left moved : ℕ) (h : Hand) → get_elem? hands id ≡ some h → length (all_found (set hands id (hand left h.found) ++ hand moved [] ∷ [])) ≡ length (all_found hands)
split_length hands id left moved h at =
    let g : Hand → ℕ = λ k. length k.found in
    let after = set hands id (hand left h.found) in
    omega (arith, length-all hands, length-all (after ++ hand moved [] ∷ []), sum_by_push g after (hand moved []), sum_by-set g hands id h (hand left h.found) at)

fair_split : (plan : Plan) (m after : Moment) (id left moved : ℕ) (h : Hand) → IsFair plan m → IsSplit m id left moved h after → IsFair plan after
fair_split plan m after id left moved h fair d =
    let n = plan.stripes in
    let at = d.there in
    let rest = hand left h.found in
    let cut = hand moved [] in
    let hands = set m.hands id rest in
    let none : beyond n h.found ≡ 0 = ap (beyond n) d.nothing in
    subst (IsFair plan) (sym d.becomes)
    (record {
      each_once = λ x. split_sum (λ y. one_if (y == x)) m.hands id left moved h at ∙ fair.each_once x;
      as_long = split_length m.hands id left moved h at ∙ fair.as_long;
      few_beyond = each_snoc (Few plan) hands cut (each_set (Few plan) m.hands id rest fair.few_beyond (omega arith)) (omega arith);
      spent = each_snoc Spent hands cut (each_set Spent m.hands id rest fair.spent (λ _. d.nothing)) (λ _. refl);
      together = (let g : Hand → ℕ = λ k. k.stands_for in let p = sum_by_push g hands cut in let t = sum_by-set g m.hands id h rest at in let s = d.parts in let k = fair.together in omega arith);
      past = subst (λ t. m.word ≤ n + t) (sym (split_sum (λ y. one_if (nat_le n y)) m.hands id left moved h at)) fair.past;
    })

-- the other hand is still there after the first one took it in
other_still : (hands : List Hand) (id other : ℕ) (both w : Hand) → other ≢ id → get_elem? hands other ≡ some w → get_elem? (set hands id both) other ≡ some w
other_still [] id other both w apart at = at
other_still (x ∷ xs) zero zero both w apart at = absurd (apart refl)
other_still (x ∷ xs) zero (suc j) both w apart at = at
other_still (x ∷ xs) (suc i) zero both w apart at = at
other_still (x ∷ xs) (suc i) (suc j) both w apart at = other_still xs i j both w (λ e. apart (ap suc e)) at

-- a sum over all lists, after one hand took in another
joined_sum : (f : ℕ → ℕ) (hands : List Hand) (id other : ℕ) (v w : Hand) → get_elem? hands id ≡ some v → get_elem? (set hands id (both_hands v w)) other ≡ some w
    → sum_by f (all_found (set (set hands id (both_hands v w)) other nobody)) ≡ sum_by f (all_found hands)
joined_sum f hands id other v w at there =
    let g : Hand → ℕ = λ k. sum_by f k.found in
    let one = set hands id (both_hands v w) in
    omega (arith, sum_by-all f hands, sum_by-all f (set one other nobody), sum_by-set g hands id v (both_hands v w) at, sum_by-set g one other w nobody there, sum_by-append f v.found w.found)

joined_length : (hands : List Hand) (id other : ℕ) (v w : Hand) → get_elem? hands id ≡ some v → get_elem? (set hands id (both_hands v w)) other ≡ some w
    → length (all_found (set (set hands id (both_hands v w)) other nobody)) ≡ length (all_found hands)
joined_length hands id other v w at there =
    let g : Hand → ℕ = λ k. length k.found in
    let one = set hands id (both_hands v w) in
    omega (arith, length-all hands, length-all (set one other nobody), sum_by-set g hands id v (both_hands v w) at, sum_by-set g one other w nobody there, length-append v.found w.found)

both_empty : (xs ys : List ℕ) → xs ≡ [] → ys ≡ [] → xs ++ ys ≡ []
both_empty xs ys a b = ap (λ l. l ++ ys) a ∙ b

fair_join : (plan : Plan) (m after : Moment) (id other : ℕ) (v w : Hand) → IsFair plan m → IsJoin m id other v w after → IsFair plan after
fair_join plan m after id other v w fair d =
    let n = plan.stripes in
    let at = d.there in
    let both = both_hands v w in
    let one = set m.hands id both in
    let there = other_still m.hands id other both w d.two d.other_there in
    let mine = fair.few_beyond id v at in
    let theirs = fair.few_beyond other w d.other_there in
    let sum = sum_by-append (λ y. one_if (nat_le n y)) v.found w.found in
    subst (IsFair plan) (sym d.becomes)
    (record {
      each_once = λ x. joined_sum (λ y. one_if (y == x)) m.hands id other v w at there ∙ fair.each_once x;
      as_long = joined_length m.hands id other v w at there ∙ fair.as_long;
      few_beyond = each_set (Few plan) one other nobody (each_set (Few plan) m.hands id both fair.few_beyond (omega arith)) (omega arith);
      spent = each_set Spent one other nobody
          (each_set Spent m.hands id both fair.spent (λ z. both_empty v.found w.found (fair.spent id v at (omega arith)) (fair.spent other w d.other_there (omega arith))))
          (λ _. refl);
      together = (let g : Hand → ℕ = λ k. k.stands_for in let a = sum_by-set g m.hands id v both at in let b = sum_by-set g one other w nobody there in let k = fair.together in omega arith);
      past = subst (λ t. m.word ≤ n + t) (sym (joined_sum (λ y. one_if (nat_le n y)) m.hands id other v w at there)) fair.past;
    })

fair_step : (plan : Plan) (m after : Moment) → IsFair plan m → Step plan m after → IsFair plan after
fair_step plan m after fair (draw id mine d) = fair_draw plan m after id mine fair d
fair_step plan m after fair (split id left moved whole d) = fair_split plan m after id left moved whole fair d
fair_step plan m after fair (join id other mine theirs d) = fair_join plan m after id other mine theirs fair d

pub always_fair : (plan : Plan) (m : Moment) → IsReachable plan m → IsFair plan m
always_fair plan m (first p) = fair_start p
always_fair plan m (next p before after reached s) = fair_step p before after (always_fair p before reached) s

pub most_drawn : (plan : Plan) (m : Moment) → IsReachable plan m → m.word ≤ plan.stripes + plan.passes
most_drawn plan m reached =
    let fair = always_fair plan m reached in
    let l = sum_by-below (λ (h : Hand). beyond plan.stripes h.found) (λ (h : Hand). h.stands_for) m.hands fair.few_beyond in
    let a = sum_by-all (λ y. one_if (nat_le plan.stripes y)) m.hands in
    let p = fair.past in
    let t = fair.together in
    omega arith

-- what a hand has found is below the word
pub found_below : (plan : Plan) (m : Moment) (id : ℕ) (h : Hand) → IsReachable plan m → get_elem? m.hands id ≡ some h → All (λ y. y < m.word) h.found
found_below plan m id h reached at =
    let fair = always_fair plan m reached in
    below-all m.word h.found
    (λ x.
    let mine = sum_by-one-le (λ (k : Hand). times x k.found) m.hands id h at in
    let all = sum_by-all (λ y. one_if (y == x)) m.hands in
    let once = fair.each_once x in
    omega arith)

pub never_twice : (plan : Plan) (m : Moment) → IsReachable plan m → NeverTwice m
never_twice plan m reached = (
  λ i h x at.
      let f : Hand → ℕ = λ k. times x k.found in
      let mine = sum_by-one-le f m.hands i h at in
      let all = sum_by-all (λ y. one_if (y == x)) m.hands in
      let once = (always_fair plan m reached).each_once x in
      let most = once_at_most x m.word in
      omega arith,
  λ i j h g x apart at there some_time.
      let f : Hand → ℕ = λ k. times x k.found in
      let two = sum_by-two-le f m.hands i j h g apart at there in
      let all = sum_by-all (λ y. one_if (y == x)) m.hands in
      let once = (always_fair plan m reached).each_once x in
      let most = once_at_most x m.word in
      omega arith,
)

pub ends_last : (plan : Plan) (m : Moment) → IsReachable plan m → EndsLast plan m
ends_last plan m reached id h at some_beyond x lt =
    let past : plan.stripes < m.word = beyond_below plan.stripes m.word h.found (found_below plan m id h reached at) some_beyond in
    (always_fair plan m reached).each_once x ∙ once_when x m.word (omega arith)
