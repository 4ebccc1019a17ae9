-- Each step that the code takes on the table is a step of the claims machine.
use Rattle.std.proofs.Common.{◌≡◌, ◌≢◌, ℕ, zero, suc, ◌+◌, ◌-◌, ◌%◌, ◌^◌, ◌<◌, ◌≤◌, nat_lt, false, List, [], ◌∷◌, ◌++◌, length, map, set, length-append, ltb-false, mod-eq_of_lt, refl, sym, ap, ◌∙◌, subst, ⊎_elim, arith}
use Rattle.std.specs.Prelude.{slice_index, ◌==◌}
use Rattle.std.proofs.lemmas.List.Sums.{sum_by-append}
use mathlib.Core.Option.{some, some-injective, some-ne-none}
use lib.ListN.{get_elem?}
use Rattle.atomic_table.specs.Table.{State, Step as TableStep, Me, keeps, opening, Allows, Splits, Joins, Final, Seen}
use Rattle.atomic_table.proofs.Lists.{at_set, at_snoc}
use Rattle.stripe_claims.specs.declared.machine.Hand.{Hand}
use Rattle.stripe_claims.specs.declared.machine.Plan.{Plan}
use Rattle.stripe_claims.specs.declared.machine.View.{View}
use Rattle.stripe_claims.specs.Machine.{one_if, times, once_below, IsEachOnce, beyond, hand, Moment, moment, Step.draw, Step.split, Step.join, IsReachable, IsReachable.first, IsReachable.next, IsReached, IsKept, Appends, view, hand_of, with_number, one_less, new_pass, both_hands, both_views, nobody, spent_view}
use Rattle.stripe_claims.specs.Claims.{Claims, Pass, IsOwned, plan_of, HasGathered, HasReached}
use Rattle.stripe_claims.proofs.lemmas.Counts.{sum_by-one-le, sum_by-only, sum_by-all, length-all}
use Rattle.stripe_claims.proofs.lemmas.Fair.{always_fair, most_drawn, found_below}

-- the machine after a draw by hand `id`
drawn : (plan : Plan) (hands : List Hand) (word id : ℕ) (h : Hand) → 0 < h.stands_for → beyond plan.stripes h.found ≡ 0 → IsReachable plan (moment word hands) → get_elem? hands id ≡ some h
    → IsReachable plan (moment (word + 1) (set hands id (hand h.stands_for (h.found ++ word ∷ []))))
drawn plan hands word id h stands goes_on reached at =
    let after = moment (word + 1) (set hands id (hand h.stands_for (h.found ++ word ∷ []))) in
    next plan (moment word hands) after reached (draw id h (record { there = at; stands = stands; goes_on = goes_on; becomes = refl }))

-- ---- the hands of seats
at_map : {A B : Type 0} (f : A → B) (xs : List A) (i : ℕ) (x : A) → get_elem? xs i ≡ some x → get_elem? (map f xs) i ≡ some (f x)
at_map f [] i x at = absurd (some-ne-none x (sym at))
at_map f (y ∷ ys) zero x at = ap (λ z. some (f z)) (some-injective y x at)
at_map f (y ∷ ys) (suc i) x at = at_map f ys i x at

map_set : {A B : Type 0} (f : A → B) (xs : List A) (i : ℕ) (x : A) → set (map f xs) i (f x) ≡ map f (set xs i x)
map_set f [] i x = refl
map_set f (y ∷ ys) zero x = refl
map_set f (y ∷ ys) (suc i) x = ap (λ zs. f y ∷ zs) (map_set f ys i x)

map_snoc : {A B : Type 0} (f : A → B) (xs : List A) (x : A) → map f xs ++ f x ∷ [] ≡ map f (xs ++ x ∷ [])
map_snoc f [] x = refl
map_snoc f (y ∷ ys) x = ap (λ zs. f y ∷ zs) (map_snoc f ys x)

-- a hand that takes the place of another
put_there : {A : Type 0} (xs : List A) (i : ℕ) (x y : A) → get_elem? xs i ≡ some x → get_elem? (set xs i y) i ≡ some y
put_there [] i x y at = absurd (some-ne-none x (sym at))
put_there (z ∷ zs) zero x y at = refl
put_there (z ∷ zs) (suc i) x y at = put_there zs i x y at

abbrev Planned : Plan → View → Type 0
Planned plan v = 0 < v.stands_for → v.plan ≡ plan

abbrev AllPlanned : Plan → List View → Type 0
AllPlanned plan views = (id : ℕ) (v : View) → get_elem? views id ≡ some v → Planned plan v

planned_set : (plan : Plan) (views : List View) (id : ℕ) (w : View) → AllPlanned plan views → Planned plan w → AllPlanned plan (set views id w)
planned_set plan views id w others mine j u at =
    ⊎_elim
    (λ (x : (j ≡ id) × (w ≡ u)). subst (Planned plan) x.1 mine)
    (λ (x : (j ≢ id) × (get_elem? views j ≡ some u)). others j u x.1)
    (at_set views id j w u at)

planned_snoc : (plan : Plan) (views : List View) (w : View) → AllPlanned plan views → Planned plan w → AllPlanned plan (views ++ w ∷ [])
planned_snoc plan views w others mine j u at =
    ⊎_elim (λ was. others j u was) (λ (same : w ≡ u). subst (Planned plan) same mine) (at_snoc views w u j at)

-- ---- the steps
pub draws : (plan : Plan) (slots id : ℕ) (me : Me (Unit {0}) View) (st : TableStep (Unit {0})) → plan.stripes + plan.passes < 2 ^ 62 → 0 < me.0.stands_for → beyond plan.stripes me.0.found ≡ 0
    → Allows (IsKept plan) slots id me 0 (λ k. (k + 1) % 2 ^ 64) (Appends st me)
draws plan slots id me st room stands goes_on s kept _ at _ =
    let v = me.0 in
    let hands : List Hand = map hand_of s.views in
    let w = slice_index s.words 0 in
    let more : Hand = with_number v w in
    let is : kept.word ≡ w = sym (ap (λ ws. slice_index ws 0) kept.one_word) in
    let now : IsReachable plan (moment w hands) = subst (λ n. IsReachable plan (moment n hands)) is kept.reached in
    let there : get_elem? hands id ≡ some (hand_of v) = at_map hand_of s.views id v at in
    let planned : v.plan ≡ plan = kept.planned id v at stands in
    let after : IsReachable plan (moment (w + 1) (set hands id more)) = drawn plan hands w id (hand_of v) stands goes_on now there in
    let most = most_drawn plan (moment w hands) now in
    let grown : w + 1 ≡ (w + 1) % 2 ^ 64 = sym (mod-eq_of_lt (omega arith)) in
    let reached : IsReached plan more (w + 1) =
    record { hands = set hands id more; reached = after; id = id; there = put_there hands id (hand_of v) more there } in (
      view v.plan more,
      keeps,
      tt,
      record {
        word = (w + 1) % 2 ^ 64;
        one_word = ap (λ ws. set ws 0 ((w + 1) % 2 ^ 64)) kept.one_word;
        reached = subst (λ n. IsReachable plan (moment n (map hand_of (set s.views id (view v.plan more))))) grown
            (subst (λ hs. IsReachable plan (moment (w + 1) hs)) (map_set hand_of s.views id (view v.plan more)) after);
        planned = planned_set plan s.views id (view v.plan more) kept.planned (λ _. planned);
      },
      (refl, found_below plan (moment w hands) id (hand_of v) now there, subst (λ p. IsReached p more (w + 1)) (sym planned) reached),
    )

pub begins : (plan : Plan) → IsKept plan (opening (0 ∷ []) [] (view plan (hand plan.passes [])))
begins plan = record { word = 0; one_word = refl; reached = first plan; planned = alone }
  where
    alone : AllPlanned plan (view plan (hand plan.passes []) ∷ [])
    alone zero v at = λ _. ap (λ (u : View). u.plan) (sym (some-injective (view plan (hand plan.passes [])) v at))
    alone (suc id) v at = absurd (some-ne-none v (sym at))

pub cuts : (plan : Plan) (id : ℕ) (v : View) → 1 < v.stands_for → v.found ≡ [] → Splits (IsKept plan) id v (one_less v) (new_pass v)
cuts plan id v some_left nothing s kept at =
    let hands : List Hand = map hand_of s.views in
    let left : Hand = hand (v.stands_for - 1) v.found in
    let there : get_elem? hands id ≡ some (hand_of v) = at_map hand_of s.views id v at in
    let planned : v.plan ≡ plan = kept.planned id v at (omega arith) in
    let after : IsReachable plan (moment kept.word (set hands id left ++ hand 1 [] ∷ [])) =
    next plan (moment kept.word hands) (moment kept.word (set hands id left ++ hand 1 [] ∷ [])) kept.reached
    (split id (v.stands_for - 1) 1 (hand_of v) (record { there = there; nothing = nothing; parts = omega arith; becomes = refl })) in
    record {
      word = kept.word;
      one_word = kept.one_word;
      reached = subst (λ hs. IsReachable plan (moment kept.word hs))
          (ap (λ hs. hs ++ hand 1 [] ∷ []) (map_set hand_of s.views id (one_less v)) ∙ map_snoc hand_of (set s.views id (one_less v)) (new_pass v)) after;
      planned = planned_snoc plan (set s.views id (one_less v)) (new_pass v) (planned_set plan s.views id (one_less v) kept.planned (λ _. planned)) (λ _. planned);
    }

-- what is known of a seat that stands for all passes and has found nothing
pub first_hand : (mine : Me (Unit {0}) View) (plan : Plan) (passes : ℕ) → mine ≡ (view plan (hand passes []), [])
    → (mine.1 ≡ []) × (mine.0.found ≡ []) × (mine.0.stands_for + 0 ≡ passes) × (mine.0.plan ≡ plan)
first_hand mine plan passes is =
    let all = ap (λ (m : Me (Unit {0}) View). m.0.stands_for) is in
    (ap (λ (m : Me (Unit {0}) View). m.1) is, ap (λ (m : Me (Unit {0}) View). m.0.found) is, omega arith, ap (λ (m : Me (Unit {0}) View). m.0.plan) is)

-- what is left of a seat once one pass is cut off
pub hand_left : (now mine : Me (Unit {0}) View) → now ≡ (one_less mine.0, mine.1)
    → (now.1 ≡ mine.1) × (now.0.found ≡ mine.0.found) × (now.0.stands_for ≡ mine.0.stands_for - 1) × (now.0.plan ≡ mine.0.plan)
hand_left now mine is = (
  ap (λ (m : Me (Unit {0}) View). m.1) is,
  ap (λ (m : Me (Unit {0}) View). m.0.found) is,
  ap (λ (m : Me (Unit {0}) View). m.0.stands_for) is,
  ap (λ (m : Me (Unit {0}) View). m.0.plan) is,
)

-- the view of the other seat, before the first one took it in
other_was : (views : List View) (id other : ℕ) (both w : View) → ¬ (other ≡ id) → get_elem? (set views id both) other ≡ some w → get_elem? views other ≡ some w
other_was views id other both w apart at =
    ⊎_elim (λ (x : (other ≡ id) × (both ≡ w)). absurd (apart x.0)) (λ (x : (other ≢ id) × (get_elem? views other ≡ some w)). x.1) (at_set views id other both w at)

pub joins : (plan : Plan) (id : ℕ) (v : View) (other : ℕ) (w : View) → 0 < v.stands_for → Joins (IsKept plan) id v other w (both_views v w) spent_view
joins plan id v other w stands s kept at apart there =
    let hands : List Hand = map hand_of s.views in
    let both : Hand = both_hands (hand_of v) (hand_of w) in
    let one : List View = set s.views id (both_views v w) in
    let planned : v.plan ≡ plan = kept.planned id v at stands in
    let after : IsReachable plan (moment kept.word (set (set hands id both) other nobody)) =
    next plan (moment kept.word hands) (moment kept.word (set (set hands id both) other nobody)) kept.reached
    (join id other (hand_of v) (hand_of w)
    (record {
      two = apart;
      there = at_map hand_of s.views id v at;
      other_there = at_map hand_of s.views other w (other_was s.views id other (both_views v w) w apart there);
      becomes = refl;
    })) in
    record {
      word = kept.word;
      one_word = kept.one_word;
      reached = subst (λ hs. IsReachable plan (moment kept.word hs))
          (ap (λ hs. set hs other nobody) (map_set hand_of s.views id (both_views v w)) ∙ map_set hand_of one other spent_view) after;
      planned = planned_set plan one other spent_view (planned_set plan s.views id (both_views v w) kept.planned (λ _. planned)) (λ some. absurd (omega (arith, some)));
    }

-- what a hand has found, and for how many it stands, after it has taken in another
pub taken_found : (now mine : Me (Unit {0}) View) (theirs : View) (found : List ℕ) → now ≡ (both_views mine.0 theirs, mine.1) → theirs.found ≡ found → now.0.found ≡ mine.0.found ++ found
taken_found now mine theirs found is same = ap (λ (m : Me (Unit {0}) View). m.0.found) is ∙ ap (λ l. mine.0.found ++ l) same

pub taken_parts : (now mine : Me (Unit {0}) View) (theirs : View) → now ≡ (both_views mine.0 theirs, mine.1) → now.0.stands_for ≡ mine.0.stands_for + theirs.stands_for
taken_parts now mine theirs is = ap (λ (m : Me (Unit {0}) View). m.0.stands_for) is

-- how often a number is in the hand's list then, and how long the list is
pub taken_times : (x : ℕ) (now mine found : List ℕ) → now ≡ mine ++ found → times x now ≡ times x mine + times x found
taken_times x now mine found is = ap (times x) is ∙ sum_by-append (λ y. one_if (y == x)) mine found

pub taken_length : (now mine found : List ℕ) → now ≡ mine ++ found → length now ≡ length mine + length found
taken_length now mine found is = ap (λ (l : List ℕ). length l) is ∙ length-append mine found

-- What the last moment says of a hand.
pub record Closed (plan : Plan) (h : Hand) (word : ℕ) : Type 0 where
  pub once : (x : ℕ) → times x h.found ≤ once_below x word
  pub count : length h.found ≤ word
  pub most : word ≤ plan.stripes + plan.passes
  pub whole : h.stands_for ≡ plan.passes → IsEachOnce word h.found
  pub all : h.stands_for ≡ plan.passes → length h.found ≡ word

closed_moment : (plan : Plan) (m : Moment) (id : ℕ) (h : Hand) → IsReachable plan m → get_elem? m.hands id ≡ some h → Closed plan h m.word
closed_moment plan m id h reached at =
    let fair = always_fair plan m reached in
    let stands : Hand → ℕ = λ k. k.stands_for in
    record {
      once = λ x.
          let mine = sum_by-one-le (λ (k : Hand). times x k.found) m.hands id h at in
          let all = sum_by-all (λ y. one_if (y == x)) m.hands in
          let each = fair.each_once x in
          omega arith;
      count = (let mine = sum_by-one-le (λ (k : Hand). length k.found) m.hands id h at in let all = length-all m.hands in let long = fair.as_long in omega arith);
      most = most_drawn plan m reached;
      whole = λ is x.
          let g : Hand → ℕ = λ k. times x k.found in
          let only = sum_by-only g stands m.hands id h at (λ j u there none. ap (times x) (fair.spent j u there none)) (fair.together ∙ sym is) in
          let all = sum_by-all (λ y. one_if (y == x)) m.hands in
          let each = fair.each_once x in
          omega arith;
      all = λ is.
          let g : Hand → ℕ = λ k. length k.found in
          let only = sum_by-only g stands m.hands id h at (λ j u there none. ap length (fair.spent j u there none)) (fair.together ∙ sym is) in
          let all = length-all m.hands in
          let long = fair.as_long in
          omega arith;
    }

word_at : (words : List ℕ) (w n : ℕ) → words ≡ w ∷ [] → get_elem? words 0 ≡ some n → w ≡ n
word_at words w n is at = some-injective w n (ap (λ ws. get_elem? ws 0) (sym is) ∙ at)

-- the word in the memory that is left is the word of the last moment
last_word : (plan : Plan) (s : State (Unit {0}) View) (kept : IsKept plan s) (words : List ℕ) (n : ℕ) → s.words ≡ words → get_elem? words 0 ≡ some n
    → IsReachable plan (moment n (map hand_of s.views))
last_word plan s kept words n same at = subst (λ w. IsReachable plan (moment w (map hand_of s.views))) (word_at words kept.word n (sym same ∙ kept.one_word) at) kept.reached

-- a plan is what the claims show of it
plan_is : (plan : Plan) (claims : Claims) → plan.stripes ≡ claims.stripes → plan.passes ≡ claims.passes → plan ≡ plan_of claims
plan_is plan claims stripes passes =
    ap (λ n. plan_of (record { stripes = n; passes = plan.passes; name = claims.name })) stripes
    ∙ ap (λ n. plan_of (record { stripes = claims.stripes; passes = n; name = claims.name })) passes

pub closes : (plan : Plan) (claims : Claims) (id : ℕ) (v : View) (words : List ℕ) (slots : List (Unit {0})) (n : ℕ) → plan.stripes ≡ claims.stripes → plan.passes ≡ claims.passes
    → Final (Seen (IsKept plan) id v) words slots → get_elem? words 0 ≡ some n → HasReached claims (hand_of v) n
closes plan claims id v words slots n stripes passes final at =
    let s = final.0 in
    record {
      hands = map hand_of s.views;
      reached = subst (λ p. IsReachable p (moment n (map hand_of s.views))) (plan_is plan claims stripes passes) (last_word plan s final.1.0 words n final.2 at);
      id = id;
      there = at_map hand_of s.views id v final.1.1;
    }

pub closed : (claims : Claims) (h : Hand) (n : ℕ) → HasReached claims h n → Closed (plan_of claims) h n
closed claims h n last = closed_moment (plan_of claims) (moment n last.hands) last.id h last.reached last.there

pub closes_alone : (plan : Plan) (claims : Claims) (words : List ℕ) (slots : List (Unit {0})) (n : ℕ) → plan.stripes ≡ claims.stripes → plan.passes ≡ claims.passes
    → Final (IsKept plan) words slots → get_elem? words 0 ≡ some n → HasGathered claims [] n
closes_alone plan claims words slots n stripes passes final at =
    let s = final.0 in
    record {
      hands = map hand_of s.views;
      reached = subst (λ p. IsReachable p (moment n (map hand_of s.views))) (plan_is plan claims stripes passes) (last_word plan s final.1 words n final.2 at);
      joined = λ some. absurd (omega arith);
    }

pub most_at_end : (claims : Claims) (n : ℕ) → HasGathered claims [] n → n ≤ claims.stripes + claims.passes
most_at_end claims n last = most_drawn (plan_of claims) (moment n last.hands) last.reached

-- a pass that has not ended has found no number at `stripes` or above
pub none_beyond : (claims : Claims) (p : Pass) → IsOwned claims p → p.has_ended ≡ false → beyond claims.stripes p.found ≡ 0
none_beyond claims p owned going =
    let none : beyond claims.stripes p.found ≤ 0 = ltb-false 0 (beyond claims.stripes p.found) (sym owned.ends ∙ going) in
    omega arith

-- a pass of the claims' table that has found nothing, and has not ended, is of these claims
pub owned_fresh : (claims : Claims) (p : Pass) → p.owner ≡ claims.name → p.plan ≡ plan_of claims → p.found ≡ [] → p.has_ended ≡ false → IsOwned claims p
owned_fresh claims p owner planned none going =
    record { owner = owner; planned = planned; ends = going ∙ ap (λ found. nat_lt 0 (beyond claims.stripes found)) (sym none) }
