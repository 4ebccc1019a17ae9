-- The claims machine: several passes draw numbers from one word. A pass has the list of the numbers that it found there.
-- A hand stands for one pass or for several: `open` cuts the first hand, which stands for all passes, into passes, and
-- `close` joins hands again.
-- - `IsDraw`: one pass draws: it finds the word, which grows by one
-- - `IsSplit`: a hand that has found nothing is cut in two
-- - `IsJoin`: one hand takes over all of another
-- - `IsReachable`: a moment that any such steps lead to
-- - `IsReached`: a word and a hand at such a moment
-- - `IsKept`: the rule of the table in which the claims lie: its word and the hands of its seats are a moment that is reached
-- - `IsFair`: what holds at every moment that is reached
use Rattle.std.specs.Prelude.{◌≡◌, ◌≢◌, ℕ, ◌+◌, ◌-◌, ◌<◌, ◌≤◌, Bool, List, [], ◌∷◌, ◌++◌, length, filter, All, sum_by, flat_map, map, slice_set, ◌==◌, nat_lt, nat_le, if◌then◌else◌}
use mathlib.Core.Option.{some}
use lib.ListN.{get_elem?}
use Rattle.atomic_table.specs.Table.{State, Step as TableStep, Me}
use Rattle.stripe_claims.specs.declared.machine.Plan.{Plan}
use Rattle.stripe_claims.specs.declared.machine.Hand.{Hand}
use Rattle.stripe_claims.specs.declared.machine.View.{View}

abbrev pub one_if : Bool → ℕ
one_if b = if b then 1 else 0

-- how often x is in the list
abbrev pub times : ℕ → List ℕ → ℕ
times x xs = sum_by (λ y. one_if (y == x)) xs

-- 1 for a number below n, else 0
abbrev pub once_below : ℕ → ℕ → ℕ
once_below x n = one_if (nat_lt x n)

-- the list holds each number below n once, and nothing else
abbrev pub IsEachOnce : ℕ → List ℕ → Type 0
IsEachOnce n xs = (x : ℕ) → times x xs ≡ once_below x n

-- how many numbers of the list are n or more
abbrev pub beyond : ℕ → List ℕ → ℕ
beyond n xs = sum_by (λ y. one_if (nat_le n y)) xs

-- the numbers of the list that are below n: those that were given out
abbrev pub given : ℕ → List ℕ → List ℕ
given n xs = filter (λ y. nat_lt y n) xs

abbrev pub hand : ℕ → List ℕ → Hand
hand stands_for found = record { stands_for = stands_for; found = found }

-- all lists together
abbrev pub all_found : List Hand → List ℕ
all_found hands = flat_map (λ (h : Hand). h.found) hands

pub record Moment : Type 0 where
  pub word : ℕ
  pub hands : List Hand

abbrev pub moment : ℕ → List Hand → Moment
moment word hands = record { word = word; hands = hands }

-- the word is 0, and one hand stands for all passes
abbrev pub first_moment : Plan → Moment
first_moment plan = moment 0 (hand plan.passes [] ∷ [])

-- A hand that has found no number at `stripes` or above appends the word to its list, and adds 1 to the word.
pub record IsDraw (plan : Plan) (before : Moment) (id : ℕ) (mine : Hand) (after : Moment) : Type 0 where
  pub there : get_elem? before.hands id ≡ some mine
  pub stands : 0 < mine.stands_for
  pub goes_on : beyond plan.stripes mine.found ≡ 0
  pub becomes : after ≡ moment (before.word + 1) (slice_set before.hands id (hand mine.stands_for (mine.found ++ before.word ∷ [])))

-- A hand that has found nothing gives some of the passes that it stands for to a new hand.
pub record IsSplit (before : Moment) (id left moved : ℕ) (whole : Hand) (after : Moment) : Type 0 where
  pub there : get_elem? before.hands id ≡ some whole
  pub nothing : whole.found ≡ []
  pub parts : left + moved ≡ whole.stands_for
  pub becomes : after ≡ moment before.word (slice_set before.hands id (hand left whole.found) ++ hand moved [] ∷ [])

abbrev pub both_hands : Hand → Hand → Hand
both_hands h g = hand (h.stands_for + g.stands_for) (h.found ++ g.found)

abbrev pub nobody : Hand
nobody = hand 0 []

-- A hand takes over the list of another and the passes that the other stands for. The other is spent.
pub record IsJoin (before : Moment) (id other : ℕ) (mine theirs : Hand) (after : Moment) : Type 0 where
  pub two : other ≢ id
  pub there : get_elem? before.hands id ≡ some mine
  pub other_there : get_elem? before.hands other ≡ some theirs
  pub becomes : after ≡ moment before.word (slice_set (slice_set before.hands id (both_hands mine theirs)) other nobody)

pub data Step (plan : Plan) (before after : Moment) : Type 0 where
  draw : (id : ℕ) (mine : Hand) → IsDraw plan before id mine after → Step plan before after
  split : (id left moved : ℕ) (whole : Hand) → IsSplit before id left moved whole after → Step plan before after
  join : (id other : ℕ) (mine theirs : Hand) → IsJoin before id other mine theirs after → Step plan before after

-- any steps from the start lead there
pub data IsReachable : Plan → Moment → Type 0 where
  first : (plan : Plan) → IsReachable plan (first_moment plan)
  next : (plan : Plan) (before after : Moment) → IsReachable plan before → Step plan before after → IsReachable plan after

-- Steps of the machine lead to this word, with this hand among the hands.
pub record IsReached (plan : Plan) (h : Hand) (word : ℕ) : Type 0 where
  pub hands : List Hand
  pub reached : IsReachable plan (moment word hands)
  pub id : ℕ
  pub there : get_elem? hands id ≡ some h

-- what is known of a seat: the plan of its claims, and its hand
abbrev pub view : Plan → Hand → View
view plan h = record { plan = plan; stands_for = h.stands_for; found = h.found }

abbrev pub hand_of : View → Hand
hand_of v = hand v.stands_for v.found

-- The rule of the table: its one word, and the hands of its seats, are a moment that steps of the machine lead to. A seat
-- that stands for some pass has the plan.
pub record IsKept (plan : Plan) (s : State (Unit {0}) View) : Type 0 where
  pub word : ℕ
  pub one_word : s.words ≡ word ∷ []
  pub reached : IsReachable plan (moment word (map hand_of s.views))
  pub planned : (id : ℕ) (v : View) → get_elem? s.views id ≡ some v → 0 < v.stands_for → v.plan ≡ plan

-- the hand appends a number to its list
abbrev pub with_number : View → ℕ → Hand
with_number v x = hand v.stands_for (v.found ++ x ∷ [])

-- What a draw says to its caller: the word was found, which is above all that the hand had found, and was appended. So
-- steps of the machine lead to the next word, with this hand.
abbrev pub Appends : TableStep (Unit {0}) → Me (Unit {0}) View → ℕ → Me (Unit {0}) View → Type 0
Appends st me x after =
    (after ≡ (view me.0.plan (with_number me.0 x), me.1)) × All (λ y. y < x) me.0.found × IsReached me.0.plan (with_number me.0 x) (x + 1)

-- one pass is cut off a hand
abbrev pub one_less : View → View
one_less v = view v.plan (hand (v.stands_for - 1) v.found)

abbrev pub new_pass : View → View
new_pass v = view v.plan (hand 1 [])

-- one seat takes over the hand of another, which is spent
abbrev pub both_views : View → View → View
both_views v w = view v.plan (both_hands (hand_of v) (hand_of w))

abbrev pub spent_view : View
spent_view = view (record { stripes = 0; passes = 0 }) nobody

-- What holds at every moment that is reached.
pub record IsFair (plan : Plan) (m : Moment) : Type 0 where
  -- all lists together hold each number below the word once and nothing else, so they are as long as the word
  pub each_once : IsEachOnce m.word (all_found m.hands)
  pub as_long : length (all_found m.hands) ≡ m.word
  -- A hand that stands for some passes holds at most as many numbers that are `stripes` or more. One that stands for none has
  -- found nothing.
  pub few_beyond : (id : ℕ) (h : Hand) → get_elem? m.hands id ≡ some h → beyond plan.stripes h.found ≤ h.stands_for
  pub spent : (id : ℕ) (h : Hand) → get_elem? m.hands id ≡ some h → h.stands_for ≡ 0 → h.found ≡ []
  -- all hands together stand for the passes that were opened
  pub together : sum_by (λ (h : Hand). h.stands_for) m.hands ≡ plan.passes
  -- the word has gone past `stripes` by no more than there are such numbers
  pub past : m.word ≤ plan.stripes + beyond plan.stripes (all_found m.hands)

-- no number is found twice, by one hand or by two
abbrev pub NeverTwice : Moment → Type 0
NeverTwice m =
    ((i : ℕ) (h : Hand) (x : ℕ) → get_elem? m.hands i ≡ some h → times x h.found ≤ 1)
    × ((i j : ℕ) (h g : Hand) (x : ℕ) → i ≢ j → get_elem? m.hands i ≡ some h → get_elem? m.hands j ≡ some g → 0 < times x h.found → times x g.found ≡ 0)

-- once a hand has found a number at `stripes` or above, each number below `stripes` has been found
abbrev pub EndsLast : Plan → Moment → Type 0
EndsLast plan m = (i : ℕ) (h : Hand) → get_elem? m.hands i ≡ some h → 0 < beyond plan.stripes h.found
    → (x : ℕ) → x < plan.stripes → times x (all_found m.hands) ≡ 1
