-- What callers know of the claims and of a pass.
use Rattle.std.specs.Prelude.{◌≡◌, ℕ, ◌<◌, ◌≤◌, Bool, false, List, [], length, flat_map, nat_lt, refl}
use Rattle.std.specs.Coded.{Coded, code_by, coded×, coded_ℕ, coded_bool, coded_list}
use Rattle.atomic_table.specs.Seated.{TableId, table_id_coded}
use mathlib.Core.Option.{some}
use lib.ListN.{get_elem?}
use Rattle.stripe_claims.specs.declared.machine.Plan.{Plan}
use Rattle.stripe_claims.specs.declared.machine.Hand.{Hand}
use Rattle.stripe_claims.specs.declared.limits.TheConstants.{PASS_LIMIT, STRIPE_LIMIT}
use Rattle.stripe_claims.specs.Machine.{times, beyond, moment, IsReachable, IsReached}

-- how many numbers are given out, how many passes were opened, and a name that no other claims have
pub record Claims : Type 0 where
  pub stripes : ℕ
  pub passes : ℕ
  pub name : TableId

abbrev pub claims_code : Coded Claims
claims_code =
    code_by (ℕ × (ℕ × TableId)) (coded× coded_ℕ (coded× coded_ℕ table_id_coded)) (λ c. (c.stripes, (c.passes, c.name)))
    (λ t. record { stripes = t.0; passes = t.1.0; name = t.1.1 }) (λ _. refl)

-- What holds inside claims: the table has one word and no slot, its plan is of these stripes, and the plan is in range.
pub record IsSound (plan : Plan) (table : TableId) (stripes : ℕ) : Type 0 where
  pub one_word : table.words ≡ 1
  pub no_slots : table.slots ≡ 0
  pub same : plan.stripes ≡ stripes
  pub few_stripes : stripes ≤ STRIPE_LIMIT
  pub some_passes : 1 ≤ plan.passes
  pub few_passes : plan.passes ≤ PASS_LIMIT

-- the plan of the machine that gives these numbers out
abbrev pub plan_of : Claims → Plan
plan_of claims = record { stripes = claims.stripes; passes = claims.passes }

-- the claims that the pass was opened with and their plan, the numbers that it has found, in order, and whether its last
-- draw gave none
pub record Pass : Type 0 where
  pub owner : TableId
  pub plan : Plan
  pub found : List ℕ
  pub has_ended : Bool

abbrev pub pass_code : Coded Pass
pass_code =
    code_by (TableId × ((ℕ × ℕ) × (List ℕ × Bool))) (coded× table_id_coded (coded× (coded× coded_ℕ coded_ℕ) (coded× (coded_list coded_ℕ) coded_bool)))
    (λ p. (p.owner, ((p.plan.stripes, p.plan.passes), (p.found, p.has_ended))))
    (λ t. record { owner = t.0; plan = record { stripes = t.1.0.0; passes = t.1.0.1 }; found = t.1.1.0; has_ended = t.1.1.1 }) (λ _. refl)

abbrev pub found_by_all : List Pass → List ℕ
found_by_all passes = flat_map (λ (p : Pass). p.found) passes

-- The pass is of these claims, and has ended exactly if it has found a number that is `stripes` or more.
pub record IsOwned (claims : Claims) (p : Pass) : Type 0 where
  pub owner : p.owner ≡ claims.name
  pub planned : p.plan ≡ plan_of claims
  pub ends : p.has_ended ≡ nat_lt 0 (beyond claims.stripes p.found)

-- a pass that has found no number
abbrev pub IsFresh : Pass → Type 0
IsFresh p = (p.found ≡ []) × (p.has_ended ≡ false)

-- One hand of the list stands for as many passes as these are, and has found each number as often as they have.
pub record HasTogether (hands : List Hand) (passes : List Pass) : Type 0 where
  pub id : ℕ
  pub hand : Hand
  pub there : get_elem? hands id ≡ some hand
  pub stands : hand.stands_for ≡ length passes
  pub found : (x : ℕ) → times x hand.found ≡ times x (found_by_all passes)

-- Steps of the machine lead to this word, with all that these passes found in one hand, if there are any passes.
pub record HasGathered (claims : Claims) (passes : List Pass) (word : ℕ) : Type 0 where
  pub hands : List Hand
  pub reached : IsReachable (plan_of claims) (moment word hands)
  pub joined : 0 < length passes → HasTogether hands passes

-- Steps of the machine of these claims lead to this word, with this hand among the hands.
abbrev pub HasReached : Claims → Hand → ℕ → Type 0
HasReached claims hand word = IsReached (plan_of claims) hand word
