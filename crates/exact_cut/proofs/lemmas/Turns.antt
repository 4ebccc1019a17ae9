-- How an edge turns round a point, by where its ends lie.
use Rattle.std.proofs.Common.{◌≡◌, ◌⊎◌, [], ◌∷◌, ℤ, pos, negsuc, neg_ℤ, ◌≤ℤ◌, ◌<ℤ◌, refl, ◌∙◌, ap, arith}
use Rattle.std.proofs.lemmas.Int.{ints}
use Rattle.exact_int.proofs.lemmas.Identity.{reads, identity}
use Rattle.geometry.specs.TieRule.{IsBelow, IsAbove}
use Rattle.geometry.specs.Point.{Point}
use Rattle.geometry.specs.Winding.{left, turn_of, turn, left_x, turn_x}

-- ---- by the tests alone
pub turn_of-up : (u v z l : ℤ) → IsBelow u z → IsAbove v z → ((turn_of u v z l ≡ pos 1) × (pos 0 <ℤ l)) ⊎ ((turn_of u v z l ≡ pos 0) × (l ≤ℤ pos 0))
unfolding turn_of
turn_of-up u v z l h k = grind (arith, ints)

pub turn_of-down : (u v z l : ℤ) → IsBelow v z → IsAbove u z → ((turn_of u v z l ≡ negsuc 0) × (l <ℤ pos 0)) ⊎ ((turn_of u v z l ≡ pos 0) × (pos 0 ≤ℤ l))
unfolding turn_of
turn_of-down u v z l h k = grind (arith, ints)

pub turn_of-below : (u v z l : ℤ) → IsBelow u z → IsBelow v z → turn_of u v z l ≡ pos 0
unfolding turn_of
turn_of-below u v z l h k = grind (arith, ints)

pub turn_of-above : (u v z l : ℤ) → IsAbove u z → IsAbove v z → turn_of u v z l ≡ pos 0
unfolding turn_of
turn_of-above u v z l h k = grind (arith, ints)

turn_of-opposite : (u v z l : ℤ) → turn_of v u z (neg_ℤ l) ≡ neg_ℤ (turn_of u v z l)
unfolding turn_of
turn_of-opposite u v z l = grind (arith, ints)

left-opposite : (u v : Point) (y z : ℤ) → left v u y z ≡ neg_ℤ (left u v y z)
left-opposite u v y z = identity (u.y ∷ u.z ∷ v.y ∷ v.z ∷ y ∷ z ∷ []) (search reads depth 40) refl

pub turn-opposite : (u v : Point) (y z : ℤ) → turn v u y z ≡ neg_ℤ (turn u v y z)
turn-opposite u v y z = ap (turn_of v.z u.z z) (left-opposite u v y z) ∙ turn_of-opposite u.z v.z z (left u v y z)

left_x-opposite : (u v : Point) (x z : ℤ) → left_x v u x z ≡ neg_ℤ (left_x u v x z)
left_x-opposite u v x z = identity (u.x ∷ u.z ∷ v.x ∷ v.z ∷ x ∷ z ∷ []) (search reads depth 40) refl

pub turn_x-opposite : (u v : Point) (x z : ℤ) → turn_x v u x z ≡ neg_ℤ (turn_x u v x z)
turn_x-opposite u v x z = ap (turn_of v.z u.z z) (left_x-opposite u v x z) ∙ turn_of-opposite u.z v.z z (left_x u v x z)
