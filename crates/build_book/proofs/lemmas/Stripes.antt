-- Layers from the lowest up, and the planes that they lie in.
use Rattle.std.proofs.Common.{◌≡◌, ℕ, ◌+◌, ◌-◌, ◌≤◌, List, [], ◌∷◌, ◌++◌, length, subst, arith, pos, ◌+ℤ◌, ◌*ℤ◌, ℤ, ◌≤ℤ◌, to_z, of_z, w64}
use Rattle.std.proofs.lemmas.Int.{fits_signed_from_abs, ints, to_z-of_z}
use Rattle.std.proofs.Math.Nat.{mul-le-mul_left}
use Rattle.exact_int.specs.Bounds.{IsAtMost}
use Rattle.geometry.specs.declared.limits.TheConstants.{CENTRE_LIMIT}
use Rattle.raster.specs.Grid.{Grid, plane}
use Rattle.build_book.specs.Job.{Job}
use Rattle.build_book.specs.Layer.{Layer, IsLawful, AreLawfulFrom}

-- planes of later layers are not lower
planes_rise : (g : Grid) (j k : ℕ) → j ≤ k → plane g j ≤ℤ plane g k
planes_rise g j k h = raised (pos 2 *ℤ g.origin.z) _ _ (mul-le-mul_left g.layer_height (omega (arith, h)))
  where
    raised : (z : ℤ) (a b : ℕ) → a ≤ b → (z +ℤ pos a) ≤ℤ (z +ℤ pos b)
    raised z a b h = omega (arith, ints, h)

pub higher_plane : (g : Grid) (k : ℕ) (low high : ℤ) → low ≡ plane g (k - 1) → high ≡ plane g k → low ≤ℤ high
higher_plane g k low high l h = rw (l, h) (planes_rise g (k - 1) k (omega arith))

-- the height of a plane is unchanged by 64 bits
pub plane_kept : (z : ℤ) → IsAtMost CENTRE_LIMIT z → to_z w64 (of_z w64 z) ≡ z
plane_kept z near = to_z-of_z w64 z (fits_signed_from_abs w64 z (omega (arith, near.at_most)))

-- one more layer
pub lawful_push : (job : Job) (k : ℕ) (layers : List Layer) (layer : Layer) → AreLawfulFrom job k layers
    → IsLawful job (k + length layers) layer → AreLawfulFrom job k (layers ++ layer ∷ [])
lawful_push job k [] layer all last = (subst (λ n. IsLawful job n layer) (omega arith) last, tt)
lawful_push job k (first ∷ layers) layer all last =
    (all.0, lawful_push job (k + 1) layers layer all.1 (subst (λ n. IsLawful job n layer) (omega arith) last))
