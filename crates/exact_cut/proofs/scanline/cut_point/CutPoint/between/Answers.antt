use Rattle.std.proofs.Common.{pos, ◌+ℤ◌, ◌-ℤ◌, ◌*ℤ◌, ◌≤ℤ◌, [], ◌∷◌, refl, arith}
use Rattle.std.proofs.lemmas.Int.{ints}
use mir.Syntax.{w64}
use Rattle.exact_cut.specs.Bounds.{half_point_limit, cut_denominator_limit}
use Rattle.exact_int.proofs.lemmas.Sizes.{sizes, fits, is_at_most, at_most_by}
use Rattle.exact_int.proofs.lemmas.Identity.{reads, identity}
use Rattle.exact_cut.proofs.lemmas.Least.{positive_by}
use Rattle.exact_cut.proofs.lemmas.Blends.{height_in, span_in, blend_in}
use Rattle.exact_cut.proofs.scanline.cut_point.CutPoint.between.Goals as goal

pub overflow_mul-result : goal.overflow_mul-result
overflow_mul-result c =
    let z = height_in c.args.low.z c.args.high.z c.args.z2 c.args.low.z_in c.args.high.z_in c.requires.low c.requires.high in
    fits w64 (search (sizes, z, c.args.low.x_in, c.args.high.z_in) depth 40) refl

pub overflow_mul-result-2 : goal.overflow_mul-result-2
overflow_mul-result-2 c =
    let z = height_in c.args.low.z c.args.high.z c.args.z2 c.args.low.z_in c.args.high.z_in c.requires.low c.requires.high in
    fits w64 (search (sizes, z, c.args.high.x_in, c.args.low.z_in) depth 40) refl

pub overflow_add-result : goal.overflow_add-result
overflow_add-result c =
    let z = height_in c.args.low.z c.args.high.z c.args.z2 c.args.low.z_in c.args.high.z_in c.requires.low c.requires.high in
    fits w64 (search (sizes, z, c.args.low.x_in, c.args.high.x_in, c.args.low.z_in, c.args.high.z_in) depth 40) refl

pub overflow_mul-result-3 : goal.overflow_mul-result-3
overflow_mul-result-3 c =
    let z = height_in c.args.low.z c.args.high.z c.args.z2 c.args.low.z_in c.args.high.z_in c.requires.low c.requires.high in
    fits w64 (search (sizes, z, c.args.low.y_in, c.args.high.z_in) depth 40) refl

pub overflow_mul-result-4 : goal.overflow_mul-result-4
overflow_mul-result-4 c =
    let z = height_in c.args.low.z c.args.high.z c.args.z2 c.args.low.z_in c.args.high.z_in c.requires.low c.requires.high in
    fits w64 (search (sizes, z, c.args.high.y_in, c.args.low.z_in) depth 40) refl

pub overflow_add-result-2 : goal.overflow_add-result-2
overflow_add-result-2 c =
    let z = height_in c.args.low.z c.args.high.z c.args.z2 c.args.low.z_in c.args.high.z_in c.requires.low c.requires.high in
    fits w64 (search (sizes, z, c.args.low.y_in, c.args.high.y_in, c.args.low.z_in, c.args.high.z_in) depth 40) refl

pub overflow_sub-result : goal.overflow_sub-result
overflow_sub-result c = fits w64 (search (sizes, c.args.low.z_in, c.args.high.z_in) depth 40) refl

pub returns-clause-x : goal.returns-clause-x
returns-clause-x c =
    let z = height_in c.args.low.z c.args.high.z c.args.z2 c.args.low.z_in c.args.high.z_in c.requires.low c.requires.high in
    identity (c.args.low.x ∷ c.args.low.z ∷ c.args.high.x ∷ c.args.high.z ∷ c.args.z2 ∷ [])
    (search (reads, sizes, z, c.args.low.x_in, c.args.high.x_in, c.args.low.z_in, c.args.high.z_in) depth 40 fits 5000) refl

pub returns-clause-y : goal.returns-clause-y
returns-clause-y c =
    let z = height_in c.args.low.z c.args.high.z c.args.z2 c.args.low.z_in c.args.high.z_in c.requires.low c.requires.high in
    identity (c.args.low.y ∷ c.args.low.z ∷ c.args.high.y ∷ c.args.high.z ∷ c.args.z2 ∷ [])
    (search (reads, sizes, z, c.args.low.y_in, c.args.high.y_in, c.args.low.z_in, c.args.high.z_in) depth 40 fits 5000) refl

pub returns-clause-d : goal.returns-clause-d
returns-clause-d c = identity (c.args.low.z ∷ c.args.high.z ∷ []) (search (reads, sizes, c.args.low.z_in, c.args.high.z_in) depth 40 fits 5000) refl

pub invariant_of-result : goal.invariant_of-result
invariant_of-result c =
    let l = c.args.low in
    let h = c.args.high in
    let z2 = c.args.z2 in
    let z = height_in l.z h.z z2 l.z_in h.z_in c.requires.low c.requires.high in
    let above : pos 0 ≤ℤ (h.z -ℤ z2) = let k = c.requires.high in omega (arith, ints) in
    let below : pos 0 ≤ℤ (z2 -ℤ l.z) = let k = c.requires.low in omega (arith, ints) in
    let span = span_in l.z h.z z2 l.z_in h.z_in in
    record {
      x_in = at_most_by (l.x *ℤ (h.z -ℤ z2) +ℤ h.x *ℤ (z2 -ℤ l.z))
          (identity (l.x ∷ l.z ∷ h.x ∷ h.z ∷ z2 ∷ []) (search (reads, sizes, z, l.x_in, h.x_in, l.z_in, h.z_in) depth 40 fits 5000) refl)
          (blend_in l.x h.x (h.z -ℤ z2) (z2 -ℤ l.z) half_point_limit cut_denominator_limit
          l.x_in h.x_in above below span);
      y_in = at_most_by (l.y *ℤ (h.z -ℤ z2) +ℤ h.y *ℤ (z2 -ℤ l.z))
          (identity (l.y ∷ l.z ∷ h.y ∷ h.z ∷ z2 ∷ []) (search (reads, sizes, z, l.y_in, h.y_in, l.z_in, h.z_in) depth 40 fits 5000) refl)
          (blend_in l.y h.y (h.z -ℤ z2) (z2 -ℤ l.z) half_point_limit cut_denominator_limit
          l.y_in h.y_in above below span);
      d_in = is_at_most cut_denominator_limit (search (sizes, l.z_in, h.z_in) depth 40) refl;
      d_positive = positive_by (h.z -ℤ l.z) (identity (l.z ∷ h.z ∷ []) (search (reads, sizes, l.z_in, h.z_in) depth 40) refl) (let a = c.requires.low in let b = c.requires.high in omega (arith, ints));
    }
