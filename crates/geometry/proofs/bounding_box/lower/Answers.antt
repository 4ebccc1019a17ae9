use Rattle.std.proofs.Common.{◌≡◌, ◌∙◌, refl, rules, w32}
use Rattle.std.specs.Prelude.{FitsSigned}
use Rattle.std.proofs.lemmas.Int.{to_z-of_z}
use Rattle.std.specs.Int.{int_min}
use Rattle.exact_int.specs.Bounds.{IsAtMost}
use Rattle.geometry.specs.BoundingBox.{least_of}
use Rattle.geometry.specs.Point.{Point, IsMeshPoint}
use Rattle.geometry.proofs.lemmas.Ranges.{min-within}
use Rattle.geometry.proofs.bounding_box.lower.Goals as goal
use Rattle.geometry.specs.declared.limits.TheConstants.{COORDINATE_LIMIT}

pub at-requires : goal.at-requires
at-requires c =
    let x_is : c.min.result ≡ int_min c.x.result c.x-2.result = search rules in
    let y_is : c.min-2.result ≡ int_min c.y.result c.y-2.result = search rules in
    let z_is : c.min-3.result ≡ int_min c.z.result c.z-2.result = search rules in
    let x_in : IsAtMost COORDINATE_LIMIT c.min.result = rw x_is (min-within COORDINATE_LIMIT _ _ c.x.ensures.within c.x-2.ensures.within) in
    let y_in : IsAtMost COORDINATE_LIMIT c.min-2.result = rw y_is (min-within COORDINATE_LIMIT _ _ c.y.ensures.within c.y-2.ensures.within) in
    let z_in : IsAtMost COORDINATE_LIMIT c.min-3.result = rw z_is (min-within COORDINATE_LIMIT _ _ c.z.ensures.within c.z-2.ensures.within) in
    let place : Point = record { x = c.min.result; y = c.min-2.result; z = c.min-3.result } in
    let within : IsMeshPoint place = (x_in, y_in, z_in) in
    let x_fits : FitsSigned w32 c.min.result = search rules in
    let y_fits : FitsSigned w32 c.min-2.result = search rules in
    let z_fits : FitsSigned w32 c.min-3.result = search rules in
    simp to_z-of_z within

pub returns : goal.returns
returns c =
    let x_is : c.min.result ≡ int_min c.x.result c.x-2.result = search rules in
    let y_is : c.min-2.result ≡ int_min c.y.result c.y-2.result = search rules in
    let z_is : c.min-3.result ≡ int_min c.z.result c.z-2.result = search rules in
    let place : Point = record { x = c.min.result; y = c.min-2.result; z = c.min-3.result } in
    let x_fits : FitsSigned w32 c.min.result = search rules in
    let y_fits : FitsSigned w32 c.min-2.result = search rules in
    let z_fits : FitsSigned w32 c.min-3.result = search rules in
    let value : c.at.result ≡ place = c.at.ensures ∙ simp to_z-of_z refl in
    let place_is : place ≡ least_of c.args.p c.args.q = cc in
    value ∙ place_is
