use Rattle.std.proofs.Common.{rules, ◌∙◌, ap}
use Rattle.std.specs.Prelude.{FitsSigned}
use Rattle.std.proofs.lemmas.Int.{to_z-of_z}
use mir.Syntax.{w64}
use Rattle.plane_segments.specs.Segment.{segments}
use Rattle.test_layers.proofs.layer_by.Goals as goal

pub fill-requires-clause-list : goal.fill-requires-clause-list
fill-requires-clause-list g c =
    λ lifetimes lives. let fits : FitsSigned w64 c.plane.result = search rules in
    c.as_slice.ensures.value ∙ c.in_ok-cut.ensures.segments
    ∙ ap (λ z. segments c.args.solid.now.facets z) (to_z-of_z w64 c.plane.result fits ∙ c.plane.ensures.value)
