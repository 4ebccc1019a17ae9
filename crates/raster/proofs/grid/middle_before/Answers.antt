use Rattle.std.proofs.Common.{ap, rules, ◌∙◌}
use Rattle.std.specs.Prelude.{FitsSigned}
use Rattle.std.proofs.lemmas.Int.{to_z-of_z}
use mir.Syntax.{w32, w64}
use Rattle.raster.specs.Grid.{middle}
use Rattle.raster.proofs.lemmas.Middles.{coordinate, coordinate-in, middle-back}
use Rattle.raster.proofs.grid.middle_before.Goals as goal

pub returns-clause-value : goal.returns-clause-value
returns-clause-value c =
    let small : FitsSigned w64 c.middle.result = search rules in
    to_z-of_z w64 c.middle.result small ∙ c.middle.ensures ∙ ap (λ z. middle z c.args.step c.args.number) (to_z-of_z w32 c.args.start c.ranges.start)

pub middle-requires-clause-start : goal.middle-requires-clause-start
middle-requires-clause-start c = coordinate-in c.args.start c.requires.start

pub returns-clause-within : goal.returns-clause-within
returns-clause-within c =
    let start = coordinate c.args.start c.requires.start in
    middle-back c.args.start c.middle.result c.args.step c.args.number c.args.count (c.middle.ensures ∙ ap (λ z. middle z c.args.step c.args.number) start)
    c.requires.start c.requires.number c.requires.last
