use Rattle.std.proofs.Common.{rules}
use Rattle.std.proofs.lemmas.Bool.Decides.{nat_tests}
use Rattle.raster.proofs.grid.Grid.given.Goals as goal

pub returns-then-is_too_large : goal.returns-then-is_too_large
returns-then-is_too_large c =
    search (rules, nat_tests, c.if-columns-eq0.false, c.if-rows-eq0.false, c.if-layers-eq0.false, c.if-is_too_large.ensures)
