use Rattle.raster.proofs.lemmas.Grids.{cells-least, grid-given}
use Rattle.raster.proofs.laws.hold_grid_laws.Goals as goal

pub returns-clause-given : goal.returns-clause-given
returns-clause-given c = grid-given

pub returns-clause-cells : goal.returns-clause-cells
returns-clause-cells c = cells-least
