-- The place of a grid.
use Rattle.std.specs.Prelude.{ℕ, List, Result}
use Rattle.geometry.specs.Facet.{Facet}
use Rattle.raster.specs.Grid.{Grid, fitted_grid, given_grid, grid_with}
use Rattle.raster.specs.declared.grid.GridFault.{GridFault}
use Rattle.raster.specs.declared.placing.Placing.{Placing}
use Rattle.raster.specs.declared.placing.Placing.TheVariants as placing

-- the given grid, or else the one that the mesh fits in
abbrev pub placed_grid : Placing → List Facet → ℕ → ℕ → Result Grid GridFault
placed_grid placing.Fitted facets pitch layer_height = fitted_grid facets pitch layer_height
placed_grid (placing.Given columns rows layers origin) facets pitch layer_height =
    given_grid (grid_with origin pitch layer_height columns rows layers)
