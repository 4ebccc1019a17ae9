-- The line of a grid's fault, and that of a voxel that is not in the grid.
use Rattle.std.specs.Prelude.{ℕ, List, ◌++◌, codes, decimal}
use Rattle.raster.specs.declared.grid.GridFault.{GridFault}
use Rattle.raster.specs.declared.grid.GridFault.TheVariants.{EmptyMesh, FarCentre, NoCells, TooLarge}

-- the three counts of a grid
abbrev pub counts_text : ℕ → ℕ → ℕ → List ℕ
counts_text columns rows layers =
    decimal columns ++ (codes " columns, " ++ (decimal rows ++ (codes " rows, " ++ (decimal layers ++ codes " layers"))))

abbrev pub grid_fault_text : GridFault → List ℕ
grid_fault_text EmptyMesh = codes "no facet is left"
grid_fault_text (TooLarge columns rows layers) = codes "grid too large: " ++ counts_text columns rows layers
grid_fault_text NoCells = codes "grid has no cells"
grid_fault_text FarCentre = codes "grid reaches too far"

-- the voxel is not in the grid, which has these counts
abbrev pub outside_text : ℕ → ℕ → ℕ → List ℕ
outside_text columns rows layers = codes "voxel outside the grid: " ++ counts_text columns rows layers
