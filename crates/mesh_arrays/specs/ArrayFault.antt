-- The line of the fault of arrays.
use Rattle.std.specs.Prelude.{ℕ, List, ◌++◌, codes, decimal}
use Rattle.mesh_arrays.specs.declared.array_fault.ArrayFault.{ArrayFault}
use Rattle.mesh_arrays.specs.declared.array_fault.ArrayFault.TheVariants.{Memory, Missing, OutOfRange, TooMany}

-- a point of a triangle, which both count from 0, and what is said of it
abbrev pub point_line : ℕ → ℕ → List ℕ → List ℕ
point_line triangle point said = codes "point " ++ (decimal point ++ (codes " of triangle " ++ (decimal triangle ++ said)))

abbrev pub array_fault_text : ArrayFault → List ℕ
array_fault_text (Missing triangle point) = point_line triangle point (codes " is missing")
array_fault_text (OutOfRange triangle point) = point_line triangle point (codes " is out of range")
array_fault_text (TooMany triangle) = codes "too many facets at triangle " ++ decimal triangle
array_fault_text Memory = codes "out of memory"
