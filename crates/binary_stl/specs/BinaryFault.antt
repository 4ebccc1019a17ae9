-- The line of the fault of a binary STL.
use Rattle.std.specs.Prelude.{ℕ, List, ◌++◌, codes, decimal}
use Rattle.binary_stl.specs.declared.binary_fault.Axis.{Axis}
use Rattle.binary_stl.specs.declared.binary_fault.Axis.TheVariants.{X, Y, Z}
use Rattle.binary_stl.specs.declared.binary_fault.BinaryFault.{BinaryFault}
use Rattle.binary_stl.specs.declared.binary_fault.BinaryFault.TheVariants as fault
use Rattle.binary_stl.specs.declared.binary_fault.CoordinateFault.{CoordinateFault}
use Rattle.binary_stl.specs.declared.binary_fault.CoordinateFault.TheVariants.{NotNumber, Infinite, OutOfRange}

abbrev pub axis_text : Axis → List ℕ
axis_text X = codes "x"
axis_text Y = codes "y"
axis_text Z = codes "z"

abbrev pub coordinate_fault_text : CoordinateFault → List ℕ
coordinate_fault_text NotNumber = codes "not a number"
coordinate_fault_text Infinite = codes "infinite"
coordinate_fault_text OutOfRange = codes "out of range"

-- facets and corners count from 0
abbrev pub binary_fault_text : BinaryFault → List ℕ
binary_fault_text fault.Ended = codes "input ended before the count of facets"
binary_fault_text (fault.Length facets wanted found) =
    decimal facets ++ (codes " facets take " ++ (decimal wanted ++ (codes " bytes, but there are " ++ decimal found)))
binary_fault_text (fault.TooMany facets) = codes "too many facets: " ++ decimal facets
binary_fault_text (fault.Number cause facet corner axis) =
    axis_text axis ++ (codes " of corner " ++ (decimal corner ++ (codes " of facet " ++ (decimal facet ++ (codes ": " ++ coordinate_fault_text cause)))))
binary_fault_text fault.Memory = codes "out of memory"
