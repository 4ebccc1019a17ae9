-- The line of a fault of welding.
use Rattle.std.specs.Prelude.{ℕ, List, ◌++◌, codes, decimal}
use Rattle.geometry.specs.Point.{Point, point_text}
use Rattle.mesh_weld.specs.declared.weld_fault.WeldFault.{WeldFault}
use Rattle.mesh_weld.specs.declared.weld_fault.WeldFault.TheVariants.{Memory, Open}

-- two points, and how many half-edges run there and back
abbrev pub open_edge_text : Point → Point → ℕ → ℕ → List ℕ
open_edge_text from to there back =
    codes "open edge " ++ (point_text from ++ (codes " to " ++ (point_text to ++ (codes " there " ++ (decimal there ++ (codes " back " ++ decimal back))))))

abbrev pub weld_fault_text : WeldFault → List ℕ
weld_fault_text (Open from to there back) = open_edge_text from to there back
weld_fault_text Memory = codes "out of memory"
