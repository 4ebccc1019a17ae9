-- The line of a session's fault.
use Rattle.std.specs.Prelude.{ℕ, List, codes}
use Rattle.binary_stl.specs.BinaryFault.{binary_fault_text}
use Rattle.mesh_arrays.specs.ArrayFault.{array_fault_text}
use Rattle.mesh_weld.specs.WeldFault.{weld_fault_text}
use Rattle.part_on_screen.specs.ScreenFault.{screen_fault_text}
use Rattle.raster.specs.GridFault.{grid_fault_text, outside_text}
use Rattle.stl_text.specs.StlFault.{stl_fault_text}
use Rattle.layer_session.specs.declared.session_fault.SessionFault.{SessionFault}
use Rattle.layer_session.specs.declared.session_fault.SessionFault.TheVariants.{Arrays, Binary, Grid, Memory, Outside, Screen, Step, Stl, Weld}

abbrev pub session_fault_text : SessionFault → List ℕ
session_fault_text Step = codes "pitch and layer height take 1 to 100000 micrometres"
session_fault_text (Stl cause) = stl_fault_text cause
session_fault_text (Binary cause) = binary_fault_text cause
session_fault_text (Arrays cause) = array_fault_text cause
session_fault_text (Weld cause) = weld_fault_text cause
session_fault_text (Grid cause) = grid_fault_text cause
session_fault_text (Screen cause) = screen_fault_text cause
session_fault_text Memory = codes "out of memory"
session_fault_text (Outside columns rows layers) = outside_text columns rows layers
