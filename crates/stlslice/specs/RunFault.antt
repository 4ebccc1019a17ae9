-- What faults of the parts become in a run, and the line and the exit status of a program that ends with a fault.
use Rattle.std.specs.Prelude.{ℕ, List, ◌++◌, codes, decimal}
use Rattle.stl_text.specs.StlFault.{stl_fault_text}
use Rattle.mesh_weld.specs.WeldFault.{open_edge_text}
use Rattle.raster.specs.GridFault.{grid_fault_text, outside_text}
use Rattle.mesh_weld.specs.declared.weld_fault.WeldFault.{WeldFault}
use Rattle.mesh_weld.specs.declared.weld_fault.WeldFault.TheVariants as weld
use Rattle.mesh_reading.specs.declared.read_fault.ReadFault.{ReadFault}
use Rattle.mesh_reading.specs.declared.read_fault.ReadFault.TheVariants as read
use Rattle.stlslice.specs.declared.run_fault.RunFault.{RunFault}
use Rattle.stlslice.specs.declared.run_fault.RunFault.TheVariants as fault

abbrev pub of_weld : WeldFault → RunFault
of_weld (weld.Open from to there back) = fault.Open from to there back
of_weld weld.Memory = fault.Memory

abbrev pub of_read : ReadFault → RunFault
of_read read.Read = fault.Read
of_read (read.Stl cause) = fault.Stl cause
of_read (read.Weld cause) = of_weld cause
of_read read.Memory = fault.Memory

abbrev pub run_status : RunFault → ℕ
run_status fault.Read = 7
run_status (fault.Stl cause) = 3
run_status (fault.Open from to there back) = 4
run_status (fault.Grid cause) = 5
run_status fault.Memory = 6
run_status (fault.Write written) = 7
run_status (fault.Outside columns rows layers) = 5

-- the line without the program's name
abbrev pub cause_text : RunFault → List ℕ
cause_text fault.Read = codes "read failed"
cause_text (fault.Stl cause) = stl_fault_text cause
cause_text (fault.Open from to there back) = open_edge_text from to there back
cause_text (fault.Grid cause) = grid_fault_text cause
cause_text fault.Memory = codes "out of memory"
cause_text (fault.Write written) = codes "write failed after " ++ (decimal written ++ codes " bytes")
cause_text (fault.Outside columns rows layers) = outside_text columns rows layers

-- the line of a fault
abbrev pub run_fault_text : RunFault → List ℕ
run_fault_text fault = codes "stlslice: " ++ cause_text fault
