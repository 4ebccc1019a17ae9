-- The line of the fault of a text.
use Rattle.std.specs.Prelude.{ℕ, List, ◌++◌, codes, decimal}
use Rattle.micro_num.specs.NumFault.{num_fault_text}
use Rattle.stl_text.specs.declared.stl_fault.StlFault.{StlFault}
use Rattle.stl_text.specs.declared.stl_fault.StlFault.TheVariants as fault
use Rattle.stl_text.specs.declared.word.Word.{Word}
use Rattle.stl_text.specs.declared.word.Word.TheVariants as word

-- what is wanted: a keyword in lower case, one of two, or a number
abbrev pub wanted_text : Word → List ℕ
wanted_text word.Solid = codes "solid"
wanted_text word.FacetOrEnd = codes "facet or endsolid"
wanted_text word.Normal = codes "normal"
wanted_text word.Outer = codes "outer"
wanted_text word.Loop = codes "loop"
wanted_text word.Vertex = codes "vertex"
wanted_text word.Number = codes "number"
wanted_text word.EndLoop = codes "endloop"
wanted_text word.EndFacet = codes "endfacet"

-- bytes count from 0
abbrev pub stl_fault_text : StlFault → List ℕ
stl_fault_text (fault.Expected wanted at) = codes "expected " ++ (wanted_text wanted ++ (codes " at byte " ++ decimal at))
stl_fault_text (fault.Ended wanted) = codes "input ended before " ++ wanted_text wanted
stl_fault_text (fault.Number cause at) = codes "number at byte " ++ (decimal at ++ (codes ": " ++ num_fault_text cause))
stl_fault_text (fault.TooMany at) = codes "too many facets at byte " ++ decimal at
stl_fault_text fault.Memory = codes "out of memory"
