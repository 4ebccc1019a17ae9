-- The faults of words: out of memory is never `Refused`; and the exit status and the line of each fault.
use Rattle.std.specs.Prelude.{◌≡◌, ◌≢◌, ◌++◌, ℕ, List, Option, Some, None, codes}
use Rattle.clap.specs.Words.{kind_of}
use Rattle.clap.specs.declared.error.kind.ErrorKind.TheVariants.{DisplayHelp, DisplayVersion, OutOfMemory}
use Rattle.task_words.specs.declared.word_fault.PngOption.{PngOption}
use Rattle.task_words.specs.declared.word_fault.PngOption.TheVariants.{Depth, MirrorX, MirrorY}
use Rattle.task_words.specs.declared.word_fault.Wanted.{Wanted}
use Rattle.task_words.specs.declared.word_fault.Wanted.TheVariants.{Layer, Pitch}
use Rattle.task_words.specs.declared.word_fault.WordFault.{WordFault}
use Rattle.task_words.specs.declared.word_fault.WordFault.TheVariants as words

-- out of memory is never the fault `Refused`; it has the fault `Memory`
abbrev pub IsNoMemoryRefusal : WordFault → Type 0
IsNoMemoryRefusal (words.Refused refusal) = kind_of refusal ≢ OutOfMemory
IsNoMemoryRefusal (words.Missing option) = Unit {0}
IsNoMemoryRefusal words.BadRule = Unit {0}
IsNoMemoryRefusal words.Memory = Unit {0}
IsNoMemoryRefusal words.BadUnit = Unit {0}
IsNoMemoryRefusal words.BadGrid = Unit {0}
IsNoMemoryRefusal words.BadProbe = Unit {0}
IsNoMemoryRefusal words.BadDepth = Unit {0}
IsNoMemoryRefusal (words.WithoutPng option) = Unit {0}

-- 0 if the words ask for help or for the version, 6 if an allocation failed, else 2
abbrev pub IsWordStatus : WordFault → ℕ → Type 0
IsWordStatus (words.Refused refusal) status =
    (kind_of refusal ≡ DisplayHelp → status ≡ 0)
    × (kind_of refusal ≡ DisplayVersion → status ≡ 0)
    × (kind_of refusal ≢ DisplayHelp → kind_of refusal ≢ DisplayVersion → status ≡ 2)
IsWordStatus (words.Missing option) status = status ≡ 2
IsWordStatus words.BadRule status = status ≡ 2
IsWordStatus words.Memory status = status ≡ 6
IsWordStatus words.BadUnit status = status ≡ 2
IsWordStatus words.BadGrid status = status ≡ 2
IsWordStatus words.BadProbe status = status ≡ 2
IsWordStatus words.BadDepth status = status ≡ 2
IsWordStatus (words.WithoutPng option) status = status ≡ 2

-- an option that is missing, as it is written
abbrev pub wanted_text : Wanted → List ℕ
wanted_text Pitch = codes "--pitch"
wanted_text Layer = codes "--layer"

-- an option of PNGs, as it is written
abbrev pub png_option_text : PngOption → List ℕ
png_option_text Depth = codes "--depth"
png_option_text MirrorX = codes "--mirror-x"
png_option_text MirrorY = codes "--mirror-y"

-- the line of a fault; `clap` words a refusal, and nothing is said of that
abbrev pub word_fault_text : WordFault → Option (List ℕ)
word_fault_text (words.Refused refusal) = None
word_fault_text (words.Missing option) = Some (codes "stlslice: " ++ (wanted_text option ++ codes " is missing"))
word_fault_text words.BadRule = Some (codes "stlslice: --rule takes evenodd, nonzero or positive")
word_fault_text words.Memory = Some (codes "stlslice: out of memory")
word_fault_text words.BadUnit = Some (codes "stlslice: --unit takes mm or inch")
word_fault_text words.BadGrid = Some (codes "stlslice: --grid takes COLUMNS,ROWS,LAYERS,X0,Y0,Z0")
word_fault_text words.BadProbe = Some (codes "stlslice: --probe takes I,J,K")
word_fault_text words.BadDepth = Some (codes "stlslice: --depth takes 8 or 1")
word_fault_text (words.WithoutPng option) = Some (codes "stlslice: " ++ (png_option_text option ++ codes " goes with --png"))
