-- What a session has, which one a file, a text or arrays open, and why they open none.
use Rattle.std.specs.Prelude.{◌≡◌, ◌≢◌, ◌⊎◌, ℕ, ℤ, List, length, Option, Result, Ok, Err}
use Rattle.geometry.specs.Point.{Point}
use Rattle.geometry.specs.Facet.{Facet}
use Rattle.geometry.specs.BoundingBox.{extent}
use Rattle.geometry.specs.declared.limits.TheConstants.{FACET_LIMIT}
use Rattle.micro_num.specs.declared.unit.Unit.{Unit as LengthUnit}
use Rattle.stl_text.specs.Text.{IsFaultOf, Reads}
use Rattle.stl_text.specs.declared.stl_fault.StlFault.{StlFault}
use Rattle.binary_stl.specs.Binary.{IsBinary, IsFaultOfBinary, ReadsBinary}
use Rattle.binary_stl.specs.declared.binary_fault.BinaryFault.{BinaryFault}
use Rattle.mesh_arrays.specs.declared.array_fault.ArrayFault.{ArrayFault}
use Rattle.mesh_arrays.specs.Arrays.{IsFaultOfArrays, ReadsArrays}
use Rattle.mesh_weld.specs.Balance.{IsBalanced}
use Rattle.mesh_weld.specs.Solid.{solid_of}
use Rattle.build_book.specs.Job.{Job}
use Rattle.layer_session.specs.declared.setup.Setup.{Setup}
use Rattle.layer_session.specs.declared.session_fault.SessionFault.{SessionFault}
use Rattle.layer_session.specs.declared.session_fault.SessionFault.TheVariants as fault
use Rattle.layer_session.specs.Place.{IsGridAt, IsInReach, IsNoGridAt, IsNoSolidAt, placed, times_of}
use Rattle.layer_session.specs.Setup.{HasSteps}

-- A job; of all facets that were read, degenerate ones among them, their number and their box; and by what x and y of the job's
-- facets are multiplied.
pub record Session : Type 0 where
  pub job : Job
  pub facet_count : ℕ
  pub bounds : Option (Point × Point)
  pub times : ℕ × ℕ

-- The bytes of a file are these facets, at most `limit` of them. They are read as a binary STL if they have the length that their
-- count of facets takes, and as an ASCII STL text if not.
abbrev pub ReadsFile : ℕ → LengthUnit → List ℕ → List Facet → Type 0
ReadsFile limit unit bytes facets =
    (IsBinary bytes × ReadsBinary limit unit bytes facets) ⊎ ((IsBinary bytes → ⊥) × Reads limit unit bytes facets)

-- a fault of a file: that of a binary STL or of a text, as which it is read; or out of memory
abbrev pub IsFaultOfFile : ℕ → LengthUnit → List ℕ → SessionFault → Type 0
IsFaultOfFile limit unit bytes fault.Step = ⊥
IsFaultOfFile limit unit bytes (fault.Stl cause) = (IsBinary bytes → ⊥) × IsFaultOf limit unit bytes cause
IsFaultOfFile limit unit bytes (fault.Binary cause) = IsBinary bytes × IsFaultOfBinary limit unit bytes cause
IsFaultOfFile limit unit bytes (fault.Arrays cause) = ⊥
IsFaultOfFile limit unit bytes (fault.Weld cause) = ⊥
IsFaultOfFile limit unit bytes (fault.Grid cause) = ⊥
IsFaultOfFile limit unit bytes (fault.Screen cause) = ⊥
IsFaultOfFile limit unit bytes fault.Memory = Unit {0}
IsFaultOfFile limit unit bytes (fault.Outside columns rows layers) = ⊥

-- what is opened: the bytes of a file; those of an ASCII STL text; or points and triangles
pub data Input : Type 0 where
  of_file : List ℕ → Input
  of_text : List ℕ → Input
  of_arrays : List (List ℤ) → List (List ℕ) → Input

-- which facets it is read as
abbrev pub IsReadAs : Setup → Input → List Facet → Type 0
IsReadAs setup (of_file bytes) facets = ReadsFile FACET_LIMIT setup.unit bytes facets
IsReadAs setup (of_text bytes) facets = Reads FACET_LIMIT setup.unit bytes facets
IsReadAs setup (of_arrays points triangles) facets = ReadsArrays points triangles facets

-- The input is read as facets that make a closed mesh where they are placed, which has a grid. Solid, grid and rule are theirs there.
-- Number and box are those of the facets as they are read.
pub record IsSessionOf (setup : Setup) (input : Input) (session : Session) : Type 0 where
  pub facets : List Facet
  pub range : HasSteps setup
  pub reads : IsReadAs setup input facets
  pub reach : IsInReach setup.place facets
  pub closed : IsBalanced (placed setup.place facets)
  pub solid : session.job.solid ≡ solid_of (placed setup.place facets)
  pub grid : IsGridAt setup.place setup.layer (solid_of (placed setup.place facets)).facets session.job.grid
  pub rule : session.job.rule ≡ setup.rule
  pub count : session.facet_count ≡ length facets
  pub bounds : session.bounds ≡ extent facets
  pub times : session.times ≡ times_of setup.place

-- a fault of a text
abbrev pub IsTextFault : Setup → Input → StlFault → Type 0
IsTextFault setup (of_file bytes) cause = IsFaultOfFile FACET_LIMIT setup.unit bytes (fault.Stl cause)
IsTextFault setup (of_text bytes) cause = IsFaultOf FACET_LIMIT setup.unit bytes cause
IsTextFault setup (of_arrays points triangles) cause = ⊥

-- a fault of a binary STL
abbrev pub IsBinaryFault : Setup → Input → BinaryFault → Type 0
IsBinaryFault setup (of_file bytes) cause = IsFaultOfFile FACET_LIMIT setup.unit bytes (fault.Binary cause)
IsBinaryFault setup (of_text bytes) cause = ⊥
IsBinaryFault setup (of_arrays points triangles) cause = ⊥

-- a fault of arrays
abbrev pub IsArrayFault : Input → ArrayFault → Type 0
IsArrayFault (of_file bytes) cause = ⊥
IsArrayFault (of_text bytes) cause = ⊥
IsArrayFault (of_arrays points triangles) cause = IsFaultOfArrays points triangles cause

-- facets that are read make no solid where they are placed
abbrev pub HasNoSolid : Setup → Input → SessionFault → Type 0
HasNoSolid setup input f = (facets : List Facet) × IsReadAs setup input facets × IsNoSolidAt setup.place facets f

-- facets that are read make one there, and it has no grid
abbrev pub HasNoGrid : Setup → Input → SessionFault → Type 0
HasNoGrid setup input f =
    (facets : List Facet) × IsReadAs setup input facets × IsInReach setup.place facets × IsBalanced (placed setup.place facets)
    × IsNoGridAt setup.place setup.layer (solid_of (placed setup.place facets)).facets f

-- a step out of range; else the fault of the file, the text or the arrays; else a multiplied coordinate out of range; else the least open
-- edge of the facets where they are placed; else the fault of the grid
abbrev pub IsOpenFault : Setup → Input → SessionFault → Type 0
IsOpenFault setup input fault.Step = HasSteps setup → ⊥
IsOpenFault setup input (fault.Stl cause) = HasSteps setup × IsTextFault setup input cause
IsOpenFault setup input (fault.Binary cause) = HasSteps setup × IsBinaryFault setup input cause
IsOpenFault setup input (fault.Arrays cause) = HasSteps setup × IsArrayFault input cause
IsOpenFault setup input (fault.Weld cause) = HasSteps setup × HasNoSolid setup input (fault.Weld cause)
IsOpenFault setup input (fault.Grid cause) = HasSteps setup × HasNoGrid setup input (fault.Grid cause)
IsOpenFault setup input (fault.Screen cause) =
    HasSteps setup × (HasNoSolid setup input (fault.Screen cause) ⊎ HasNoGrid setup input (fault.Screen cause))
IsOpenFault setup input fault.Memory = Unit {0}
IsOpenFault setup input (fault.Outside columns rows layers) = ⊥

-- the answer of opening if memory suffices
abbrev pub IsAnswer : Setup → Input → Result Session SessionFault → Type 0
IsAnswer setup input (Ok session) = IsSessionOf setup input session
IsAnswer setup input (Err f) = (f ≢ fault.Memory) × IsOpenFault setup input f
