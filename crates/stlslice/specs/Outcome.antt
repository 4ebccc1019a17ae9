-- What the program writes for a task and an input, or which fault it ends with.
use Rattle.std.specs.Prelude.{◌≡◌, ℕ, Bool, true, false, List, ◌++◌, length, Option, Some, None, Result, Ok, Err, if◌then◌else◌, codes, decimal}
use Rattle.std.specs.Fmt.{signed_decimal}
use Rattle.micro_num.specs.declared.unit.Unit.{Unit as LengthUnit}
use Rattle.stl_text.specs.declared.stl_fault.StlFault.{StlFault}
use Rattle.geometry.specs.Point.{Point, point_text}
use Rattle.geometry.specs.Facet.{Facet}
use Rattle.geometry.specs.BoundingBox.{extent}
use Rattle.stl_text.specs.Text.{Reads, IsFaultOf}
use Rattle.geometry.specs.Winding.{ray, ray_y}
use Rattle.mesh_weld.specs.Balance.{IsBalanced, IsLeastOpen}
use Rattle.mesh_weld.specs.Solid.{Solid, solid_of}
use Rattle.raster.specs.declared.grid.GridFault.{GridFault}
use Rattle.raster.specs.Grid.{Grid, centre, is_voxel}
use Rattle.raster.specs.Placing.{placed_grid}
use Rattle.raster.specs.declared.placing.Placing.{Placing}
use Rattle.raster.specs.declared.placing.Placing.TheVariants as placing
use Rattle.raster.specs.declared.rule.Rule.{Rule}
use Rattle.stlslice.specs.SlicedText.{output_of, sliced_text}
use Rattle.stlslice.specs.declared.write.Output.{Output}
use Rattle.stlslice.specs.declared.write.Output.TheVariants as output
use Rattle.task_words.specs.declared.task.Given.{Given}
use Rattle.task_words.specs.declared.task.Task.{Task}
use Rattle.task_words.specs.declared.task.Task.TheVariants as task
use Rattle.stlslice.specs.declared.run_fault.RunFault.{RunFault}
use Rattle.stlslice.specs.declared.run_fault.RunFault.TheVariants as fault
use Rattle.geometry.specs.declared.limits.TheConstants.{FACET_LIMIT}

-- the line of a count of facets, with the corners of their bounding box
abbrev pub line_text : ℕ → Option (Point × Point) → List ℕ
line_text count None = codes "facets " ++ (decimal count ++ codes "\n")
line_text count (Some corners) =
    codes "facets " ++ (decimal count
    ++ (codes " box " ++ (point_text corners.0 ++ (codes " " ++ (point_text corners.1 ++ codes "\n")))))

-- the box line, over all facets that were read
abbrev pub box_text : List Facet → List ℕ
box_text facets = line_text (length facets) (extent facets)

-- the unit of a task
abbrev pub unit_of : Task → LengthUnit
unit_of (task.Box unit) = unit
unit_of (task.Slice unit pitch layer rule workers report grid) = unit
unit_of (task.Png unit pitch layer rule workers grid depth mirrors) = unit
unit_of (task.Probe unit pitch layer grid i j k) = unit

-- the task is the box
abbrev pub is_box : Task → Bool
is_box (task.Box unit) = true
is_box (task.Slice unit pitch layer rule workers report grid) = false
is_box (task.Png unit pitch layer rule workers grid depth mirrors) = false
is_box (task.Probe unit pitch layer grid i j k) = false

-- the task is slicing
abbrev pub is_slicing : Task → Bool
is_slicing (task.Box unit) = false
is_slicing (task.Slice unit pitch layer rule workers report grid) = true
is_slicing (task.Png unit pitch layer rule workers grid depth mirrors) = true
is_slicing (task.Probe unit pitch layer grid i j k) = false

-- the two rays at a voxel
abbrev pub probe_text : Grid → List Facet → ℕ → ℕ → ℕ → List ℕ
probe_text g facets i j k =
    codes "voxel " ++ (decimal i ++ (codes " " ++ (decimal j ++ (codes " " ++ (decimal k
    ++ (codes " x " ++ (signed_decimal (ray facets (centre g i j k))
    ++ (codes " y " ++ (signed_decimal (ray_y facets (centre g i j k)) ++ codes "\n")))))))))

-- the place of the grid by the words
abbrev pub placing_of : Option Given → Placing
placing_of None = placing.Fitted
placing_of (Some given) = placing.Given given.columns given.rows given.layers given.origin

-- the grid that is given, or else the one that fits, or why there is none
abbrev pub grid_for : Option Given → ℕ → ℕ → List Facet → Result Grid GridFault
grid_for given pitch layer facets = placed_grid (placing_of given) facets pitch layer

-- with a grid, what it gives; without one, the grid's fault
abbrev pub with_grid : (Grid → Result (List ℕ) RunFault) → Result Grid GridFault → Result (List ℕ) RunFault
with_grid f (Ok g) = f g
with_grid f (Err cause) = Err (fault.Grid cause)

-- the line of a probe, or the fault if there is no such voxel
abbrev pub probed_text : ℕ → ℕ → ℕ → List Facet → Grid → Result (List ℕ) RunFault
probed_text i j k facets g =
    if is_voxel g i j k then Ok (probe_text g facets i j k) else Err (fault.Outside g.columns g.rows g.layers)

-- the result of a probe for the kept facets of a closed mesh
abbrev pub probe_result : Option Given → ℕ → ℕ → ℕ → ℕ → ℕ → List Facet → Result (List ℕ) RunFault
probe_result grid pitch layer i j k facets = with_grid (probed_text i j k facets) (grid_for grid pitch layer facets)

-- the task of slicing that has this output
abbrev pub slicing : LengthUnit → ℕ → ℕ → Rule → ℕ → Option Given → Output → Task
slicing unit pitch layer rule workers grid output.Images = task.Slice unit pitch layer rule workers false grid
slicing unit pitch layer rule workers grid output.Report = task.Slice unit pitch layer rule workers true grid
slicing unit pitch layer rule workers grid (output.Pngs depth mirrors) = task.Png unit pitch layer rule workers grid depth mirrors

-- the result of slicing for the kept facets of a closed mesh: an output of all layers
abbrev pub sliced : Option Given → ℕ → ℕ → Rule → Output → List Facet → Result (List ℕ) RunFault
sliced grid pitch layer rule out facets = with_grid (λ g. Ok (sliced_text out g rule facets)) (grid_for grid pitch layer facets)

-- the outcome of a task for the kept facets of a closed mesh
abbrev pub IsMade : Task → Solid → Result (List ℕ) RunFault → Type 0
IsMade (task.Box unit) solid answer = ⊥
IsMade (task.Slice unit pitch layer rule workers report grid) solid answer =
    answer ≡ sliced grid pitch layer rule (output_of report) solid.facets
IsMade (task.Png unit pitch layer rule workers grid depth mirrors) solid answer =
    answer ≡ sliced grid pitch layer rule (output.Pngs depth mirrors) solid.facets
IsMade (task.Probe unit pitch layer grid i j k) solid answer = answer ≡ probe_result grid pitch layer i j k solid.facets

-- The program's outcome for a task and an input, by the order of its checks. The text has to read as facets, and for a box that
-- is all. Else the mesh has to be closed, and then the grid and the voxel decide.
pub data IsOutcome (t : Task) (bytes : List ℕ) (answer : Result (List ℕ) RunFault) : Type 0 where
  misread : (cause : StlFault) → IsFaultOf FACET_LIMIT (unit_of t) bytes cause → answer ≡ Err (fault.Stl cause)
      → IsOutcome t bytes answer
  boxed : (facets : List Facet) → Reads FACET_LIMIT (unit_of t) bytes facets → is_box t ≡ true
      → answer ≡ Ok (box_text facets) → IsOutcome t bytes answer
  open_mesh : (facets : List Facet) → Reads FACET_LIMIT (unit_of t) bytes facets → is_box t ≡ false
      → (from to : Point) (there back : ℕ) → IsLeastOpen facets from to there back
      → answer ≡ Err (fault.Open from to there back) → IsOutcome t bytes answer
  closed : (facets : List Facet) → Reads FACET_LIMIT (unit_of t) bytes facets → is_box t ≡ false
      → IsBalanced facets → IsMade t (solid_of facets) answer → IsOutcome t bytes answer
