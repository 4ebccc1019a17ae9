-- What holds of slicing with each output.
use Rattle.std.proofs.Common.{◌≡◌, ◌∙◌, ℕ, Bool, true, false, List, Option, refl, sym}
use Rattle.std.specs.Prelude.{Err, Ok, Result}
use Rattle.micro_num.specs.declared.unit.Unit.{Unit as LengthUnit}
use Rattle.stl_text.specs.Text.{Reads}
use Rattle.geometry.specs.Facet.{Facet}
use Rattle.geometry.specs.declared.limits.TheConstants.{FACET_LIMIT}
use Rattle.mesh_weld.specs.Balance.{IsBalanced}
use Rattle.mesh_weld.specs.Solid.{Solid, kept_facets, solid_of}
use Rattle.raster.specs.declared.grid.GridFault.{GridFault}
use Rattle.raster.specs.declared.rule.Rule.{Rule}
use Rattle.task_words.specs.Task.{AreInRange, IsInRange}
use Rattle.task_words.specs.declared.task.Given.{Given}
use Rattle.task_words.specs.declared.task.Task.{Task}
use Rattle.task_words.specs.declared.task.Task.TheVariants as task
use Rattle.mesh_reading.specs.Loading.{IsSolidOf}
use Rattle.mesh_reading.specs.Loading as reading
use Rattle.mesh_reading.specs.declared.read_fault.ReadFault.{ReadFault}
use Rattle.stlslice.specs.Outcome.{IsMade, IsOutcome, boxed, closed, grid_for, is_box, misread, open_mesh, sliced, slicing, unit_of}
use Rattle.stlslice.specs.SlicedText.{output_of}
use Rattle.stlslice.specs.declared.run_fault.RunFault.{RunFault}
use Rattle.stlslice.specs.declared.run_fault.RunFault.TheVariants as fault
use Rattle.stlslice.specs.declared.write.Output.{Output}
use Rattle.stlslice.specs.declared.write.Output.TheVariants as output
use Rattle.stlslice.proofs.lemmas.Faults.{IsReadingFault, IsWorkFault, made_there, unloaded, unplaced}

-- a task that asks for a report, or does not, is the one with that output
pub slicing_of : (unit : LengthUnit) (pitch layer : ℕ) (rule : Rule) (workers : ℕ) (report : Bool) (given : Option Given)
    → slicing unit pitch layer rule workers given (output_of report) ≡ task.Slice unit pitch layer rule workers report given
slicing_of unit pitch layer rule workers true given = refl
slicing_of unit pitch layer rule workers false given = refl

-- Where a task that needs a closed mesh has a text, that comes of one.
closed_there : (t : Task) (input text : List ℕ) → is_box t ≡ false → IsOutcome t input (Ok text)
    → (facets : List Facet) × Reads FACET_LIMIT (unit_of t) input facets × IsBalanced facets × IsMade t (solid_of facets) (Ok text)
closed_there t input text other (misread cause f is) = cc
closed_there t input text other (boxed facets reads box is) = cc
closed_there t input text other (open_mesh facets reads shut from to there back edge is) = cc
closed_there t input text other (closed facets reads shut balanced made) = (facets, reads, balanced, made)

module _ (unit : LengthUnit) (pitch layer : ℕ) (rule : Rule) (workers : ℕ) (given : Option Given) where
  -- its numbers are in range
  pub in_range : (out : Output) → IsInRange (slicing unit pitch layer rule workers given out) → AreInRange pitch layer workers
  in_range output.Images h = h
  in_range output.Report h = h
  in_range (output.Pngs depth mirrors) h = h

  -- an output of a closed mesh is the outcome
  pub outcome_there : (out : Output) (input : List ℕ) (facets : List Facet) (answer : Result (List ℕ) RunFault) → Reads FACET_LIMIT unit input facets
      → IsBalanced facets → answer ≡ sliced given pitch layer rule out (kept_facets facets)
      → IsOutcome (slicing unit pitch layer rule workers given out) input answer
  outcome_there output.Images input facets answer reads balanced is = closed facets reads refl balanced is
  outcome_there output.Report input facets answer reads balanced is = closed facets reads refl balanced is
  outcome_there (output.Pngs depth mirrors) input facets answer reads balanced is = closed facets reads refl balanced is

  -- and each text of slicing is such an output
  pub of_outcome : (out : Output) (input text : List ℕ) → IsOutcome (slicing unit pitch layer rule workers given out) input (Ok text)
      → (facets : List Facet) × Reads FACET_LIMIT unit input facets × IsBalanced facets
      × (Ok text ≡ sliced given pitch layer rule out (kept_facets facets))
  of_outcome output.Images input text h = closed_there (task.Slice unit pitch layer rule workers false given) input text refl h
  of_outcome output.Report input text h = closed_there (task.Slice unit pitch layer rule workers true given) input text refl h
  of_outcome (output.Pngs depth mirrors) input text h = closed_there (task.Png unit pitch layer rule workers given depth mirrors) input text refl h

  -- what it makes of a solid is its outcome
  pub slicing_there : (out : Output) (input : List ℕ) (solid : Solid) (answer : Result (List ℕ) RunFault) → IsSolidOf unit input solid
      → answer ≡ sliced given pitch layer rule out solid.facets → IsOutcome (slicing unit pitch layer rule workers given out) input answer
  slicing_there output.Images input solid answer s is = made_there (task.Slice unit pitch layer rule workers false given) input solid answer refl s is
  slicing_there output.Report input solid answer s is = made_there (task.Slice unit pitch layer rule workers true given) input solid answer refl s is
  slicing_there (output.Pngs depth mirrors) input solid answer s is =
      made_there (task.Png unit pitch layer rule workers given depth mirrors) input solid answer refl s is

  -- where a text is no closed mesh, its fault is the outcome
  pub unloaded_slicing : (out : Output) (input : List ℕ) (f : ReadFault) → reading.IsLoadFault unit input f
      → IsReadingFault (slicing unit pitch layer rule workers given out) input f
  unloaded_slicing output.Images input f h = unloaded (task.Slice unit pitch layer rule workers false given) input f refl h
  unloaded_slicing output.Report input f h = unloaded (task.Slice unit pitch layer rule workers true given) input f refl h
  unloaded_slicing (output.Pngs depth mirrors) input f h = unloaded (task.Png unit pitch layer rule workers given depth mirrors) input f refl h

  -- so is the fault of its grid
  pub unplaced_slicing : (out : Output) (input : List ℕ) (solid : Solid) (f : RunFault) → IsSolidOf unit input solid
      → (cause : GridFault) × (f ≡ fault.Grid cause) × (grid_for given pitch layer solid.facets ≡ Err cause)
      → IsWorkFault (slicing unit pitch layer rule workers given out) input f
  unplaced_slicing output.Images input solid f s h =
      unplaced (task.Slice unit pitch layer rule workers false given) pitch layer given input solid f refl (λ cause none. rw none refl) s h
  unplaced_slicing output.Report input solid f s h =
      unplaced (task.Slice unit pitch layer rule workers true given) pitch layer given input solid f refl (λ cause none. rw none refl) s h
  unplaced_slicing (output.Pngs depth mirrors) input solid f s h =
      unplaced (task.Png unit pitch layer rule workers given depth mirrors) pitch layer given input solid f refl (λ cause none. rw none refl) s h

-- Tasks of the same input that make the same of a mesh have the same outcome.
alike : (t u : Task) (input : List ℕ) (answer : Result (List ℕ) RunFault) → unit_of t ≡ unit_of u → is_box t ≡ is_box u
    → ((solid : Solid) → IsMade t solid answer → IsMade u solid answer) → IsOutcome t input answer → IsOutcome u input answer
alike t u input answer units boxes made (misread cause f is) = misread cause (rw (← units) f) is
alike t u input answer units boxes made (boxed facets reads box is) = boxed facets (rw (← units) reads) (sym boxes ∙ box) is
alike t u input answer units boxes made (open_mesh facets reads other from to there back edge is) =
    open_mesh facets (rw (← units) reads) (sym boxes ∙ other) from to there back edge is
alike t u input answer units boxes made (closed facets reads other balanced h) =
    closed facets (rw (← units) reads) (sym boxes ∙ other) balanced (made (solid_of facets) h)

-- the number of workers does not count
pub other_workers : (unit : LengthUnit) (pitch layer : ℕ) (rule : Rule) (workers others : ℕ) (given : Option Given) (out : Output)
    (input : List ℕ) (answer : Result (List ℕ) RunFault) → IsOutcome (slicing unit pitch layer rule workers given out) input answer
    → IsOutcome (slicing unit pitch layer rule others given out) input answer
other_workers unit pitch layer rule workers others given output.Images input answer h =
    alike (task.Slice unit pitch layer rule workers false given) (task.Slice unit pitch layer rule others false given) input answer refl refl (λ s m. m) h
other_workers unit pitch layer rule workers others given output.Report input answer h =
    alike (task.Slice unit pitch layer rule workers true given) (task.Slice unit pitch layer rule others true given) input answer refl refl (λ s m. m) h
other_workers unit pitch layer rule workers others given (output.Pngs depth mirrors) input answer h =
    alike (task.Png unit pitch layer rule workers given depth mirrors) (task.Png unit pitch layer rule others given depth mirrors) input answer
    refl refl (λ s m. m) h
