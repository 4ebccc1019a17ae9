-- Which faults of a run come of its input, and what a probe answers.
use Rattle.std.proofs.Common.{◌≡◌, ◌≢◌, ◌⊎◌, ℕ, List, Option, ap, inl, inr, refl, subst}
use Rattle.std.specs.Prelude.{Err, Result, Ok, false}
use Rattle.micro_num.specs.declared.unit.Unit.{Unit as LengthUnit}
use Rattle.mesh_weld.specs.Solid.{Solid}
use Rattle.mesh_weld.specs.declared.weld_fault.WeldFault.TheVariants as weld
use Rattle.raster.specs.declared.grid.GridFault.{GridFault}
use Rattle.raster.specs.Grid.{Grid}
use Rattle.task_words.specs.declared.task.Given.{Given}
use Rattle.task_words.specs.declared.task.Task.{Task}
use Rattle.task_words.specs.declared.task.Task.TheVariants as task
use Rattle.mesh_reading.specs.Loading.{IsInputFault, IsLoadFault, IsMisread, IsSolidOf, IsTextExtent}
use Rattle.mesh_reading.specs.declared.extent.Extent.{Extent}
use Rattle.mesh_reading.specs.declared.read_fault.ReadFault.{ReadFault}
use Rattle.mesh_reading.specs.declared.read_fault.ReadFault.TheVariants as read
use Rattle.stlslice.specs.declared.run_fault.RunFault.{RunFault}
use Rattle.stlslice.specs.declared.run_fault.RunFault.TheVariants as fault
use Rattle.stlslice.specs.Outcome.{IsMade, IsOutcome, boxed, closed, grid_for, is_box, line_text, misread, open_mesh, probed_text, unit_of}
use Rattle.stlslice.specs.RunFault.{of_read}
use Rattle.stlslice.specs.Run.{IsRunFault}

-- Faults of reading, as a run answers them.

pub failed_read : (f : ReadFault) → of_read f ≡ fault.Read → f ≡ read.Read
failed_read read.Read e = refl
failed_read (read.Stl cause) e = cc
failed_read (read.Weld (weld.Open from to there back)) e = cc
failed_read (read.Weld weld.Memory) e = cc
failed_read read.Memory e = cc

pub not_written : (f : ReadFault) (written : ℕ) → of_read f ≢ fault.Write written
not_written read.Read written e = cc
not_written (read.Stl cause) written e = cc
not_written (read.Weld (weld.Open from to there back)) written e = cc
not_written (read.Weld weld.Memory) written e = cc
not_written read.Memory written e = cc

-- a fault of a run that read its input and has written nothing
abbrev pub IsWorkFault : Task → List ℕ → RunFault → Type 0
IsWorkFault t input f = IsRunFault t input f × (f ≢ fault.Read) × ((written : ℕ) → f ≢ fault.Write written)

-- the same of a fault of reading
abbrev pub IsReadingFault : Task → List ℕ → ReadFault → Type 0
IsReadingFault t input f = IsWorkFault t input (of_read f)

-- where a text does not read as facets, its fault is the outcome of a box
pub misread_box : (unit : LengthUnit) (input : List ℕ) (f : ReadFault) → IsMisread unit input f → IsReadingFault (task.Box unit) input f
misread_box unit input f h = rw h.1 (misread h.0 h.2 refl, (λ e. cc), (λ w e. cc))

-- the line of the extent that a text spells is the outcome of a box
pub box_there : (unit : LengthUnit) (input : List ℕ) (extent : Extent) (line : List ℕ) → IsTextExtent unit input extent
    → line ≡ line_text extent.count extent.corners → IsOutcome (task.Box unit) input (Ok line)
box_there unit input extent line from is =
    boxed from.0 from.1 refl (rw is (ap (λ (e : Extent). Ok (line_text e.count e.corners)) from.2))

-- where a text is no closed mesh, its fault is the outcome of a task that needs one
pub unloaded : (t : Task) (input : List ℕ) (f : ReadFault) → is_box t ≡ false → IsLoadFault (unit_of t) input f
    → IsReadingFault t input f
unloaded t input read.Read other h = absurd h
unloaded t input (read.Stl cause) other h = (misread cause h refl, (λ e. cc), (λ w e. cc))
unloaded t input (read.Weld (weld.Open from to there back)) other h = (open_mesh h.0 h.1 other from to there back h.2 refl, (λ e. cc), (λ w e. cc))
unloaded t input (read.Weld weld.Memory) other h = absurd h
unloaded t input read.Memory other h = (tt, (λ e. cc), (λ w e. cc))

pub by_input : (known : Option (List ℕ)) (P Q : List ℕ → ReadFault → Type 0) (f : ReadFault) → ((input : List ℕ) → P input f → Q input f)
    → IsInputFault P known f → IsInputFault Q known f
by_input known P Q f more (inl is) = inl is
by_input known P Q f more (inr (inl is)) = inr (inl is)
by_input known P Q f more (inr (inr h)) = inr (inr (h.0, h.1, more h.0 h.2))

-- what a task makes of the mesh is its outcome
pub made_there : (t : Task) (input : List ℕ) (solid : Solid) (answer : Result (List ℕ) RunFault) → is_box t ≡ false
    → IsSolidOf (unit_of t) input solid → IsMade t solid answer → IsOutcome t input answer
made_there t input solid answer other s made = closed s.0 s.1 other s.2 (subst (λ (m : Solid). IsMade t m answer) s.3 made)

-- where a closed mesh has no grid, that is the outcome of a probe, and of slicing
pub unplaced : (t : Task) (pitch layer : ℕ) (given : Option Given) (input : List ℕ) (solid : Solid) (f : RunFault) → is_box t ≡ false
    → ((cause : GridFault) → grid_for given pitch layer solid.facets ≡ Err cause → IsMade t solid (Err (fault.Grid cause)))
    → IsSolidOf (unit_of t) input solid
    → (cause : GridFault) × (f ≡ fault.Grid cause) × (grid_for given pitch layer solid.facets ≡ Err cause) → IsWorkFault t input f
unplaced t pitch layer given input solid f other made s h =
    rw h.1 (made_there t input solid (Err (fault.Grid h.0)) other s (made h.0 h.2), (λ e. cc), (λ w e. cc))

-- the answer of a probe in its grid is its outcome
pub probed_there : (unit : LengthUnit) (pitch layer : ℕ) (given : Option Given) (i j k : ℕ) (input : List ℕ) (solid : Solid) (g : Grid)
    (answer : Result (List ℕ) RunFault) → IsSolidOf unit input solid → grid_for given pitch layer solid.facets ≡ Ok g
    → answer ≡ probed_text i j k solid.facets g → IsOutcome (task.Probe unit pitch layer given i j k) input answer
probed_there unit pitch layer given i j k input solid g answer s placed is =
    made_there (task.Probe unit pitch layer given i j k) input solid answer refl s (rw placed is)

-- so is its fault, unless memory is short
pub probed_fault : (unit : LengthUnit) (pitch layer : ℕ) (given : Option Given) (i j k : ℕ) (input : List ℕ) (solid : Solid) (g : Grid)
    (f : RunFault) → IsSolidOf unit input solid → grid_for given pitch layer solid.facets ≡ Ok g
    → (f ≡ fault.Memory) ⊎ (f ≡ fault.Outside g.columns g.rows g.layers) × (Err f ≡ probed_text i j k solid.facets g)
    → IsWorkFault (task.Probe unit pitch layer given i j k) input f
probed_fault unit pitch layer given i j k input solid g f s placed (inl is) = rw is (tt, (λ e. cc), (λ w e. cc))
probed_fault unit pitch layer given i j k input solid g f s placed (inr h) =
    let own : RunFault = fault.Outside g.columns g.rows g.layers in
    let said : Err own ≡ probed_text i j k solid.facets g =
    subst (λ (x : RunFault). Err x ≡ probed_text i j k solid.facets g) h.0 h.1 in
    rw h.0 (probed_there unit pitch layer given i j k input solid g (Err own) s placed said, (λ e. cc), (λ w e. cc))
