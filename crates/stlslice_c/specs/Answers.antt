-- What a call leaves, and the status that it returns.
use Rattle.std.specs.Prelude.{◌≡◌, ◌⊎◌, ◌<◌, ◌≤◌, ◌∷◌, ◌++◌, ◌+◌, ◌-◌, ℕ, List, length, drop, take, min, Option, Some, None, Ok, Err}
use Rattle.geometry.specs.Facet.{Facet}
use Rattle.geometry.specs.BoundingBox.{extent}
use Rattle.geometry.specs.declared.limits.TheConstants.{FACET_LIMIT}
use Rattle.micro_num.specs.declared.unit.Unit.{Unit as LengthUnit}
use Rattle.raster.specs.Filler.{area_of}
use Rattle.raster.specs.declared.rule.Rule.{Rule}
use Rattle.layer_png.specs.declared.depth.Depth.{Depth}
use Rattle.layer_png.specs.declared.mirrors.Mirrors.{Mirrors}
use Rattle.build_book.specs.Job.{Job, stripe_count}
use Rattle.layer_session.specs.Answers.{areas_of, image_of, outside, png_of_layer, probed, stripe_images}
use Rattle.layer_session.specs.Session.{Input, IsFaultOfFile, IsOpenFault, IsSessionOf, ReadsFile, Session}
use Rattle.layer_session.specs.SessionFault.{session_fault_text}
use Rattle.layer_session.specs.Setup.{HasSteps}
use Rattle.layer_session.specs.declared.setup.Setup.{Setup}
use Rattle.layer_session.specs.declared.session_fault.SessionFault.{SessionFault}
use Rattle.layer_session.specs.declared.session_fault.SessionFault.TheVariants as fault
use Rattle.stlslice_c.specs.declared.options.NoSetup.{NoSetup}
use Rattle.stlslice_c.specs.declared.options.NoSetup.TheVariants as none
use Rattle.stlslice_c.specs.declared.options.Options.{Options}
use Rattle.stlslice_c.specs.declared.shape.Corners.{Corners}
use Rattle.stlslice_c.specs.declared.shape.Rays.{Rays}
use Rattle.stlslice_c.specs.declared.shape.Shape.{Shape}
use Rattle.stlslice_c.specs.declared.status.TheConstants.{DONE, MEMORY, NO_ROOM, OUT_OF_RANGE}
use Rattle.stlslice_c.specs.Options.{IsNoSetup, IsSetup, depth_numbered, mirrors_numbered, rule_numbered, unit_numbered}
use Rattle.stlslice_c.specs.Shape.{corners_told, shape_told}
use Rattle.stlslice_c.specs.Status.{status_of, status_text}

-- These items stand at the front of a buffer, and the rest is as it was; or all of it is, if it is too small. Their number is
-- put in both cases.
abbrev pub IsPutInFront : {X : Type 0} → List X → List X → List X → ℕ → ℕ → Type 0
IsPutInFront items old new wanted status = (wanted ≡ length items)
    × (((length items ≤ length old) × (new ≡ items ++ drop (length items) old) × (status ≡ DONE))
    ⊎ ((length old < length items) × (new ≡ old) × (status ≡ NO_ROOM)))

-- The bytes of number n, which is below the count, are put; or there is no memory for them, though they fit; or there is no
-- such number. In the last two cases buffer and size are as they were.
abbrev pub IsNumbered : ℕ → ℕ → List ℕ → List ℕ → List ℕ → ℕ → ℕ → ℕ → Type 0
IsNumbered n count bytes old new told wanted status =
    ((n < count) × IsPutInFront bytes old new wanted status)
    ⊎ ((n < count) × (length bytes ≤ length old) × (new ≡ old) × (wanted ≡ told) × (status ≡ MEMORY))
    ⊎ ((count ≤ n) × (new ≡ old) × (wanted ≡ told) × (status ≡ OUT_OF_RANGE))

-- the image of layer k
abbrev pub IsMaskAnswer : Job → ℕ → List ℕ → List ℕ → ℕ → ℕ → ℕ → Type 0
IsMaskAnswer job k old new told wanted status = IsNumbered k job.grid.layers (image_of job k) old new told wanted status

-- the images of stripe s
abbrev pub IsStripeAnswer : Job → ℕ → List ℕ → List ℕ → ℕ → ℕ → ℕ → Type 0
IsStripeAnswer job s old new told wanted status =
    IsNumbered s (stripe_count job.grid) (stripe_images job s) old new told wanted status

-- a layer of the grid, a depth and mirrors, by their numbers
pub record IsPngAsked (job : Job) (k depth mirrors : ℕ) (meant : Depth) (shown : Mirrors) : Type 0 where
  pub layer : k < job.grid.layers
  pub bits : depth_numbered depth ≡ Some meant
  pub mirrored : mirrors_numbered mirrors ≡ Some shown

-- The PNG of layer k: put; or no memory for it; or there is no such layer, depth or mirrors. In the last two cases buffer and
-- size are as they were.
abbrev pub IsPngAnswer : Job → ℕ → ℕ → ℕ → List ℕ → List ℕ → ℕ → ℕ → ℕ → Type 0
IsPngAnswer job k depth mirrors old new told wanted status =
    ((meant : Depth) × (shown : Mirrors) × IsPngAsked job k depth mirrors meant shown
    × IsPutInFront (png_of_layer job k meant shown) old new wanted status)
    ⊎ ((meant : Depth) × (shown : Mirrors) × IsPngAsked job k depth mirrors meant shown
    × (new ≡ old) × (wanted ≡ told) × (status ≡ MEMORY))
    ⊎ (((job.grid.layers ≤ k) ⊎ (depth_numbered depth ≡ None) ⊎ (mirrors_numbered mirrors ≡ None))
    × (new ≡ old) × (wanted ≡ told) × (status ≡ OUT_OF_RANGE))

abbrev pub IsAreaAnswer : Job → ℕ → ℕ → ℕ → ℕ → Type 0
IsAreaAnswer job k old new status =
    ((k < job.grid.layers) × (new ≡ area_of job.grid job.rule job.solid.facets k) × (status ≡ DONE))
    ⊎ ((k < job.grid.layers) × (new ≡ old) × (status ≡ MEMORY))
    ⊎ ((job.grid.layers ≤ k) × (new ≡ old) × (status ≡ OUT_OF_RANGE))

-- The numbers of pixels that a rule fills of as many layers, from layer `first` on, as there are places: put; or no memory for
-- them; or there is no such rule or not all of these layers.
abbrev pub IsAreasAnswer : Job → ℕ → ℕ → List ℕ → List ℕ → ℕ → Type 0
IsAreasAnswer job number first old new status =
    ((rule : Rule) × (rule_numbered number ≡ Some rule) × (first + length old ≤ job.grid.layers)
    × (new ≡ areas_of job rule first (length old)) × (status ≡ DONE))
    ⊎ ((rule : Rule) × (rule_numbered number ≡ Some rule) × (first + length old ≤ job.grid.layers) × (new ≡ old) × (status ≡ MEMORY))
    ⊎ (((rule_numbered number ≡ None) ⊎ (job.grid.layers < first + length old)) × (new ≡ old) × (status ≡ OUT_OF_RANGE))

abbrev pub IsProbeAnswer : Job → ℕ → ℕ → ℕ → Rays → Rays → ℕ → Type 0
IsProbeAnswer job i j k old new status =
    ((probed job i j k ≡ Ok (new.along_x, new.along_y)) × (status ≡ DONE))
    ⊎ ((probed job i j k ≡ Err (outside job.grid)) × (new ≡ old) × (status ≡ OUT_OF_RANGE))

-- as much of a text as fits, with a 0 after it
abbrev pub IsLine : List ℕ → List ℕ → List ℕ → Type 0
IsLine text old new = (1 ≤ length old)
    → new ≡ take (min (length text) (length old - 1)) text ++ 0 ∷ drop (min (length text) (length old - 1) + 1) old

-- the line of a session's fault, or that of its status
abbrev pub IsToldOrShort : SessionFault → List ℕ → List ℕ → Type 0
IsToldOrShort told old new = IsLine (session_fault_text told) old new ⊎ IsLine (status_text (status_of told)) old new

-- The line of a fault: that of the session's, or that of the status if there is no memory for it. What is outside the grid is
-- told by its status alone.
abbrev pub IsFaultLine : SessionFault → List ℕ → List ℕ → Type 0
IsFaultLine fault.Step old new = IsLine (session_fault_text fault.Step) old new
IsFaultLine fault.Memory old new = IsLine (session_fault_text fault.Memory) old new
IsFaultLine (fault.Outside columns rows layers) old new = IsLine (status_text OUT_OF_RANGE) old new
IsFaultLine (fault.Stl cause) old new = IsToldOrShort (fault.Stl cause) old new
IsFaultLine (fault.Binary cause) old new = IsToldOrShort (fault.Binary cause) old new
IsFaultLine (fault.Arrays cause) old new = IsToldOrShort (fault.Arrays cause) old new
IsFaultLine (fault.Weld cause) old new = IsToldOrShort (fault.Weld cause) old new
IsFaultLine (fault.Grid cause) old new = IsToldOrShort (fault.Grid cause) old new
IsFaultLine (fault.Screen cause) old new = IsToldOrShort (fault.Screen cause) old new

-- the number and the box of the facets that a file reads as
pub record IsBoxed (unit : ℕ) (bytes : List ℕ) (told : Corners) : Type 0 where
  pub meant : LengthUnit
  pub facets : List Facet
  pub means : unit_numbered unit ≡ Some meant
  pub reads : ReadsFile FACET_LIMIT meant bytes facets
  pub box : told ≡ corners_told (length facets) (extent facets)

-- a number that is no unit's, or the fault of the file, of which at most `limit` facets are read, with its line
abbrev pub IsUnread : ℕ → ℕ → List ℕ → List ℕ → List ℕ → ℕ → Type 0
IsUnread limit unit bytes before after status =
    ((unit_numbered unit ≡ None) × (status ≡ OUT_OF_RANGE) × IsLine (status_text OUT_OF_RANGE) before after)
    ⊎ ((meant : LengthUnit) × (fault : SessionFault) × (unit_numbered unit ≡ Some meant)
    × IsFaultOfFile limit meant bytes fault × (status ≡ status_of fault) × IsFaultLine fault before after)

-- the box, and no line; or else the line, and no box
abbrev pub IsBoxAnswer : ℕ → List ℕ → Corners → Corners → List ℕ → List ℕ → ℕ → Type 0
IsBoxAnswer unit bytes old new before after status =
    (IsBoxed unit bytes new × (after ≡ before) × (status ≡ DONE)) ⊎ ((new ≡ old) × IsUnread FACET_LIMIT unit bytes before after status)

-- the session of a file or of arrays, and its shape
pub record IsOpened (o : Options) (input : Input) (new : Option Session) (shape : Shape) : Type 0 where
  pub setup : Setup
  pub session : Session
  pub means : IsSetup o setup
  pub opens : IsSessionOf setup input session
  pub held : new ≡ Some session
  pub told : shape ≡ shape_told session

-- If pitch or layer height is out of range, exactly that is the fault.
abbrev pub IsStepFirst : Setup → SessionFault → Type 0
IsStepFirst setup told = (HasSteps setup → ⊥) → told ≡ fault.Step

-- The line of why options stand for no setup: that of the screen's fault, or that of the status.
abbrev pub IsNoSetupLine : NoSetup → List ℕ → List ℕ → ℕ → Type 0
IsNoSetupLine none.Number before after status = (status ≡ OUT_OF_RANGE) × IsLine (status_text OUT_OF_RANGE) before after
IsNoSetupLine (none.Screen cause) before after status =
    (status ≡ status_of (fault.Screen cause)) × IsFaultLine (fault.Screen cause) before after

-- options that stand for no setup, or why no session is opened, with the line of that
abbrev pub IsUnopened : Options → Input → List ℕ → List ℕ → ℕ → Type 0
IsUnopened o input before after status =
    ((reason : NoSetup) × IsNoSetup o reason × IsNoSetupLine reason before after status)
    ⊎ ((setup : Setup) × (fault : SessionFault) × IsSetup o setup × IsOpenFault setup input fault
    × IsStepFirst setup fault
    × (status ≡ status_of fault) × IsFaultLine fault before after)

-- a handle that was not opened has what it had; only then there is a line
abbrev pub IsOpening : Options → Input → Option Session → Option Session → Shape → Shape → List ℕ → List ℕ → ℕ → Type 0
IsOpening o input held holds old new before after status =
    (IsOpened o input holds new × (after ≡ before) × (status ≡ DONE))
    ⊎ ((holds ≡ held) × (new ≡ old) × IsUnopened o input before after status)
