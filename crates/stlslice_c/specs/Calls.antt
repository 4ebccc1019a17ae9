-- What a call leaves at the pointers that C gives. The values at a pointer are a list: at one that may be null it is empty, or
-- has one value. Where C tells a number, there are as many, or none if a null pointer or an impossible number is given.
use Rattle.std.specs.Prelude.{◌≡◌, ◌⊎◌, ℕ, ℤ, List, [], ◌∷◌, length, Some, None}
use Rattle.build_book.specs.Job.{Job}
use Rattle.layer_session.specs.Session.{Session, of_arrays, of_file}
use Rattle.stlslice_c.specs.Answers.{IsAreaAnswer, IsAreasAnswer, IsBoxAnswer, IsLine, IsMaskAnswer, IsOpening, IsPngAnswer, IsProbeAnswer, IsStripeAnswer}
use Rattle.stlslice_c.specs.Facets.{IsFacetsAnswer}
use Rattle.stlslice_c.specs.Loops.{AreAsBefore, IsLoops}
use Rattle.stlslice_c.specs.Status.{status_text}
use Rattle.stlslice_c.specs.declared.handle.Handle.{Handle}
use Rattle.stlslice_c.specs.declared.loops.LoopPoint.{LoopPoint}
use Rattle.stlslice_c.specs.declared.options.Options.{Options}
use Rattle.stlslice_c.specs.declared.shape.Corners.{Corners}
use Rattle.stlslice_c.specs.declared.shape.Rays.{Rays}
use Rattle.stlslice_c.specs.declared.shape.Shape.{Shape}
use Rattle.stlslice_c.specs.declared.status.TheConstants.{NOT_OPEN, OUT_OF_RANGE}

-- If a handle has a mesh, that is answered; if not, the status says so, and what C gave is as it was.
abbrev pub IsAsked : Handle → ℕ → (Job → Type 0) → Type 0 → Type 0
IsAsked handle status Answered Same = ((session : Session) → handle.mesh.session ≡ Some session → Answered session.job)
    × (handle.mesh.session ≡ None → (status ≡ NOT_OPEN) × Same)

abbrev pub IsTextCall : ℕ → List ℕ → List ℕ → ℕ → Type 0
IsTextCall status line new room =
    ((length line ≡ room → ⊥) → new ≡ line) × (length line ≡ room → IsLine (status_text status) line new)

-- Of each other call: what is so if something is not given that it needs, and if all is.
abbrev pub IsCloseRefused : List Handle → List Handle → Type 0
IsCloseRefused mesh left = mesh ≡ [] → left ≡ []

abbrev pub IsCloseAnswered : List Handle → List Handle → Type 0
IsCloseAnswered mesh left = (held : Handle) → mesh ≡ held ∷ [] → (closed : Handle) × (left ≡ closed ∷ []) × (closed.mesh.session ≡ None)

abbrev pub IsBoxRefused : List ℕ → ℕ → ℕ → List Corners → List Corners → List ℕ → List ℕ → ℕ → ℕ → Type 0
IsBoxRefused text size unit corners told line new room status =
    (length text ≡ size → ⊥) ⊎ (corners ≡ []) ⊎ (length line ≡ room → ⊥)
    → (status ≡ OUT_OF_RANGE) × (told ≡ corners) × IsTextCall OUT_OF_RANGE line new room

abbrev pub IsBoxAnswered : List ℕ → ℕ → ℕ → List Corners → List Corners → List ℕ → List ℕ → ℕ → ℕ → Type 0
IsBoxAnswered text size unit corners told line new room status = length text ≡ size → length line ≡ room
    → (was : Corners) → corners ≡ was ∷ [] → (is : Corners) × (told ≡ is ∷ []) × IsBoxAnswer unit text was is line new status

abbrev pub IsFacetsRefused : List ℕ → ℕ → ℕ → List (List (List ℤ)) → List (List (List ℤ)) → ℕ → List ℕ → List ℕ → List ℕ → List ℕ
    → ℕ → ℕ → Type 0
IsFacetsRefused text size unit facets put room count told line new line_room status =
    (length text ≡ size → ⊥) ⊎ (length facets ≡ room → ⊥) ⊎ (count ≡ []) ⊎ (length line ≡ line_room → ⊥)
    → (status ≡ OUT_OF_RANGE) × (put ≡ facets) × (told ≡ count) × IsTextCall OUT_OF_RANGE line new line_room

abbrev pub IsFacetsAnswered : List ℕ → ℕ → ℕ → List (List (List ℤ)) → List (List (List ℤ)) → ℕ → List ℕ → List ℕ → List ℕ → List ℕ
    → ℕ → ℕ → Type 0
IsFacetsAnswered text size unit facets put room count told line new line_room status =
    length text ≡ size → length facets ≡ room → length line ≡ line_room
    → (was : ℕ) → count ≡ was ∷ [] → (is : ℕ) × (told ≡ is ∷ []) × IsFacetsAnswer unit text facets put was is line new status

abbrev pub IsOpenRefused : List ℕ → ℕ → List Options → List Handle → List Handle → List Shape → List Shape
    → List ℕ → List ℕ → ℕ → ℕ → Type 0
IsOpenRefused text size options mesh left shape told line new room status =
    (length text ≡ size → ⊥) ⊎ (options ≡ []) ⊎ (mesh ≡ []) ⊎ (shape ≡ []) ⊎ (length line ≡ room → ⊥)
    → (status ≡ OUT_OF_RANGE) × (left ≡ mesh) × (told ≡ shape) × IsTextCall OUT_OF_RANGE line new room

abbrev pub IsOpenAnswered : List ℕ → ℕ → List Options → List Handle → List Handle → List Shape → List Shape
    → List ℕ → List ℕ → ℕ → ℕ → Type 0
IsOpenAnswered text size options mesh left shape told line new room status = length text ≡ size → length line ≡ room
    → (o : Options) (held : Handle) (was : Shape) → options ≡ o ∷ [] → mesh ≡ held ∷ [] → shape ≡ was ∷ []
    → (holds : Handle) × (is : Shape) × (left ≡ holds ∷ []) × (told ≡ is ∷ [])
    × IsOpening o (of_file text) held.mesh.session holds.mesh.session was is line new status

abbrev pub IsOpenMeshRefused : List (List ℤ) → ℕ → List (List ℕ) → ℕ → List Options → List Handle → List Handle
    → List Shape → List Shape → List ℕ → List ℕ → ℕ → ℕ → Type 0
IsOpenMeshRefused points n triangles m options mesh left shape told line new room status =
    (length points ≡ n → ⊥) ⊎ (length triangles ≡ m → ⊥) ⊎ (options ≡ []) ⊎ (mesh ≡ []) ⊎ (shape ≡ [])
    ⊎ (length line ≡ room → ⊥)
    → (status ≡ OUT_OF_RANGE) × (left ≡ mesh) × (told ≡ shape) × IsTextCall OUT_OF_RANGE line new room

abbrev pub IsOpenMeshAnswered : List (List ℤ) → ℕ → List (List ℕ) → ℕ → List Options → List Handle → List Handle
    → List Shape → List Shape → List ℕ → List ℕ → ℕ → ℕ → Type 0
IsOpenMeshAnswered points n triangles m options mesh left shape told line new room status =
    length points ≡ n → length triangles ≡ m → length line ≡ room
    → (o : Options) (held : Handle) (was : Shape) → options ≡ o ∷ [] → mesh ≡ held ∷ [] → shape ≡ was ∷ []
    → (holds : Handle) × (is : Shape) × (left ≡ holds ∷ []) × (told ≡ is ∷ [])
    × IsOpening o (of_arrays points triangles) held.mesh.session holds.mesh.session was is line new status

abbrev pub IsAreaRefused : List Handle → ℕ → List ℕ → List ℕ → ℕ → Type 0
IsAreaRefused mesh k area new status =
    (mesh ≡ []) ⊎ (area ≡ []) → (status ≡ OUT_OF_RANGE) × (new ≡ area)

abbrev pub IsAreaAnswered : List Handle → ℕ → List ℕ → List ℕ → ℕ → Type 0
IsAreaAnswered mesh k area new status = (handle : Handle) (was : ℕ) → mesh ≡ handle ∷ [] → area ≡ was ∷ []
    → (is : ℕ) × (new ≡ is ∷ [])
    × IsAsked handle status (λ job. IsAreaAnswer job k was is status) (is ≡ was)

abbrev pub IsAreasRefused : List Handle → ℕ → ℕ → List ℕ → List ℕ → ℕ → ℕ → Type 0
IsAreasRefused mesh rule first areas new count status =
    (mesh ≡ []) ⊎ (length areas ≡ count → ⊥) → (status ≡ OUT_OF_RANGE) × (new ≡ areas)

abbrev pub IsAreasAnswered : List Handle → ℕ → ℕ → List ℕ → List ℕ → ℕ → ℕ → Type 0
IsAreasAnswered mesh rule first areas new count status = length areas ≡ count → (handle : Handle) → mesh ≡ handle ∷ []
    → IsAsked handle status (λ job. IsAreasAnswer job rule first areas new status) (new ≡ areas)

abbrev pub IsProbeRefused : List Handle → ℕ → ℕ → ℕ → List Rays → List Rays → ℕ → Type 0
IsProbeRefused mesh i j k rays new status =
    (mesh ≡ []) ⊎ (rays ≡ []) → (status ≡ OUT_OF_RANGE) × (new ≡ rays)

abbrev pub IsProbeAnswered : List Handle → ℕ → ℕ → ℕ → List Rays → List Rays → ℕ → Type 0
IsProbeAnswered mesh i j k rays new status = (handle : Handle) (was : Rays) → mesh ≡ handle ∷ [] → rays ≡ was ∷ []
    → (is : Rays) × (new ≡ is ∷ [])
    × IsAsked handle status (λ job. IsProbeAnswer job i j k was is status) (is ≡ was)

abbrev pub IsMaskRefused : List Handle → ℕ → List ℕ → List ℕ → ℕ → List ℕ → List ℕ → ℕ → Type 0
IsMaskRefused mesh k image new room size told status = (mesh ≡ []) ⊎ (length image ≡ room → ⊥) ⊎ (size ≡ [])
    → (status ≡ OUT_OF_RANGE) × (new ≡ image) × (told ≡ size)

abbrev pub IsMaskAnswered : List Handle → ℕ → List ℕ → List ℕ → ℕ → List ℕ → List ℕ → ℕ → Type 0
IsMaskAnswered mesh k image new room size told status = length image ≡ room
    → (handle : Handle) (was : ℕ) → mesh ≡ handle ∷ [] → size ≡ was ∷ []
    → (is : ℕ) × (told ≡ is ∷ [])
    × IsAsked handle status (λ job. IsMaskAnswer job k image new was is status) ((new ≡ image) × (is ≡ was))

abbrev pub IsStripeRefused : List Handle → ℕ → List ℕ → List ℕ → ℕ → List ℕ → List ℕ → ℕ → Type 0
IsStripeRefused mesh s images new room size told status = (mesh ≡ []) ⊎ (length images ≡ room → ⊥) ⊎ (size ≡ [])
    → (status ≡ OUT_OF_RANGE) × (new ≡ images) × (told ≡ size)

abbrev pub IsStripeAnswered : List Handle → ℕ → List ℕ → List ℕ → ℕ → List ℕ → List ℕ → ℕ → Type 0
IsStripeAnswered mesh s images new room size told status = length images ≡ room
    → (handle : Handle) (was : ℕ) → mesh ≡ handle ∷ [] → size ≡ was ∷ []
    → (is : ℕ) × (told ≡ is ∷ [])
    × IsAsked handle status (λ job. IsStripeAnswer job s images new was is status) ((new ≡ images) × (is ≡ was))

abbrev pub IsPngRefused : List Handle → ℕ → ℕ → ℕ → List ℕ → List ℕ → ℕ → List ℕ → List ℕ → ℕ → Type 0
IsPngRefused mesh k depth mirrors png new room size told status = (mesh ≡ []) ⊎ (length png ≡ room → ⊥) ⊎ (size ≡ [])
    → (status ≡ OUT_OF_RANGE) × (new ≡ png) × (told ≡ size)

abbrev pub IsPngAnswered : List Handle → ℕ → ℕ → ℕ → List ℕ → List ℕ → ℕ → List ℕ → List ℕ → ℕ → Type 0
IsPngAnswered mesh k depth mirrors png new room size told status = length png ≡ room
    → (handle : Handle) (was : ℕ) → mesh ≡ handle ∷ [] → size ≡ was ∷ []
    → (is : ℕ) × (told ≡ is ∷ [])
    × IsAsked handle status (λ job. IsPngAnswer job k depth mirrors png new was is status) ((new ≡ png) × (is ≡ was))

abbrev pub IsLoopsRefused : List Handle → ℕ → List LoopPoint → List LoopPoint → ℕ → List ℕ → List ℕ
    → List ℕ → List ℕ → ℕ → List ℕ → List ℕ → ℕ → Type 0
IsLoopsRefused mesh k points new room count told ends new_ends ends_room loops told_loops status =
    (mesh ≡ []) ⊎ (length points ≡ room → ⊥) ⊎ (count ≡ []) ⊎ (length ends ≡ ends_room → ⊥) ⊎ (loops ≡ [])
    → (status ≡ OUT_OF_RANGE) × (new ≡ points) × (told ≡ count) × (new_ends ≡ ends) × (told_loops ≡ loops)

abbrev pub IsLoopsAnswered : List Handle → ℕ → List LoopPoint → List LoopPoint → ℕ → List ℕ → List ℕ
    → List ℕ → List ℕ → ℕ → List ℕ → List ℕ → ℕ → Type 0
IsLoopsAnswered mesh k points new room count told ends new_ends ends_room loops told_loops status = length points ≡ room → length ends ≡ ends_room
    → (handle : Handle) (was had : ℕ) → mesh ≡ handle ∷ [] → count ≡ was ∷ [] → loops ≡ had ∷ []
    → (is : ℕ) × (has : ℕ) × (told ≡ is ∷ []) × (told_loops ≡ has ∷ [])
    × IsAsked handle status (λ job. IsLoops job k points new was is ends new_ends had has status)
    (AreAsBefore points new was is ends new_ends had has)

abbrev pub IsCloseCall : List Handle → List Handle → Type 0
IsCloseCall mesh left =
    IsCloseRefused mesh left
    × IsCloseAnswered mesh left

abbrev pub IsBoxCall : List ℕ → ℕ → ℕ → List Corners → List Corners → List ℕ → List ℕ → ℕ → ℕ → Type 0
IsBoxCall text size unit corners told line new room status =
    IsBoxRefused text size unit corners told line new room status
    × IsBoxAnswered text size unit corners told line new room status

abbrev pub IsFacetsCall : List ℕ → ℕ → ℕ → List (List (List ℤ)) → List (List (List ℤ)) → ℕ → List ℕ → List ℕ → List ℕ → List ℕ
    → ℕ → ℕ → Type 0
IsFacetsCall text size unit facets put room count told line new line_room status =
    IsFacetsRefused text size unit facets put room count told line new line_room status
    × IsFacetsAnswered text size unit facets put room count told line new line_room status

abbrev pub IsOpenCall : List ℕ → ℕ → List Options → List Handle → List Handle → List Shape → List Shape
    → List ℕ → List ℕ → ℕ → ℕ → Type 0
IsOpenCall text size options mesh left shape told line new room status =
    IsOpenRefused text size options mesh left shape told line new room status
    × IsOpenAnswered text size options mesh left shape told line new room status

abbrev pub IsOpenMeshCall : List (List ℤ) → ℕ → List (List ℕ) → ℕ → List Options → List Handle → List Handle
    → List Shape → List Shape → List ℕ → List ℕ → ℕ → ℕ → Type 0
IsOpenMeshCall points n triangles m options mesh left shape told line new room status =
    IsOpenMeshRefused points n triangles m options mesh left shape told line new room status
    × IsOpenMeshAnswered points n triangles m options mesh left shape told line new room status

abbrev pub IsAreaCall : List Handle → ℕ → List ℕ → List ℕ → ℕ → Type 0
IsAreaCall mesh k area new status =
    IsAreaRefused mesh k area new status
    × IsAreaAnswered mesh k area new status

abbrev pub IsAreasCall : List Handle → ℕ → ℕ → List ℕ → List ℕ → ℕ → ℕ → Type 0
IsAreasCall mesh rule first areas new count status =
    IsAreasRefused mesh rule first areas new count status
    × IsAreasAnswered mesh rule first areas new count status

abbrev pub IsProbeCall : List Handle → ℕ → ℕ → ℕ → List Rays → List Rays → ℕ → Type 0
IsProbeCall mesh i j k rays new status =
    IsProbeRefused mesh i j k rays new status
    × IsProbeAnswered mesh i j k rays new status

abbrev pub IsMaskCall : List Handle → ℕ → List ℕ → List ℕ → ℕ → List ℕ → List ℕ → ℕ → Type 0
IsMaskCall mesh k image new room size told status =
    IsMaskRefused mesh k image new room size told status
    × IsMaskAnswered mesh k image new room size told status

abbrev pub IsStripeCall : List Handle → ℕ → List ℕ → List ℕ → ℕ → List ℕ → List ℕ → ℕ → Type 0
IsStripeCall mesh s images new room size told status =
    IsStripeRefused mesh s images new room size told status
    × IsStripeAnswered mesh s images new room size told status

abbrev pub IsPngCall : List Handle → ℕ → ℕ → ℕ → List ℕ → List ℕ → ℕ → List ℕ → List ℕ → ℕ → Type 0
IsPngCall mesh k depth mirrors png new room size told status =
    IsPngRefused mesh k depth mirrors png new room size told status
    × IsPngAnswered mesh k depth mirrors png new room size told status

abbrev pub IsLoopsCall : List Handle → ℕ → List LoopPoint → List LoopPoint → ℕ → List ℕ → List ℕ
    → List ℕ → List ℕ → ℕ → List ℕ → List ℕ → ℕ → Type 0
IsLoopsCall mesh k points new room count told ends new_ends ends_room loops told_loops status =
    IsLoopsRefused mesh k points new room count told ends new_ends ends_room loops told_loops status
    × IsLoopsAnswered mesh k points new room count told ends new_ends ends_room loops told_loops status
