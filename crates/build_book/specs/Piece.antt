-- The layers of one stripe of a job.
use Rattle.std.specs.Prelude.{◌≡◌, ℕ, ◌+◌, ◌*◌, ◌<◌, ◌≤◌, List, length}
use Rattle.build_book.specs.Job.{Job, stripe_count, stripe_length}
use Rattle.build_book.specs.Layer.{Layer, AreLawfulFrom}
use Rattle.build_book.specs.declared.limits.TheConstants.{STRIPE_LAYERS}

pub record Piece : Type 0 where
  pub job : Job
  pub stripe : ℕ
  pub layers : List Layer

-- exactly the layers of stripe s, in order
pub record IsStripe (job : Job) (s : ℕ) (layers : List Layer) : Type 0 where
  pub within : s < stripe_count job.grid
  pub whole : length layers ≡ stripe_length job.grid s
  pub lawful : AreLawfulFrom job (STRIPE_LAYERS * s) layers

abbrev pub IsPlaceOf : Piece → ℕ → Type 0
IsPlaceOf piece k = (STRIPE_LAYERS * piece.stripe ≤ k) × (k < STRIPE_LAYERS * piece.stripe + length piece.layers)
