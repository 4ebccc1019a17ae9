-- Books of layers: what each book keeps, what filing a piece does to it, and why a piece is refused.
use Rattle.std.specs.Prelude.{◌≡◌, ◌≢◌, ℕ, ◌+◌, ◌*◌, ◌≤◌, List, Option, Some, None, slice_get, length, map, take, drop, ◌++◌}
use Rattle.build_book.specs.Job.{Job}
use Rattle.build_book.specs.Layer.{Layer, IsLawful}
use Rattle.build_book.specs.Piece.{Piece, IsPlaceOf}
use Rattle.build_book.specs.Places.{IsTaken}
use Rattle.build_book.specs.declared.file_fault.FileFault.{FileFault}
use Rattle.build_book.specs.declared.file_fault.FileFault.TheVariants as fault
use Rattle.build_book.specs.declared.limits.TheConstants.{STRIPE_LAYERS}

pub record Book : Type 0 where
  pub job : Job
  pub places : List (Option Layer)

abbrev pub IsLawfulPlace : Job → ℕ → Option Layer → Type 0
IsLawfulPlace job k None = Unit {0}
IsLawfulPlace job k (Some layer) = IsLawful job k layer

-- one place for each layer of the job, empty or with the layer that belongs there
pub record IsLawfulBook (book : Book) : Type 0 where
  pub one_each : length book.places ≡ book.job.grid.layers
  pub lawful : (k : ℕ) (place : Option Layer) → slice_get book.places k ≡ Some place → IsLawfulPlace book.job k place

-- the piece's places, which were free, hold its layers, and every other place is as it was
pub record Files (old : Book) (piece : Piece) (new : Book) : Type 0 where
  pub same : piece.job ≡ old.job
  pub free : (k : ℕ) → IsPlaceOf piece k → slice_get old.places k ≡ Some None
  pub job : new.job ≡ old.job
  pub places : new.places
      ≡ take (STRIPE_LAYERS * piece.stripe) old.places ++ map Some piece.layers
      ++ drop (STRIPE_LAYERS * piece.stripe + length piece.layers) old.places

-- the piece is of another job, or the layer is the least of its places that is taken
abbrev pub IsFileFault : Book → Piece → FileFault → Type 0
IsFileFault book piece fault.Stranger = piece.job ≢ book.job
IsFileFault book piece (fault.Double layer) =
    (piece.job ≡ book.job) × IsPlaceOf piece layer × IsTaken book.places layer
    × ((k : ℕ) → IsPlaceOf piece k → IsTaken book.places k → layer ≤ k)
