-- Whole builds: all layers of a job.
use Rattle.std.specs.Prelude.{◌≡◌, ℕ, List, length}
use Rattle.build_book.specs.Job.{Job}
use Rattle.build_book.specs.Layer.{Layer, AreLawfulFrom}

pub record Build : Type 0 where
  pub job : Job
  pub layers : List Layer
  pub late : ℕ

-- all layers of the job, in order
pub record IsComplete (job : Job) (layers : List Layer) : Type 0 where
  pub whole : length layers ≡ job.grid.layers
  pub lawful : AreLawfulFrom job 0 layers
