-- Jobs, and the stripes that a job is cut into.
use Rattle.std.specs.Prelude.{ℕ, ◌*◌, ◌-◌, [], min}
use Rattle.std.specs.Int.{div_ceil}
use Rattle.geometry.specs.Point.{origin}
use Rattle.mesh_weld.specs.Solid.{Solid}
use Rattle.raster.specs.Grid.{Grid, grid_with}
use Rattle.raster.specs.declared.rule.Rule.{Rule}
use Rattle.raster.specs.declared.rule.Rule.TheVariants.{EvenOdd}
use Rattle.build_book.specs.declared.limits.TheConstants.{STRIPE_LAYERS}

-- what is to be sliced, in which grid, and by which rule
pub record Job : Type 0 where
  pub solid : Solid
  pub grid : Grid
  pub rule : Rule

-- A stripe is a slab of `STRIPE_LAYERS` layers; the last one may have fewer.

abbrev pub stripe_count : Grid → ℕ
stripe_count g = div_ceil g.layers STRIPE_LAYERS

-- the number of its first layer
abbrev pub stripe_start : ℕ → ℕ
stripe_start s = STRIPE_LAYERS * s

abbrev pub stripe_length : Grid → ℕ → ℕ
stripe_length g s = min STRIPE_LAYERS (g.layers - STRIPE_LAYERS * s)

-- an empty job, for types that ask for a job when any will do
abbrev pub no_job : Job
no_job = record { solid = record { facets = []; dropped = 0 }; grid = grid_with origin 0 0 0 0 0; rule = EvenOdd }
