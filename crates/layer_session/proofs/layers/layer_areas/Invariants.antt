use Rattle.std.proofs.Common.{◌≡◌, ◌≤ℤ◌, ◌-◌}
use Rattle.raster.specs.Grid.{plane}
use Rattle.layer_session.specs.Answers.{areas_of}
use Rattle.layer_session.proofs.layers.layer_areas.Given as goal

abbrev pub invariant-loop-k : goal.invariant-loop-k
invariant-loop-k g l =
    record {
      solid : l.sweep.facets ≡ l.job.solid.facets;
      height : l.sweep.height ≤ℤ plane l.job.grid l.k;
      areas : l.areas.items ≡ areas_of l.job l.rule l.first (l.k - l.first);
    }
