use Rattle.std.proofs.Common.{◌≡◌, ◌++◌, ◌≤ℤ◌}
use Rattle.raster.specs.Grid.{plane}
use Rattle.layer_session.specs.Answers.{images_between}
use Rattle.layer_session.proofs.layers.draw_layers.Given as goal

abbrev pub invariant-loop-k : goal.invariant-loop-k
invariant-loop-k g l =
    record {
      solid : l.sweep.facets ≡ l.job.solid.facets;
      height : l.sweep.height ≤ℤ plane l.job.grid l.k;
      text : l.page.bytes ++ images_between l.job l.k l.end ≡ l.fn.page.bytes ++ images_between l.job l.first l.end;
      room : l.page.room ≡ l.fn.page.room;
    }
