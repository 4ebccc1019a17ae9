use Rattle.std.proofs.Common.{◌≡◌, ◌≤◌, ◌<◌, ◌-◌, vec_len}
use Rattle.std.specs.Prelude.{flat_map}
use Rattle.std.specs.List.{All}
use Rattle.raster.proofs.lemmas.Written.{IsUnderWay}
use Rattle.stlslice.specs.Pages.{Holds, all_images, images_between}
use Rattle.stlslice.proofs.write.pages.put_by_pages.Given as goal

abbrev pub invariant-loop-first : goal.invariant-loop-first
invariant-loop-first g l =
    let it = g.D.Drawing in
    let layers = it.layers l.drawing in
    let fits = Holds it.capacity (it.per l.drawing) (it.size l.drawing) in
    record {
      low : l.first ≤ layers;
      text : IsUnderWay (g.O.Sink.contents l.fn.sink) (g.O.Sink.contents l.sink) (all_images (it.image l.drawing) layers)
          0 l.written (flat_map it.bytes l.drawn.items) (images_between (it.image l.drawing) l.first layers);
      counted : g.O.Failures.failure_count l.sink ≡ g.O.Failures.failure_count l.fn.sink;
      some_drawn : 0 < vec_len l.drawn;
      some_free : 0 < vec_len l.free;
      drawn_fit : All fits l.drawn.items;
      free_fit : All fits l.free.items;
    }

abbrev pub decreases-loop-first : goal.decreases-loop-first
decreases-loop-first g l = l.count - l.first
