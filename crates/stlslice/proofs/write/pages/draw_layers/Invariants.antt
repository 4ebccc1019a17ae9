use Rattle.std.proofs.Common.{◌≡◌, ◌≤◌, ◌++◌, ◌-◌, ◌*◌, length}
use Rattle.stlslice.specs.Pages.{Holds, images_between}
use Rattle.stlslice.proofs.write.pages.draw_layers.Given as goal

abbrev pub invariant-loop-k : goal.invariant-loop-k
invariant-loop-k g l =
    let it = g.D.Drawing in
    let image = it.image l.drawing in
    record {
      text : it.bytes l.page ++ images_between image l.k l.end ≡ images_between image l.start l.end;
      few : length (it.bytes l.page) ≤ (l.k - l.start) * it.size l.drawing;
      room : Holds it.capacity (it.per l.drawing) (it.size l.drawing) l.page;
    }
