use Rattle.std.proofs.Common.{◌+◌, ◌-◌, ◌++◌, List, ℕ, ap, arith, length, refl}
use Rattle.stlslice.specs.Pages.{images_between}
use Rattle.stlslice.proofs.lemmas.Pages.{image-drawn, one-more, one-more-fits}
use Rattle.stlslice.proofs.write.pages.draw_layers.Goals as goal

pub loop-k-init : goal.loop-k-init
loop-k-init g c =
    let f = g.D.Drawing.image c.args.drawing.now in
    record {
      text = ap (λ (l : List ℕ). l ++ images_between f c.args.start c.args.end) c.clear.ensures.blank;
      few = omega (arith, ap (λ (l : List ℕ). length l) c.clear.ensures.blank);
      room = omega (arith, c.requires.room, c.clear.ensures.kept);
    }

pub add-requires-clause-room : goal.add-requires-clause-room
add-requires-clause-room g c =
    let it = g.D.Drawing in
    let d = c.args.drawing.now in
    let at = c.loop-k in
    one-more-fits (at.k - c.args.start) (it.per d) (it.size d) (length (it.bytes at.page)) (it.capacity at.page) at.invariant.few
    (omega (arith, c.loop-k-test.true, c.requires.few)) at.invariant.room

pub loop-k-preserved : goal.loop-k-preserved
loop-k-preserved g c =
    let it = g.D.Drawing in
    let d = c.args.drawing.now in
    let f = it.image d in
    let at = c.loop-k in
    record {
      text = image-drawn f at.k c.args.end (it.bytes at.page) (it.bytes c.add.new.page) (f at.k) (images_between f c.args.start c.args.end)
          c.loop-k-test.true refl c.add.ensures.added at.invariant.text;
      few = one-more (at.k - c.args.start) (at.k + 1 - c.args.start) (it.size d) (length (it.bytes at.page)) (length (it.bytes c.add.new.page))
          (omega arith) at.invariant.few c.add.ensures.most;
      room = omega (arith, at.invariant.room, c.add.ensures.kept);
    }
