use Rattle.std.proofs.Common.{◌≡◌, ◌∙◌, ◌≤◌, ◌++◌, List, ℕ, ap, arith, length, length-append, refl, rules}
use Rattle.mesh_weld.specs.Solid.{Solid}
use Rattle.raster.specs.Grid.{plane}
use Rattle.build_book.specs.Job.{Job}
use Rattle.layer_session.specs.Answers.{images_between}
use Rattle.layer_session.proofs.lemmas.Images.{all-drawn, as-high, next-drawn, next-fits, next-plane}
use Rattle.layer_session.proofs.layers.draw_layers.Goals as goal

pub loop-k-init : goal.loop-k-init
loop-k-init g c =
    let at : c.in_ok-sweep.sweep.height ≡ plane c.args.job.now.grid c.args.first = search rules in
    record {
      solid = c.in_ok-sweep.ensures.mesh ∙ ap (λ (s : Solid). s.facets) c.solid.ensures;
      height = as-high c.in_ok-sweep.sweep.height (plane c.args.job.now.grid c.args.first) at;
      text = refl {a = c.args.page.now.bytes ++ images_between c.args.job.now c.args.first c.args.end};
      room = refl;
    }

pub draw_layer-requires-clause-room : goal.draw_layer-requires-clause-room
draw_layer-requires-clause-room g c κs within =
    let job : Job = c.args.job.now in
    let all : List ℕ = images_between job c.args.first c.args.end in
    let fits : length (c.args.page.now.bytes ++ all) ≤ c.loop-k.page.room =
    omega (arith, c.requires.room, c.loop-k.invariant.room, length-append c.args.page.now.bytes all) in
    next-fits job c.loop-k.k c.args.end c.loop-k.page.room c.loop-k.page.bytes (c.args.page.now.bytes ++ all)
    c.loop-k-test.true c.loop-k.invariant.text fits

pub loop-k-preserved : goal.loop-k-preserved
loop-k-preserved g c =
    let job : Job = c.args.job.now in
    let inv = c.loop-k.invariant in
    let drawn = c.in_ok-draw_layer.ensures in
    record {
      solid = drawn.solid ∙ inv.solid;
      height = next-plane job.grid c.loop-k.k _ drawn.height;
      text = next-drawn job c.loop-k.k c.args.end c.loop-k.page.bytes c.draw_layer.new.page.bytes
          (c.args.page.now.bytes ++ images_between job c.args.first c.args.end) c.loop-k-test.true drawn.drawn inv.text;
      room = drawn.room ∙ inv.room;
    }

pub returns : goal.returns
returns g c =
    all-drawn c.args.job.now c.loop-k.k c.args.end c.loop-k.page.bytes _
    (omega (arith, c.loop-k.auto.k, c.loop-k.auto.k-end, c.loop-k-test.false)) c.loop-k.invariant.text
