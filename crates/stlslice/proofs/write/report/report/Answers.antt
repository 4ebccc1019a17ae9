use Rattle.std.proofs.Common.{◌≡◌, ◌∙◌, List, ap, arith, length}
use Rattle.build_book.specs.Layer.{Layer}
use Rattle.build_book.specs.Job.{Job}
use Rattle.stlslice.specs.SlicedText.{layer_line, line_of_layer}
use Rattle.stlslice.proofs.lemmas.Stream.{all_lines, areas_of, line_at, line_more}
use Rattle.stlslice.proofs.write.report.report.Goals as goal

pub loop-layer-preserved : goal.loop-layer-preserved
loop-layer-preserved g c =
    let job : Job = c.args.build.now.job in
    let said : line_of_layer c.number.result c.count.result c.area.result
    ≡ layer_line job.grid job.rule job.solid.facets c.loop-layer.layer-index =
    rw (c.number.ensures, c.count.ensures, c.loops.ensures, c.area.ensures)
    (line_at job c.layers-layer-items.result.now c.loop-layer.layer-index c.layer-item.result
    (rw c.layers-layer-items.ensures.value c.layers-layer-items.ensures.complete) c.loop-layer-test.true c.layer-item.is) in
    line_more (layer_line job.grid job.rule job.solid.facets) c.loop-layer.layer-index _ _
    (line_of_layer c.number.result c.count.result c.area.result) c.loop-layer.invariant c.in_ok-push_layer.ensures said

pub returns : goal.returns
returns g c =
    let job : Job = c.args.build.now.job in
    let same : length c.layers-layer-items.result.now ≡ length c.args.build.now.layers =
    ap (λ (l : List Layer). length l) c.layers-layer-items.ensures.value in
    all_lines job c.loop-layer.layer-index c.total_area.result _ _ c.loop-layer.invariant
    (omega (arith, c.loop-layer-test.false, c.loop-layer.auto.layer-index-end, same, c.layers-layer-items.ensures.complete.whole))
    c.in_ok-push_total.ensures
    (c.total_area.ensures ∙ areas_of job c.args.build.now.layers c.layers-layer-items.ensures.complete)
