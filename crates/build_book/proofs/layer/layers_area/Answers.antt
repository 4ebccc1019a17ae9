use Rattle.build_book.specs.Layer.{Layer}
use Rattle.build_book.proofs.lemmas.Totals.{more_sum, more_fits, all_sum}
use Rattle.build_book.proofs.layer.layers_area.Goals as goal

pub overflow_add-sum : goal.overflow_add-sum
overflow_add-sum g c =
    more_fits (λ (l : Layer). l.area) c.args.layers.now c.loop-layer.layer-index c.layer-item.result c.loop-layer.sum c.area-sum.result
    c.loop-layer.invariant c.area-sum.ensures c.layer-item.is c.loop-layer-test.true c.requires

pub loop-layer-preserved : goal.loop-layer-preserved
loop-layer-preserved g c =
    more_sum (λ (l : Layer). l.area) c.args.layers.now c.loop-layer.layer-index c.layer-item.result c.loop-layer.sum c.area-sum.result
    c.loop-layer.invariant c.area-sum.ensures c.layer-item.is c.loop-layer-test.true

pub returns : goal.returns
returns g c = all_sum (λ (l : Layer). l.area) c.args.layers.now c.loop-layer.layer-index c.loop-layer.sum c.loop-layer.invariant c.loop-layer-test.false
