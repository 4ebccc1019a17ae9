use Rattle.std.proofs.Common.{◌-◌, arith}
use Rattle.std.proofs.lemmas.List.Sums.{sum_by_more, sum_by_more_le}
use Rattle.raster.specs.declared.span.Span.{Span}
use Rattle.raster.proofs.lemmas.Areas.{span_area-fits}
use Rattle.raster.proofs.span.area.Goals as goal

pub overflow_add-sum : goal.overflow_add-sum
overflow_add-sum c =
    omega (arith, c.loop-span.invariant, c.from-sum.ensures, sum_by_more_le (λ (s : Span). s.to - s.from) c.args.spans.now c.loop-span.span-index (record { row = 0; from = 0; to = 0 }) c.loop-span-test.true, span_area-fits c.args.spans.now c.requires)

pub loop-span-preserved : goal.loop-span-preserved
loop-span-preserved c =
    omega (arith, c.loop-span.invariant, c.from-sum.ensures, sum_by_more (λ (s : Span). s.to - s.from) c.args.spans.now c.loop-span.span-index (record { row = 0; from = 0; to = 0 }) c.loop-span-test.true)
