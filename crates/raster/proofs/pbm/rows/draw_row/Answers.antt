use Rattle.std.proofs.Common.{◌-◌, ◌/◌, ◌%◌, ◌∙◌, ap, arith, List}
use Rattle.std.specs.Int.{bit_at}
use Rattle.std.proofs.lemmas.List.{take_all}
use Rattle.std.proofs.lemmas.Nat.Bits.{bit_at-zero}
use Rattle.raster.specs.declared.span.Span.{Span}
use Rattle.raster.specs.Bits.{pixel_bit}
use Rattle.raster.specs.Rows.{crosses}
use Rattle.raster.proofs.lemmas.Packing.{indicator, row-is}
use Rattle.raster.proofs.lemmas.SpanOrder.{pixel-more, span-within, within-crosses}
use Rattle.raster.proofs.pbm.rows.draw_row.Goals as goal

pub returns : goal.returns
returns c =
    row-is c.args.width c.loop-span.row (crosses c.args.spans.now)
    (c.loop-span.auto.row ∙ c.requires.size)
    c.loop-span.invariant.bytes
    (λ i. c.loop-span.invariant.drawn i ∙ ap (λ (spans : List Span). indicator (crosses spans i)) (take_all c.loop-span.span-index c.args.spans.now c.loop-span-test.false) ∙ ap indicator (within-crosses c.args.width c.args.spans.now i c.requires.within))

pub loop-span-init : goal.loop-span-init
loop-span-init c = record {
  bytes = λ k. (c.type_inv.row k).fits;
  drawn = λ i. ap (λ n. bit_at n (7 - i % 8)) (c.requires.blank (i / 8)) ∙ bit_at-zero (7 - i % 8);
}

pub set_pixels-requires-clause-some : goal.set_pixels-requires-clause-some
set_pixels-requires-clause-some c = (span-within c.args.width c.args.spans.now c.loop-span.span-index c.requires.within c.loop-span-test.true).0

pub set_pixels-requires-clause-room : goal.set_pixels-requires-clause-room
set_pixels-requires-clause-room c =
    let inside = (span-within c.args.width c.args.spans.now c.loop-span.span-index c.requires.within c.loop-span-test.true).1 in
    omega (arith, inside, c.requires.size, c.loop-span.auto.row)

pub loop-span-preserved : goal.loop-span-preserved
loop-span-preserved c = record {
  bytes = λ k. (c.type_inv.row k).fits;
  drawn = λ i. pixel-more c.args.spans.now c.loop-span.span-index i (pixel_bit c.loop-span.row i) (pixel_bit c.set_pixels.new.row i) c.loop-span-test.true
      (c.loop-span.invariant.drawn i) (c.set_pixels.ensures.inside i) (c.set_pixels.ensures.left i) (c.set_pixels.ensures.right i);
}
