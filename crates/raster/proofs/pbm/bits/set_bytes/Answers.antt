use Rattle.std.proofs.Common.{◌≡◌, ℕ, ◌-◌, ap, sym, ◌∙◌, length, arith}
use Rattle.std.proofs.Math.ListN.{replicate}
use Rattle.raster.proofs.lemmas.Masks.{black-inside, part-length, pixel_bit-before, pixel_bit-behind}
use Rattle.raster.proofs.pbm.bits.set_bytes.Goals as goal

pub returns-clause-inside : goal.returns-clause-inside
returns-clause-inside c = λ i low high.
    let e : c.fill.new.self ≡ replicate (length c.fill.new.self) 255 = c.fill.ensures.after (λ y h. h) ∙ ap (λ (n : ℕ). replicate n 255) (sym c.fill.ensures.len) in
    let size : length c.fill.new.self ≡ c.args.last - c.args.first = c.fill.ensures.len ∙ part-length c.args.row.now c.args.first c.args.last c.requires.order c.requires.room in
    black-inside c.args.row.now c.fill.new.self c.args.first (c.args.last - c.args.first) i e size (omega (arith, c.requires)) low (omega (arith, c.requires, high))

pub returns-clause-left : goal.returns-clause-left
returns-clause-left c = λ i low.
    pixel_bit-before c.args.row.now c.fill.new.self c.args.first (c.args.last - c.args.first) i (omega (arith, c.requires)) low

pub returns-clause-right : goal.returns-clause-right
returns-clause-right c = λ i high.
    let row = c.args.row.now in
    let first = c.args.first in
    let last = c.args.last in
    let size = c.fill.ensures.len ∙ part-length row first last c.requires.order c.requires.room in
    pixel_bit-behind row c.fill.new.self first (last - first) i size (omega (arith, c.requires)) (omega (arith, c.requires, high))
