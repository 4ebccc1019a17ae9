use Rattle.std.proofs.Common.{◌≡◌, ◌<◌, ◌+◌, ◌*◌, ◌-◌, ◌/◌, ◌%◌, ℕ, List, length, max, ap, get_or, take, drop, ◌∙◌, arith}
use Rattle.std.specs.Int.{bit_at}
use Rattle.raster.proofs.lemmas.Masks.{at-read, part-length, pixel_bit-before, pixel_bit-behind, pixel_bit-part}
use Rattle.raster.proofs.pbm.bits.set_word.Goals as goal

pub returns-clause-there : goal.returns-clause-there
returns-clause-there c = λ i low high.
    let row = c.args.row.now in
    let first = c.args.first in
    let mask = c.args.mask in
    let k = i / 8 - first in
    let b = i % 8 in
    let eight : (first + 8) - first ≡ 8 = omega arith in
    let inside : k < 8 = omega arith in
    let size : length c.copy_from_slice-2.new.self ≡ (first + 8) - first = c.copy_from_slice-2.ensures.len ∙ part-length row first (first + 8) (omega arith) c.requires in
    let read : get_or (take ((first + 8) - first) (drop first row)) (i / 8 - first) 0 ≡ get_or row (i / 8) 0 = at-read row first ((first + 8) - first) (i / 8) low (omega arith) in
    let place : 63 - (8 * k + b) ≡ 63 - (i - 8 * first) = omega arith in
    pixel_bit-part row c.copy_from_slice-2.new.self first ((first + 8) - first) i size (omega arith) low (omega arith)
    ∙ ap (λ (l : List ℕ). bit_at (get_or l k 0) (7 - b)) c.copy_from_slice-2.ensures.after
    ∙ c.with_mask.ensures k b inside (omega arith)
    ∙ ap (λ (l : List ℕ). max (bit_at (get_or l k 0) (7 - b)) (bit_at mask (63 - (8 * k + b)))) c.copy_from_slice.ensures.after
    ∙ (λ j. max (bit_at (read j) (7 - b)) (bit_at mask (place j)))

pub returns-clause-left : goal.returns-clause-left
returns-clause-left c = λ i low. pixel_bit-before c.args.row.now c.copy_from_slice-2.new.self c.args.first ((c.args.first + 8) - c.args.first) i (omega (arith, c.requires)) low

pub returns-clause-right : goal.returns-clause-right
returns-clause-right c = λ i high.
    let row = c.args.row.now in
    let first = c.args.first in
    let size = c.copy_from_slice-2.ensures.len ∙ part-length row first (first + 8) (omega arith) c.requires in
    pixel_bit-behind row c.copy_from_slice-2.new.self first ((first + 8) - first) i size (omega (arith, c.requires)) (omega (arith, high))
