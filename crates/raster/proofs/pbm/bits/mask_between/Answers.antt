use Rattle.std.proofs.Common.{◌-◌, arith}
use Rattle.std.proofs.lemmas.Nat.Bits.{ones_shl, ones_shr, bit_at_mask_below, bit_at_mask_inside, bit_at_ones, bit_at_ones_above}
use Rattle.raster.proofs.lemmas.Masks.{bit_at-both, bit_at-first, bit_at-second}
use Rattle.raster.proofs.pbm.bits.mask_between.Goals as goal

pub returns-clause-inside : goal.returns-clause-inside
returns-clause-inside c = λ b low high.
    rw (ones_shr 64 c.args.from (omega arith), ones_shl 64 (64 - c.args.to) (omega arith))
    (bit_at-both _ _ (63 - b) (bit_at_ones (64 - c.args.from) (63 - b) (omega arith)) (bit_at_mask_inside (64 - c.args.to) 64 (63 - b) (omega arith) (omega arith)))

pub returns-clause-left : goal.returns-clause-left
returns-clause-left c = λ b low.
    rw (ones_shr 64 c.args.from (omega arith), ones_shl 64 (64 - c.args.to) (omega arith))
    (bit_at-first _ _ (63 - b) (bit_at_ones_above (64 - c.args.from) (63 - b) (omega arith)))

pub returns-clause-right : goal.returns-clause-right
returns-clause-right c = λ b high small.
    rw (ones_shr 64 c.args.from (omega arith), ones_shl 64 (64 - c.args.to) (omega arith))
    (bit_at-second _ _ (63 - b) (bit_at_mask_below (64 - c.args.to) 64 (63 - b) (omega arith)))
