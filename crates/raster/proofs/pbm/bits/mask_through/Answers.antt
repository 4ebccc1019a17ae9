use Rattle.std.proofs.Common.{◌%◌, ◌-◌, arith}
use Rattle.std.proofs.lemmas.Nat.Bits.{ones_shl, bit_at_mask_inside, bit_at_mask_below}
use Rattle.raster.proofs.pbm.bits.mask_through.Goals as goal

pub returns-clause-inside : goal.returns-clause-inside
returns-clause-inside c = λ b h.
    rw (ones_shl 8 (7 - c.args.column % 8) (omega arith)) (bit_at_mask_inside (7 - c.args.column % 8) 8 (7 - b) (omega arith) (omega arith))

pub returns-clause-outside : goal.returns-clause-outside
returns-clause-outside c = λ b small h.
    rw (ones_shl 8 (7 - c.args.column % 8) (omega arith)) (bit_at_mask_below (7 - c.args.column % 8) 8 (7 - b) (omega arith))
