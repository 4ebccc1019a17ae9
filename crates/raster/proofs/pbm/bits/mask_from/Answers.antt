use Rattle.std.proofs.Common.{◌%◌, ◌-◌, arith}
use Rattle.std.proofs.lemmas.Nat.Bits.{ones_shr, bit_at_ones, bit_at_ones_above}
use Rattle.raster.proofs.pbm.bits.mask_from.Goals as goal

pub returns-clause-inside : goal.returns-clause-inside
returns-clause-inside c = λ b small h.
    rw (ones_shr 8 (c.args.column % 8) (omega arith)) (bit_at_ones (8 - c.args.column % 8) (7 - b) (omega arith))

pub returns-clause-outside : goal.returns-clause-outside
returns-clause-outside c = λ b h.
    rw (ones_shr 8 (c.args.column % 8) (omega arith)) (bit_at_ones_above (8 - c.args.column % 8) (7 - b) (omega arith))
