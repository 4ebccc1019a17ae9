use Rattle.std.proofs.Common.{◌<◌, ◌%◌, ◌-◌, length, get_or-set_same}
use Rattle.std.specs.Prelude.{slice_index}
use Rattle.std.proofs.lemmas.Nat.Bits.{bit_at_or}
use Rattle.raster.proofs.pbm.bits.set_bits.Goals as goal

pub returns-clause-there : goal.returns-clause-there
returns-clause-there c = λ i at.
    let inside : c.args.index < length c.args.row.now = c.requires in
    rw (at, get_or-set_same) (bit_at_or (slice_index c.args.row.now c.args.index) c.args.mask (7 - i % 8))
