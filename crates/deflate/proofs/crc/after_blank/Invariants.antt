use Rattle.std.proofs.Common.{◌≡◌, ◌*◌, ◌%◌, ◌^◌}
use Rattle.deflate.specs.Crc.{after_bits}
use Rattle.deflate.proofs.crc.after_blank.Given as goal

abbrev pub invariant-loop-part : goal.invariant-loop-part
invariant-loop-part l = l.after ≡ after_bits 512 (l.fn.register % 2 ^ (4 * l.part))
