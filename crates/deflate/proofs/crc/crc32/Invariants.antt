use Rattle.std.proofs.Common.{◌≡◌, length}
use Rattle.deflate.specs.Crc.{crc_from}
use Rattle.deflate.proofs.crc.crc32.Given as goal

abbrev pub invariant-loop-rest : goal.invariant-loop-rest
invariant-loop-rest l = crc_from l.register l.rest ≡ crc_from 0xffffffff l.fn.bytes

abbrev pub decreases-loop-rest : goal.decreases-loop-rest
decreases-loop-rest l = length l.rest
