use Rattle.std.proofs.Common.{◌≡◌, take}
use Rattle.deflate.specs.Crc.{crc_from}
use Rattle.deflate.proofs.crc.after_bytes.Given as goal

abbrev pub invariant-loop-byte : goal.invariant-loop-byte
invariant-loop-byte l = l.after ≡ crc_from l.fn.register (take l.byte-index l.bytes)
