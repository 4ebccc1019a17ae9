use Rattle.std.proofs.Common.{◌≡◌, ◌↔◌, replicate, take}
use Rattle.deflate.proofs.crc.is_blank.Given as goal

abbrev pub invariant-loop-byte : goal.invariant-loop-byte
invariant-loop-byte l = (l.bits ≡ 0) ↔ (take l.byte-index l.block ≡ replicate l.byte-index 0)
