use Rattle.std.proofs.Common.{◌≡◌, ℕ, ◌<◌, get_or, refl}
use Rattle.std.proofs.lemmas.List.Sums.{fold_more}
use Rattle.deflate.specs.Crc.{after_crc_byte}
use Rattle.deflate.proofs.lemmas.Crc.{crc_table}
use Rattle.deflate.proofs.crc.after_bytes.Goals as goal

pub loop-byte-preserved : goal.loop-byte-preserved
loop-byte-preserved c =
    let byte : ℕ = get_or c.args.bytes.now c.loop-byte.byte-index 0 in
    let in_range : byte < 256 = (c.type_inv.bytes c.loop-byte.byte-index).fits in
    let e : c.from.result ≡ byte = c.from.ensures in
    let step = fold_more after_crc_byte c.args.register c.args.bytes.now c.loop-byte.byte-index 0 c.loop-byte-test.true in
    rw (e, step, ← c.loop-byte.invariant) (crc_table c.loop-byte.after byte _ refl in_range)
