use Rattle.std.proofs.Common.{◌≡◌, ℕ, ◌+◌, ◌*◌, ◌%◌, sym, arith}
use Rattle.deflate.proofs.lemmas.Crc.{no-bits, part-more}
use Rattle.deflate.proofs.crc.after_blank.Goals as goal

pub loop-part-init : goal.loop-part-init
loop-part-init c = let e : c.args.register % 1 ≡ 0 = omega arith in rw e (sym (no-bits 512))

pub loop-part-preserved : goal.loop-part-preserved
loop-part-preserved c =
    let k : ℕ = 4 * c.loop-part.part in
    let e : 4 + k ≡ 4 * (c.loop-part.part + 1) = omega arith in
    rw (c.loop-part.invariant, c.after_part-after.ensures, ← e) (part-more 512 k c.args.register)
