use Rattle.std.proofs.Common.{◌≡◌, ◌∙◌, sym, replicate}
use Rattle.deflate.proofs.lemmas.Crc.{after_zeros}
use Rattle.deflate.proofs.crc.after_block.Goals as goal

pub returns-then-is_blank : goal.returns-then-is_blank
returns-then-is_blank c =
    let all : c.args.block.now ≡ replicate 64 0 = rw c.requires at (c.is_blank.ensures.0 c.if-is_blank.true) in
    rw all (c.after_blank.ensures ∙ sym (after_zeros 64 c.args.register))
