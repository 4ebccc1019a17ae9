use Rattle.deflate.proofs.lemmas.Crc.{blank-more}
use Rattle.deflate.proofs.crc.is_blank.Goals as goal

pub loop-byte-preserved : goal.loop-byte-preserved
loop-byte-preserved c = blank-more c.args.block.now c.loop-byte.byte-index c.loop-byte.bits c.loop-byte-test.true c.loop-byte.invariant
