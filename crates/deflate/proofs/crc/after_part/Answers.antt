use Rattle.std.proofs.Common.{arith}
use Rattle.deflate.proofs.lemmas.Crc.{jump-at}
use Rattle.deflate.proofs.crc.after_part.Goals as goal

pub returns : goal.returns
returns c = jump-at c.args.part _ c.requires (omega arith)
