use Rattle.std.proofs.Common.{rules}
use Rattle.stl_text.proofs.scanning.is_white.Goals as goal

pub returns-then-byte-ge9 : goal.returns-then-byte-ge9
returns-then-byte-ge9 c = search (rules, c.if-byte-eq32.false, c.if-byte-ge9.true)
