use Rattle.std.proofs.Common.{arith}
use Rattle.stlslice.proofs.write.pngs.add_png.Goals as goal

pub unwrap-requires : goal.unwrap-requires
unwrap-requires g c = c.write_png.ensures.reserved c.requires.room

pub returns-clause-text : goal.returns-clause-text
returns-clause-text g c = rw c.unwrap.ensures at c.write_png.ensures.text

pub returns-clause-most : goal.returns-clause-most
returns-clause-most g c = omega (arith, rw c.unwrap.ensures at c.write_png.ensures.most, c.unwrap.result.ok, c.args.buffer.ok)

pub returns-clause-capacity : goal.returns-clause-capacity
returns-clause-capacity g c = rw c.unwrap.ensures at c.write_png.ensures.capacity
