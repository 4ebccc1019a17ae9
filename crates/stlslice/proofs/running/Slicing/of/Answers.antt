use Rattle.std.proofs.Common.{refl}
use Rattle.stlslice.proofs.lemmas.Slicing.{slicing_of}
use Rattle.stlslice.proofs.running.Slicing.of.Goals as goal

pub returns-in-Slice : goal.returns-in-Slice
returns-in-Slice c =
    let task = c.in-Slice in
    rw (c.in-Slice.is, c.of.ensures) (slicing_of task.unit task.pitch task.layer task.rule task.workers task.report task.grid)

pub returns-in-Png : goal.returns-in-Png
returns-in-Png c = rw c.in-Png.is refl
