use Rattle.std.proofs.Common.{◌≡◌, ◌<◌, arith, length}
use Rattle.contour.proofs.lemmas.Parts.{count-none, count-some}
use Rattle.contour.proofs.loop_list.Loops.count.Goals as goal

pub returns-then-is_empty : goal.returns-then-is_empty
returns-then-is_empty g c =
    let none : length c.self.inside.flat.items ≡ 0 = grind (arith, c.self.inside.flat.ok.0) in
    rw (← c.self.view_is) (count-none c.self.inside.inner_ends.items c.self.inside.flat.items none)

pub returns-else-is_empty : goal.returns-else-is_empty
returns-else-is_empty g c =
    let some : 0 < length c.self.inside.flat.items = grind (arith, c.self.inside.flat.ok.0) in
    let counted = count-some c.self.inside.inner_ends.items c.self.inside.flat.items some in
    rw (← c.self.view_is) (grind (arith, counted))
