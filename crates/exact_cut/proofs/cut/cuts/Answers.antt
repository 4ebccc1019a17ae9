use Rattle.std.proofs.lemmas.Int.{to_z-of_z}
use Rattle.exact_cut.proofs.cut.cuts.Goals as goal

pub returns : goal.returns
returns c =
    let fits = c.ranges.z2 in
    simp to_z-of_z at (c.cuts_at.ensures c.args.f.now c.corner_heights.ensures)
