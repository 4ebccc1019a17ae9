use Rattle.std.proofs.Common.{to_z, of_z}
use Rattle.std.proofs.lemmas.Int.{to_z-of_z}
use mir.Syntax.{w64}
use Rattle.geometry.specs.Facet.{twice}
use Rattle.exact_cut.proofs.lemmas.Sections.{from_steps, unpassed}
use Rattle.exact_cut.proofs.scanline.section.Section.at_height.Goals as goal

pub returns-in_err-cut : goal.returns-in_err-cut
returns-in_err-cut c =
    let f1 = c.ranges.z2 in
    rw c.from_residual.ensures (simp to_z-of_z at (unpassed (twice c.args.f.now) (to_z w64 (of_z w64 c.args.z2)) c.in_err-cut.ensures))

pub returns : goal.returns
returns c =
    let f1 = c.ranges.z2 in
    simp to_z-of_z at (from_steps (twice c.args.f.now) (to_z w64 (of_z w64 c.args.z2)) c.in_ok-cut.cut c.between.result c.between-2.result c.in_ok-cut.ensures
    c.finish_of.ensures c.start_of.ensures c.start_of-2.ensures c.finish_of-2.ensures
    c.between.ensures.x c.between.ensures.y c.between.ensures.d c.between-2.ensures.x c.between-2.ensures.y c.between-2.ensures.d)
