use Rattle.std.proofs.Common.{arith, w64}
use Rattle.std.proofs.lemmas.Int.{to_z-of_z}
use Rattle.geometry.specs.Facet.{twice}
use Rattle.exact_cut.proofs.lemmas.Passing.{side_by, not_cut, cut_by}
use Rattle.exact_cut.proofs.cut.cuts_at.Goals as goal
use Rattle.exact_cut.proofs.cut.cuts_at.Goals.{else-a-b-via-then-a-b+else-b-c, else-a-b-via-else-a-b}

pub returns-then-b-c : goal.returns-then-b-c
returns-then-b-c c f e =
    let z_is = to_z-of_z w64 c.args.z2 c.ranges.z2 in
    not_cut c.is_below-a.result c.is_below-b.result c.is_below-c.result (twice f) c.args.z2 c.if-a-b.true c.if-b-c.true
    (side_by _ (grind (arith, to_z-of_z, c.from.ensures, e)) z_is c.is_below-a.ensures.below)
    (side_by _ (grind (arith, to_z-of_z, c.from-2.ensures, e)) z_is c.is_below-b.ensures.below)
    (side_by _ (grind (arith, to_z-of_z, c.from-3.ensures, e)) z_is c.is_below-c.ensures.below)

pub returns : goal.returns
returns c f e =
    let z_is = to_z-of_z w64 c.args.z2 c.ranges.z2 in
    rw (c.from-4.ensures, c.from-5.ensures, c.from-6.ensures, c.from-7.ensures)
    (cut_by c.is_below-a.result c.is_below-b.result c.is_below-c.result (twice f) c.args.z2
    (elim c.else-a-b.branch [ else-a-b-via-then-a-b+else-b-c w ↦ (λ h k. absurd (cc)) | else-a-b-via-else-a-b w ↦ (λ h k. absurd (cc)) ])
    (side_by _ (grind (arith, to_z-of_z, c.from.ensures, e)) z_is c.is_below-a.ensures.below)
    (side_by _ (grind (arith, to_z-of_z, c.from-2.ensures, e)) z_is c.is_below-b.ensures.below)
    (side_by _ (grind (arith, to_z-of_z, c.from-3.ensures, e)) z_is c.is_below-c.ensures.below))
