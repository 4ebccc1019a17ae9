use Rattle.std.proofs.Common.{◌<◌, length, subst, sym, arith}
use Rattle.std.proofs.lemmas.Bool.{false≢true}
use Rattle.part_on_screen.specs.Middle.{HasMeshPoints, IsInReach}
use Rattle.part_on_screen.specs.Stretched.{facet_on_screen}
use Rattle.part_on_screen.proofs.lemmas.Stretches.{next-element, same-length}
use Rattle.part_on_screen.proofs.screen.Screen.put_all.Goals as goal

pub returns-in-None-clause-reach : goal.returns-in-None-clause-reach
returns-in-None-clause-reach c =
    let f = facet_on_screen c.args.self.now in
    let xs = c.loop-facet.facets in
    let i = c.loop-facet.facet-index in
    let t = c.facet-item.result in
    let lt : i < length xs = omega arith in (
      λ h. absurd (false≢true h),
      λ h. absurd (false≢true (c.in-None.ensures.some.1
          (subst HasMeshPoints (next-element f xs i t t lt) (subst IsInReach (sym c.loop-facet.invariant.0) h i t (same-length f xs i lt))))),
    )
