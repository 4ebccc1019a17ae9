use Rattle.std.proofs.Common.{subst, sym}
use Rattle.std.proofs.lemmas.Bool.{false≢true}
use Rattle.geometry.specs.Point.{IsMeshPoint, Point}
use Rattle.part_on_screen.specs.Stretched.{on_screen}
use Rattle.part_on_screen.proofs.screen.Screen.facet.Goals as goal

pub returns-in_err-point-clause-some : goal.returns-in_err-point-clause-some
returns-in_err-point-clause-some c =
    rw c.from_residual.ensures (
      λ h. absurd (false≢true h),
      λ h. absurd (false≢true (c.in_err-point.ensures.some.1 (subst (λ (q : Point). IsMeshPoint (on_screen c.args.self.now q)) (sym c.corner.ensures) h.0))),
    )

pub returns-in_err-point-2-clause-some : goal.returns-in_err-point-2-clause-some
returns-in_err-point-2-clause-some c =
    rw c.from_residual-in_err-point-2.ensures (
      λ h. absurd (false≢true h),
      λ h. absurd (false≢true (c.in_err-point-2.ensures.some.1 (subst (λ (q : Point). IsMeshPoint (on_screen c.args.self.now q)) (sym c.corner-2.ensures) h.1))),
    )

pub returns-in_err-point-3-clause-some : goal.returns-in_err-point-3-clause-some
returns-in_err-point-3-clause-some c =
    rw c.from_residual-in_err-point-3.ensures (
      λ h. absurd (false≢true h),
      λ h. absurd (false≢true (c.in_err-point-3.ensures.some.1 (subst (λ (q : Point). IsMeshPoint (on_screen c.args.self.now q)) (sym c.corner-3.ensures) h.2))),
    )
