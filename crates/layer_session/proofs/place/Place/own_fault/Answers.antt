use Rattle.std.proofs.Common.{inr, refl, subst, sym}
use Rattle.geometry.specs.Point.{Point}
use Rattle.mesh_weld.specs.Balance.{IsLeastOpen}
use Rattle.mesh_weld.specs.Welding.{IsWeldFault}
use Rattle.layer_session.specs.Place.{placed, point_placed}
use Rattle.layer_session.proofs.lemmas.Placed.{open-ends}
use Rattle.layer_session.proofs.place.Place.own_fault.Goals as goal

pub point_at-requires : goal.point_at-requires
point_at-requires c =
    (open-ends c.args.self.now c.requires.0 c.in-Open.from c.in-Open.to c.in-Open.there c.in-Open.back
    (subst (IsWeldFault (placed c.args.self.now c.requires.0)) c.in-Open.is c.requires.1)).0

pub point_at-requires-in-Open : goal.point_at-requires-in-Open
point_at-requires-in-Open c =
    (open-ends c.args.self.now c.requires.0 c.in-Open.from c.in-Open.to c.in-Open.there c.in-Open.back
    (subst (IsWeldFault (placed c.args.self.now c.requires.0)) c.in-Open.is c.requires.1)).1

pub returns-in-Open-clause-own : goal.returns-in-Open-clause-own
returns-in-Open-clause-own c = λ part reach is.
    let place = c.args.self.now in
    let least : IsLeastOpen (placed place part) c.in-Open.from c.in-Open.to c.in-Open.there c.in-Open.back = subst (IsWeldFault (placed place part)) c.in-Open.is is in
    inr
    (inr (
      reach,
      (
        c.point_at.result,
        c.point_at-in-Open.result,
        c.in-Open.there,
        c.in-Open.back,
        refl,
        subst (λ (p : Point). IsLeastOpen (placed place part) p (point_placed place c.point_at-in-Open.result) c.in-Open.there c.in-Open.back) (sym c.point_at.ensures)
            (subst (λ (p : Point). IsLeastOpen (placed place part) c.in-Open.from p c.in-Open.there c.in-Open.back) (sym c.point_at-in-Open.ensures) least),
      ),
    ))
