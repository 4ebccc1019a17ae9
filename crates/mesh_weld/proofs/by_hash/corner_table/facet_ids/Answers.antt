use Rattle.std.proofs.Common.{subst}
use Rattle.mesh_weld.specs.Welder.{IsNamed}
use Rattle.mesh_weld.proofs.lemmas.Naming.{named_three}
use Rattle.mesh_weld.proofs.by_hash.corner_table.facet_ids.Goals as goal

pub returns : goal.returns
returns g c =
    named_three c.args.facet.now c.args.points.now.items c.id_of.new.points.items c.id_of-2.new.points.items c.id_of-3.new.points.items c.in_ok-first.first c.in_ok-second.second c.in_ok-third.third
    (subst (λ p. IsNamed c.args.points.now.items p c.id_of.new.points.items c.in_ok-first.first) c.corner.ensures c.in_ok-first.ensures)
    (subst (λ p. IsNamed c.id_of.new.points.items p c.id_of-2.new.points.items c.in_ok-second.second) c.corner-2.ensures c.in_ok-second.ensures)
    (subst (λ p. IsNamed c.id_of-2.new.points.items p c.id_of-3.new.points.items c.in_ok-third.third) c.corner-3.ensures c.in_ok-third.ensures)
