use Rattle.std.proofs.Common.{refl, sym}
use Rattle.std.proofs.lemmas.Result.{on_ok_weaker}
use Rattle.mesh_weld.proofs.lemmas.NamedMore.{one_degenerate, one_named}
use Rattle.mesh_weld.proofs.names.Names.name_facet.Goals as goal

pub returns-then-not-has_distinct_corners : goal.returns-then-not-has_distinct_corners
returns-then-not-has_distinct_corners g c =
    one_degenerate c.args.self.now _ c.args.kept.now c.args.facet.now (sym c.if-not-has_distinct_corners.ensures) refl c.in_ok-push.ensures.items

pub returns : goal.returns
returns g c =
    on_ok_weaker c.push-2.result
    (λ more. rw more (one_named c.args.self.now _ c.args.kept.now c.args.facet.now c.in_ok-own.own (sym c.if-not-has_distinct_corners.ensures) c.in_ok-own.ensures refl))
    c.push-2.ensures
