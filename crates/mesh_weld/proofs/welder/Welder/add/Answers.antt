use Rattle.std.proofs.Common.{◌≡◌, ◌++◌, ◌∙◌, ap, sym}
use Rattle.std.proofs.lemmas.Result.{on_ok_weaker}
use Rattle.mesh_weld.specs.Solid.{height_ranges, kept_facets}
use Rattle.mesh_weld.specs.Welder.{AreNamedMore, with_facets}
use Rattle.mesh_weld.proofs.lemmas.NamedMore.{few_with, more_welded, still_named, with_named}
use Rattle.mesh_weld.proofs.lemmas.Results.{on_ok}
use Rattle.mesh_weld.proofs.welder.Welder.add.Goals as goal

pub invariant_of-self-else-is_err : goal.invariant_of-self-else-is_err
invariant_of-self-else-is_err g c =
    let own = c.self.inside in let new = c.add_facets-added.new in let facets = c.args.facets.now in
    let served = sym c.is_err.ensures.value ∙ c.if-is_err.false in
    still_named own.names new.names own.kept.ids new.kept.ids own.kept.ranges.items new.kept.ranges.items facets c.self.invariant.0 c.self.invariant.2
    (on_ok (AreNamedMore own.names own.kept.ids facets new.names new.kept.ids) c.add_facets-added.result served c.add_facets-added.ensures.named)
    (on_ok (new.kept.ranges.items ≡ own.kept.ranges.items ++ height_ranges (kept_facets facets)) c.add_facets-added.result served c.add_facets-added.ensures.ranges)
    (few_with own.names own.kept.ids facets c.args.self.now c.self.view_is c.requires)

pub returns-else-is_err : goal.returns-else-is_err
returns-else-is_err g c =
    let own = c.self.inside in let new = c.add_facets-added.new in let facets = c.args.facets.now in
    more_welded c.args.self.now _ facets c.add_facets-added.result (sym c.is_err.ensures.value ∙ c.if-is_err.false)
    (on_ok_weaker c.add_facets-added.result
    (λ more. with_named own.names new.names own.kept.ids new.kept.ids facets c.self.invariant.0 more ∙ ap (λ w. with_facets w facets) c.self.view_is)
    c.add_facets-added.ensures.named)
