use Rattle.std.proofs.Common.{◌≡◌, ◌++◌, ◌∙◌, ap, sym}
use Rattle.std.proofs.lemmas.Result.{on_ok_weaker}
use Rattle.mesh_weld.specs.Solid.{height_ranges, kept_facets}
use Rattle.mesh_weld.specs.Welder.{AreNamedMore, with_facets}
use Rattle.mesh_weld.proofs.lemmas.NamedMore.{few_with, more_welded, none_left, none_welded, still_named, with_named}
use Rattle.mesh_weld.proofs.lemmas.Results.{on_ok}
use Rattle.mesh_weld.proofs.welder.Welder.add_beside.Goals.{else-is_err, then-is_err}
use Rattle.mesh_weld.proofs.welder.Welder.add_beside.Goals as goal

pub invariant_of-self-else-is_err : goal.invariant_of-self-else-is_err
invariant_of-self-else-is_err g c =
    let own = c.self.inside in let new = c.add_facets_beside-added.new in let facets = c.args.facets.now in
    let served = sym c.is_err.ensures.value ∙ c.if-is_err.false in
    still_named own.names new.names own.kept.ids new.kept.ids own.kept.ranges.items new.kept.ranges.items facets c.self.invariant.0 c.self.invariant.2
    (on_ok (AreNamedMore own.names own.kept.ids facets new.names new.kept.ids) c.add_facets_beside-added.result.0 served c.add_facets_beside-added.ensures.named)
    (on_ok (new.kept.ranges.items ≡ own.kept.ranges.items ++ height_ranges (kept_facets facets)) c.add_facets_beside-added.result.0 served c.add_facets_beside-added.ensures.ranges)
    (few_with own.names own.kept.ids facets c.args.self.now c.self.view_is c.requires.few)

pub returns-clause-welded : goal.returns-clause-welded
returns-clause-welded g c =
    let own = c.self.inside in let new = c.add_facets_beside-added.new in let facets = c.args.facets.now in
    elim c.if-is_err.branch [
      | then-is_err w ↦ rw w.self-is (none_welded c.args.self.now _ facets c.add_facets_beside-added.result.0 (sym c.is_err.ensures.value ∙ w.if-is_err.true)
          (none_left _ _ _ w.clear.ensures.points w.clear-then-is_err.ensures.ids w.clear.ensures.degenerate))
      | else-is_err w ↦ rw w.self-is (more_welded c.args.self.now _ facets c.add_facets_beside-added.result.0 (sym c.is_err.ensures.value ∙ w.if-is_err.false)
          (on_ok_weaker c.add_facets_beside-added.result.0
          (λ more. with_named own.names new.names own.kept.ids new.kept.ids facets c.self.invariant.0 more ∙ ap (λ w. with_facets w facets) c.self.view_is)
          c.add_facets_beside-added.ensures.named))
    ]
