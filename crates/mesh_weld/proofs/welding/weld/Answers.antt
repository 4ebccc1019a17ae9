use Rattle.std.proofs.Common.{arith, ◌≡◌, ◌+◌, ◌≤◌, ℕ, [], ap, length, subst, sym, ◌∙◌}
use Rattle.geometry.specs.declared.limits.TheConstants.{FACET_LIMIT}
use Rattle.mesh_weld.specs.Welder.{Welder, welder_of}
use Rattle.mesh_weld.proofs.welding.weld.Given.{Over}
use Rattle.mesh_weld.proofs.welding.weld.Goals.{After-finish}
use Rattle.mesh_weld.proofs.welding.weld.Goals as goal

added : (g : Over) (c : After-finish g) → c.add-added.new.self ≡ welder_of c.args.facets.items
added g c = c.in_ok-added.ensures.whole [] c.new-welder.ensures ∙ ap welder_of c.as_slice.ensures.value

pub returns-clause-ray : goal.returns-clause-ray
returns-clause-ray g c = c.finish.ensures.ray c.args.facets.items (added g (goal.at.returns-clause-ray g c).After-finish)

pub returns-clause-only : goal.returns-clause-only
returns-clause-only g c = c.finish.ensures.only c.args.facets.items (added g (goal.at.returns-clause-only g c).After-finish)

pub add-added-requires : goal.add-added-requires
add-added-requires g c =
    let more = length c.as_slice.result.now in
    let few : more ≤ FACET_LIMIT = subst (λ (n : ℕ). n ≤ FACET_LIMIT) (sym c.as_slice.ensures.len) c.requires in
    let of_none : 0 + more ≤ FACET_LIMIT = omega (arith, few) in (
      c.type_bounds.send-A,
      (
        c.type_bounds.sync-A,
        (
          c.type_bounds.frees-A-Allocator,
          subst (λ (w : Welder). length w.kept + length w.degenerate + more ≤ FACET_LIMIT) (sym c.new-welder.ensures) of_none,
        ),
      ),
    )

pub returns-clause-kept : goal.returns-clause-kept
returns-clause-kept g c = c.finish.ensures.kept c.args.facets.items (added g (goal.at.returns-clause-kept g c).After-finish)

pub returns-clause-closed : goal.returns-clause-closed
returns-clause-closed g c = c.finish.ensures.closed c.args.facets.items (added g (goal.at.returns-clause-closed g c).After-finish)

pub returns-clause-open : goal.returns-clause-open
returns-clause-open g c = c.finish.ensures.«open» c.args.facets.items (added g (goal.at.returns-clause-open g c).After-finish)
