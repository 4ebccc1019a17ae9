use Rattle.std.proofs.Common.{◌≡◌, ◌≤◌, IfSome, length, take, refl, sym, ap, ◌∙◌, subst, arith}
use Rattle.std.specs.Prelude.{IsTrue}
use Rattle.std.proofs.lemmas.List.{take_all}
use Rattle.mesh_weld.specs.EdgeChains.{AreNumbered}
use Rattle.mesh_weld.specs.HalfEdge.{half_edges_from}
use Rattle.mesh_weld.proofs.lemmas.Results.{on_true}
use Rattle.mesh_weld.proofs.by_hash.numbered_facets.NumberedFacets.number.Given.{Over}
use Rattle.mesh_weld.proofs.by_hash.numbered_facets.NumberedFacets.number.Goals.{After-as_slice}
use Rattle.mesh_weld.proofs.by_hash.numbered_facets.NumberedFacets.number.Goals as goal

-- what is known of the numbers so far
first_are : (g : Over) (c : After-as_slice g)
    → (c.in-Some.first.facets ≤ length c.self.inside.ids.items)
    × AreNumbered (half_edges_from 0 (take c.in-Some.first.facets c.self.inside.ids.items)) c.in-Some.first.chains.heads.items c.in-Some.first.chains.edges.items c.in-Some.first.numbers.items
first_are g c =
    let ids = c.self.inside.ids.items in
    subst (λ o. IfSome o (λ own. (own.facets ≤ length ids) × AreNumbered (half_edges_from 0 (take own.facets ids)) own.chains.heads.items own.chains.edges.items own.numbers.items))
    c.in-Some.is c.self.invariant

pub invariant_of-self : goal.invariant_of-self
invariant_of-self g c = c.self.invariant

pub number-served-requires-clause-few : goal.number-served-requires-clause-few
number-served-requires-clause-few g c = rw c.as_slice.ensures.value (first_are g c).0

pub number-served-requires-clause-first : goal.number-served-requires-clause-first
number-served-requires-clause-first g c = rw c.as_slice.ensures.value (first_are g c).1

pub invariant_of-self-else-ne : goal.invariant_of-self-else-ne
invariant_of-self-else-ne g c =
    let ids = c.self.inside.ids.items in let given = c.as_slice.result.now in let own = c.number-served.new.self in
    let count : own.facets ≡ length given =
    on_true _ _ c.number-served.result refl c.if-ne.ensures (λ served. IsTrue served → own.facets ≡ length given) c.number-served.ensures.all refl in
    let numbers =
    on_true _ _ c.number-served.result refl c.if-ne.ensures (λ served. IsTrue served → AreNumbered (half_edges_from 0 given) own.chains.heads.items own.chains.edges.items own.numbers.items)
    c.number-served.ensures.numbers refl in
    let few : length ids ≤ own.facets = omega (arith, count, ap length c.as_slice.ensures.value) in (
      omega (arith, count, ap length c.as_slice.ensures.value),
      subst (λ l. AreNumbered (half_edges_from 0 l) own.chains.heads.items own.chains.edges.items own.numbers.items)
          (c.as_slice.ensures.value ∙ sym (take_all own.facets ids few)) numbers,
    )
