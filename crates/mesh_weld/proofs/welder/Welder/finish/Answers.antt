use Rattle.std.proofs.Common.{arith, subst, ◌∙◌}
use Rattle.mesh_weld.specs.Welder.{Welder}
use Rattle.mesh_weld.specs.Welding.{IsWeldOf}
use Rattle.mesh_weld.proofs.welder.Welder.finish.Goals as goal

pub group_facets-found-requires-clause-ranges : goal.group_facets-found-requires-clause-ranges
group_facets-found-requires-clause-ranges g c = rw (c.as_slice.ensures.value, c.as_slice-2.ensures.value) c.in_ok-named.ensures.ranges

pub group_facets-found-requires-clause-few : goal.group_facets-found-requires-clause-few
group_facets-found-requires-clause-few g c = rw c.as_slice-2.ensures.value (omega (arith, c.in_ok-named.ensures.few))

pub group_facets-found-requires-clause-numbering : goal.group_facets-found-requires-clause-numbering
group_facets-found-requires-clause-numbering g c = rw c.as_slice-2.ensures.value c.in_ok-named.ensures.numbering

pub group_facets-found-requires-clause-small : goal.group_facets-found-requires-clause-small
group_facets-found-requires-clause-small g c = rw c.as_slice-2.ensures.value c.in_ok-named.ensures.small

pub into_solid-requires-clause-named : goal.into_solid-requires-clause-named
into_solid-requires-clause-named g c = c.in_ok-named.ensures.named

pub into_solid-requires-clause-few : goal.into_solid-requires-clause-few
into_solid-requires-clause-few g c = c.in_ok-named.ensures.few

pub into_solid-requires-clause-edges : goal.into_solid-requires-clause-edges
into_solid-requires-clause-edges g c = rw c.as_slice-2.ensures.value at c.group_facets-found.ensures.edges

pub into_solid-requires-clause-orders : goal.into_solid-requires-clause-orders
into_solid-requires-clause-orders g c = rw (c.as_slice.ensures.value, c.as_slice-2.ensures.value) at c.group_facets-found.ensures.orders

pub returns : goal.returns
returns g c = subst (λ (w : Welder). IsWeldOf w c.into_solid.result) (c.in_ok-named.ensures.value ∙ c.in_ok-numbered.ensures) c.into_solid.ensures
