use Rattle.std.proofs.Common.{◌≡◌, ◌<◌, ◌∙◌, true, All, Some, length, get_or, option_map, ap, subst, sym, arith}
use Rattle.std.proofs.lemmas.List.{get_or-map, length-map}
use Rattle.std.proofs.lemmas.List.Elements.{All-get_or}
use Rattle.std.proofs.lemmas.Option.{slice_get-get_or, slice_get-map}
use Rattle.std.specs.Prelude.{slice_get}
use Rattle.geometry.specs.Facet.{Facet}
use Rattle.mesh_weld.specs.Solid.{Solid, facet_by, facets_by, is_kept}
use Rattle.mesh_weld.proofs.lemmas.Degenerate.{kept-distinct}
use Rattle.mesh_weld.proofs.lemmas.FacetNumbers.{numbered_below}
use Rattle.mesh_weld.proofs.solid.Solid.facet.Given.{Over}
use Rattle.mesh_weld.proofs.solid.Solid.facet.Goals.{After-index, After-facet_by}
use Rattle.mesh_weld.proofs.solid.Solid.facet.Goals as goal

inside : (g : Over) (c : After-index g) → c.args.number < length c.self.inside.numbering.numbers.items
inside g c =
    let low : c.args.number < length (facets_by c.self.inside.numbering.points.items c.self.inside.numbering.numbers.items) =
    subst (λ (s : Solid). c.args.number < length s.facets) (sym c.self.view_is) c.requires in
    omega (arith, low, length-map c.self.inside.numbering.numbers.items (facet_by c.self.inside.numbering.points.items))

pub facet_by-requires : goal.facet_by-requires
facet_by-requires g c =
    let points = c.self.inside.numbering.points.items in let numbers = c.self.inside.numbering.numbers.items in let n = c.self.invariant.0 in
    rw c.as_slice.ensures.value
    (subst (All (λ m. m < length points)) (sym c.index.ensures)
    (numbered_below (facets_by points numbers) points numbers n.points_are n.numbers_are c.args.number c.index.result.now
    (inside g (goal.at.facet_by-requires g c).After-index)))

facet_is : (g : Over) (c : After-facet_by g) → c.facet_by.result ≡ facet_by c.self.inside.numbering.points.items (get_or c.self.inside.numbering.numbers.items c.args.number c.index.result.now)
facet_is g c = c.facet_by.ensures ∙ (λ i. facet_by (c.as_slice.ensures.value i) (c.index.ensures i))

pub returns-clause-value : goal.returns-clause-value
returns-clause-value g c =
    let at = goal.at.returns-clause-value g c in
    let points = c.self.inside.numbering.points.items in let numbers = c.self.inside.numbering.numbers.items in
    subst (λ (s : Solid). slice_get s.facets c.args.number ≡ Some c.facet_by.result) c.self.view_is
    (slice_get-map (facet_by points) numbers c.args.number
    ∙ ap (option_map (facet_by points)) (slice_get-get_or numbers c.args.number c.index.result.now (inside g at.After-index))
    ∙ ap Some (sym (facet_is g at.After-facet_by)))

pub returns-clause-distinct : goal.returns-clause-distinct
returns-clause-distinct g c =
    let at = goal.at.returns-clause-distinct g c in
    let points = c.self.inside.numbering.points.items in let numbers = c.self.inside.numbering.numbers.items in
    let low = inside g at.After-index in
    let own : is_kept (get_or (facets_by points numbers) c.args.number c.facet_by.result) ≡ true =
    All-get_or (λ (t : Facet). is_kept t ≡ true) (facets_by points numbers) c.args.number c.facet_by.result (omega (arith, low, length-map numbers (facet_by points))) c.self.invariant.2 in
    kept-distinct c.facet_by.result
    (ap is_kept (facet_is g at.After-facet_by ∙ sym (get_or-map (facet_by points) numbers c.args.number c.index.result.now c.facet_by.result low)) ∙ own)
