use Rattle.std.proofs.Common.{◌≡◌, ◌<◌, ◌∙◌, length, get_or, ap, subst, sym, arith}
use Rattle.std.proofs.lemmas.List.{get_or-map, length-map}
use Rattle.geometry.specs.Facet.{facet_with}
use Rattle.geometry.specs.Point.{origin}
use Rattle.mesh_weld.specs.declared.height_order.HeightRange.{HeightRange}
use Rattle.mesh_weld.specs.Solid.{Solid, facet_at, facets_by, height_range}
use Rattle.mesh_weld.proofs.solid.Solid.height_range.Given.{Over}
use Rattle.mesh_weld.proofs.solid.Solid.height_range.Goals.{After-self, After-index}
use Rattle.mesh_weld.proofs.solid.Solid.height_range.Goals as goal

inside : (g : Over) (c : After-self g) → c.args.number < length (facets_by c.self.inside.numbering.points.items c.self.inside.numbering.numbers.items)
inside g c = subst (λ (s : Solid). c.args.number < length s.facets) (sym c.self.view_is) c.requires

pub index-requires : goal.index-requires
index-requires g c =
    let low = inside g (goal.at.index-requires g c).After-self in
    omega (arith, low, ap length c.self.invariant.0.ranges_are, length-map (facets_by c.self.inside.numbering.points.items c.self.inside.numbering.numbers.items) height_range, c.self.inside.numbering.heights.ranges.ok.0)

range_is : (g : Over) (c : After-index g) → c.args.number < length (facets_by c.self.inside.numbering.points.items c.self.inside.numbering.numbers.items)
    → c.index.result.now ≡ height_range (facet_at c.args.self.now.facets c.args.number)
range_is g c low =
    let facets = facets_by c.self.inside.numbering.points.items c.self.inside.numbering.numbers.items in
    subst (λ (s : Solid). c.index.result.now ≡ height_range (facet_at s.facets c.args.number)) c.self.view_is
    (c.index.ensures ∙ ap (λ l. get_or l c.args.number c.index.result.now) c.self.invariant.0.ranges_are
    ∙ get_or-map height_range facets c.args.number (facet_with origin origin origin) c.index.result.now low)

pub returns-clause-low : goal.returns-clause-low
returns-clause-low g c =
    let at = goal.at.returns-clause-low g c in
    ap (λ (range : HeightRange). range.low) (range_is g at.After-index (inside g at.After-self))

pub returns-clause-high : goal.returns-clause-high
returns-clause-high g c =
    let at = goal.at.returns-clause-high g c in
    ap (λ (range : HeightRange). range.high) (range_is g at.After-index (inside g at.After-self))
