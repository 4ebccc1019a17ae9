use Rattle.std.proofs.Common.{◌≡◌, [], ap, get_or, refl, arith, Some}
use Rattle.std.specs.Prelude.{slice_get}
use Rattle.std.proofs.lemmas.Int.{to_z-of_z}
use Rattle.std.proofs.lemmas.Option.{slice_get-get_or}
use Rattle.geometry.specs.Facet.{facet_with}
use Rattle.geometry.specs.Point.{origin}
use Rattle.mesh_weld.proofs.lemmas.Degenerate.{kept-distinct}
use Rattle.mesh_weld.specs.Solid.{facet_at}
use Rattle.plane_segments.proofs.lemmas.Cutting.{segment_at-some, segment_at-none, between-by_cut, none-only}
use Rattle.plane_segments.proofs.lemmas.NodeOrder.{three_numbers}
use Rattle.plane_segments.proofs.segment.segment_in.Goals as goal

pub edge_node-requires-clause-edge : goal.edge_node-requires-clause-edge
edge_node-requires-clause-edge g c =
    let cut = c.in_ok-cut.ensures (facet_at c.args.s.now.facets c.args.number) c.requires.heights in omega (arith, cut.down_in, cut.up_in)

pub edge_node-requires-2-clause-edge : goal.edge_node-requires-2-clause-edge
edge_node-requires-2-clause-edge g c =
    let cut = c.in_ok-cut.ensures (facet_at c.args.s.now.facets c.args.number) c.requires.heights in omega (arith, cut.down_in, cut.up_in)

pub edge_node-requires-clause-distinct : goal.edge_node-requires-clause-distinct
edge_node-requires-clause-distinct g c =
    let facets = c.args.s.now.facets in let n = c.args.number in
    three_numbers facets n (facet_at facets n) (get_or c.triples.result.now n []) c.requires.number
    (slice_get-get_or facets n (facet_with origin origin origin) c.requires.number)
    (ap (λ ts. get_or ts n []) c.triples.ensures)
    (kept-distinct (facet_at facets n) (c.count-count.ensures.distinct n (facet_with origin origin origin) c.requires.number))

pub edge_node-requires-2-clause-distinct : goal.edge_node-requires-2-clause-distinct
edge_node-requires-2-clause-distinct g c =
    let facets = c.args.s.now.facets in let n = c.args.number in
    three_numbers facets n (facet_at facets n) (get_or c.triples.result.now n []) c.requires.number
    (slice_get-get_or facets n (facet_with origin origin origin) c.requires.number)
    (ap (λ ts. get_or ts n []) c.triples.ensures)
    (kept-distinct (facet_at facets n) (c.count-count.ensures.distinct n (facet_with origin origin origin) c.requires.number))

pub returns-in_err-cut-clause-segment : goal.returns-in_err-cut-clause-segment
returns-in_err-cut-clause-segment g c =
    let facets = c.args.s.now.facets in let t = facet_at facets c.args.number in
    let found : slice_get facets c.args.number ≡ Some t = slice_get-get_or facets c.args.number (facet_with origin origin origin) c.requires.number in
    let never = c.in_err-cut.ensures t c.requires.heights in
    grind (arith, to_z-of_z, segment_at-none, found, never)

pub returns-in_err-cut-clause-some : goal.returns-in_err-cut-clause-some
returns-in_err-cut-clause-some g c =
    let fits = c.ranges.z2 in
    let facets = c.args.s.now.facets in let t = facet_at facets c.args.number in
    none-only c.from_residual.result facets c.args.z2 c.args.number t c.from_residual.ensures
    (slice_get-get_or facets c.args.number (facet_with origin origin origin) c.requires.number)
    (simp to_z-of_z at (c.in_err-cut.ensures t c.requires.heights))

pub returns-clause-segment : goal.returns-clause-segment
returns-clause-segment g c =
    let facets = c.args.s.now.facets in let t = facet_at facets c.args.number in
    let found : slice_get facets c.args.number ≡ Some t = slice_get-get_or facets c.args.number (facet_with origin origin origin) c.requires.number in
    let is = c.in_ok-cut.ensures t c.requires.heights in
    grind (arith, to_z-of_z, segment_at-some, found, is)

pub returns-clause-some : goal.returns-clause-some
returns-clause-some g c =
    let fits = c.ranges.z2 in
    let facets = c.args.s.now.facets in let t = facet_at facets c.args.number in (
      λ _. between-by_cut facets c.args.z2 c.args.number t c.in_ok-cut.cut (slice_get-get_or facets c.args.number (facet_with origin origin origin) c.requires.number)
          (simp to_z-of_z at (c.in_ok-cut.ensures t c.requires.heights)),
      λ _. refl,
    )
