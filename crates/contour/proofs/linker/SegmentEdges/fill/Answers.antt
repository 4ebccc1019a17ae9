use Rattle.std.proofs.Common.{◌≡◌, ◌<◌, ◌∙◌, ap, get_or, length, map}
use Rattle.std.proofs.lemmas.List.{take_all}
use Rattle.plane_segments.specs.declared.segment.Segment.{Segment}
use Rattle.contour.specs.Linker.{finish_edge, start_edge}
use Rattle.contour.proofs.lemmas.Links.{edge-read, edges-more, in-facets, in-numbers, in-triples, offset-fits}
use Rattle.contour.proofs.linker.SegmentEdges.fill.Given.{Over}
use Rattle.contour.proofs.linker.SegmentEdges.fill.Goals.{In-loop-t}
use Rattle.contour.proofs.linker.SegmentEdges.fill.Goals as goal

pub loop-t-init : goal.loop-t-init
loop-t-init g c = record { starts = c.clear.ensures.items; finishes = c.clear-2.ensures.items }

-- the facet of a segment has a place in both arrays of the solid
within : (g : Over) (c : In-loop-t g) (t : Segment) → t ≡ get_or c.args.list.now c.loop-t.t-index t
    → (t.facet < length c.triples-corners.result.now) × (t.facet < length c.edge_numbers-numbers.result.now)
within g c t is =
    let facets = c.args.s.now.facets in
    let own : t.facet < length facets = in-facets facets c.args.list.now c.loop-t.t-index t c.requires c.loop-t-test.true is in
    (in-triples facets _ t.facet c.triples-corners.ensures own, in-numbers facets _ t.facet c.edge_numbers-numbers.ensures.1.each_facet own)

pub bounds-corners-facet : goal.bounds-corners-facet
bounds-corners-facet g c = (within g (goal.at.bounds-corners-facet g c).In-loop-t _ c.t-item.is).0

pub bounds-numbers-facet : goal.bounds-numbers-facet
bounds-numbers-facet g c = (within g (goal.at.bounds-numbers-facet g c).In-loop-t _ c.t-item.is).1

pub offset_bounds-corners-facet : goal.offset_bounds-corners-facet
offset_bounds-corners-facet g c = offset-fits _ _ (within g (goal.at.offset_bounds-corners-facet g c).In-loop-t _ c.t-item.is).0 c.triples-corners.type_inv.1

pub offset_bounds-numbers-facet : goal.offset_bounds-numbers-facet
offset_bounds-numbers-facet g c = offset-fits _ _ (within g (goal.at.offset_bounds-numbers-facet g c).In-loop-t _ c.t-item.is).0 c.triples-corners.type_inv.1

pub bounds-corners-facet-in-loop-t : goal.bounds-corners-facet-in-loop-t
bounds-corners-facet-in-loop-t g c = (within g (goal.at.bounds-corners-facet-in-loop-t g c).In-loop-t _ c.t-item.is).0

pub bounds-numbers-facet-in-loop-t : goal.bounds-numbers-facet-in-loop-t
bounds-numbers-facet-in-loop-t g c = (within g (goal.at.bounds-numbers-facet-in-loop-t g c).In-loop-t _ c.t-item.is).1

pub offset_bounds-corners-facet-in-loop-t : goal.offset_bounds-corners-facet-in-loop-t
offset_bounds-corners-facet-in-loop-t g c = offset-fits _ _ (within g (goal.at.offset_bounds-corners-facet-in-loop-t g c).In-loop-t _ c.t-item.is).0 c.triples-corners.type_inv.1

pub offset_bounds-numbers-facet-in-loop-t : goal.offset_bounds-numbers-facet-in-loop-t
offset_bounds-numbers-facet-in-loop-t g c = offset-fits _ _ (within g (goal.at.offset_bounds-numbers-facet-in-loop-t g c).In-loop-t _ c.t-item.is).0 c.triples-corners.type_inv.1

pub loop-t-preserved : goal.loop-t-preserved
loop-t-preserved g c =
    let t = c.t-item.result in
    let corners = c.triples-corners.result.now in
    let numbers = c.edge_numbers-numbers.result.now in
    let places = within g (goal.at.loop-t-preserved g c).In-loop-t t c.t-item.is in
    record {
      starts = edges-more (start_edge c.args.s.now.facets numbers) c.loop-t.self.starts.items c.push.new.self.items c.args.list.now c.loop-t.t-index c.edge_at-start.result t
          c.loop-t-test.true c.loop-t.invariant.starts c.in_ok-push.ensures.items
          (edge-read c.args.s.now.facets corners numbers t.facet t.from _ _ c.edge_at-start.result c.triples-corners.ensures places.0 places.1 c.edge_at-start.ensures
          ∙ ap (start_edge c.args.s.now.facets numbers) c.t-item.is);
      finishes = edges-more (finish_edge c.args.s.now.facets numbers) c.loop-t.self.finishes.items c.push-in-loop-t.new.self.items c.args.list.now c.loop-t.t-index c.edge_at-finish.result t
          c.loop-t-test.true c.loop-t.invariant.finishes c.in_ok-push-2.ensures.items
          (edge-read c.args.s.now.facets corners numbers t.facet t.to _ _ c.edge_at-finish.result c.triples-corners.ensures places.0 places.1 c.edge_at-finish.ensures
          ∙ ap (finish_edge c.args.s.now.facets numbers) c.t-item.is);
    }

pub returns : goal.returns
returns g c =
    let numbers = c.edge_numbers-numbers.result.now in
    let all = take_all c.loop-t.t-index c.args.list.now c.loop-t-test.false in
    record {
      numbers = numbers;
      count = c.edge_numbers-numbers.ensures.0;
      numbered = c.edge_numbers-numbers.ensures.1;
      starts_are = c.loop-t.invariant.starts ∙ ap (map (start_edge c.args.s.now.facets numbers)) all;
      finishes_are = c.loop-t.invariant.finishes ∙ ap (map (finish_edge c.args.s.now.facets numbers)) all;
    }
