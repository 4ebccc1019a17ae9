use Rattle.std.proofs.Common.{◌≡◌, ◌∙◌, List, ℕ, subst, sym, length, arith}
use Rattle.plane_segments.proofs.lemmas.FacetOrder.{segments_below}
use Rattle.contour.specs.Linker.{AreLinks, ArePopped, IsClear}
use Rattle.contour.proofs.lemmas.Balanced.{segment_edges-even}
use Rattle.contour.proofs.lemmas.Links.{segment_edges-below, segment_edges-length}
use Rattle.contour.proofs.lemmas.Followers.{segment_edges-links}
use Rattle.contour.proofs.lemmas.Renumbering.{numbers-below, renumbered-even, renumbered-popped}
use Rattle.contour.proofs.lemmas.Slots.{left-clear}
use Rattle.contour.proofs.lemmas.Traces.{cut}
use Rattle.contour.proofs.linker.Links.fill.Goals as goal

pub fill-requires : goal.fill-requires
fill-requires g c = segments_below c.args.s.now.facets c.args.list.now c.requires.list

pub number-requires-clause-starts_below : goal.number-requires-clause-starts_below
number-requires-clause-starts_below g c =
    (segment_edges-below c.args.s.now.facets c.args.list.now _ _ c.edge_count.result c.in_ok-fill.ensures c.edge_count.ensures
    (segments_below c.args.s.now.facets c.args.list.now c.requires.list)).0

pub number-requires-clause-finishes_below : goal.number-requires-clause-finishes_below
number-requires-clause-finishes_below g c =
    (segment_edges-below c.args.s.now.facets c.args.list.now _ _ c.edge_count.result c.in_ok-fill.ensures c.edge_count.ensures
    (segments_below c.args.s.now.facets c.args.list.now c.requires.list)).1

pub push_starts-requires-clause-edges : goal.push_starts-requires-clause-edges
push_starts-requires-clause-edges g c =
    let found = c.in_ok-edge_count.ensures in
    numbers-below found.0 c.fill.new.self.starts.items c.number.new.self.starts.items (length c.as_mut_slice-heads.result.now) found.2.starts_are
    (omega (arith, c.as_mut_slice-heads.ensures.len, c.in_ok-resize-3.ensures.len, found.1))

pub pop_starts-requires-clause-edges : goal.pop_starts-requires-clause-edges
pop_starts-requires-clause-edges g c =
    let found = c.in_ok-edge_count.ensures in
    numbers-below found.0 c.fill.new.self.finishes.items c.number.new.self.finishes.items (length c.push_starts.new.heads) found.2.finishes_are
    (omega (arith, c.push_starts.auto.heads, c.as_mut_slice-heads.ensures.len, c.in_ok-resize-3.ensures.len, found.1))

pub returns-clause-links : goal.returns-clause-links
returns-clause-links g c =
    let starts = c.fill.new.self.starts.items in let finishes = c.fill.new.self.finishes.items in
    let new_starts = c.number.new.self.starts.items in let new_finishes = c.number.new.self.finishes.items in
    let next : List ℕ = c.pop_starts.new.next in
    let sizes = segment_edges-length c.args.s.now.facets c.args.list.now _ _ c.in_ok-fill.ensures in
    let numbers = c.in_ok-edge_count.ensures.2 in
    let room : length next ≡ c.resize-2.new.self.len = omega (arith, c.pop_starts.auto.next, c.as_mut_slice.ensures.len) in
    let size : length next ≡ length c.args.list.now = omega (arith, room, c.in_ok-resize-2.ensures.len, c.slot_count-count.ensures.count) in
    subst (AreLinks c.args.list.now) (sym (cut c.resize-2.new.self.len next c.resize-2.new.self.items room))
    (segment_edges-links c.args.s.now.facets c.args.list.now starts finishes next c.requires.list c.in_ok-fill.ensures c.slot_count-count.ensures.closed size
    (renumbered-popped starts finishes c.in_ok-edge_count.ensures.0 new_starts new_finishes next (length c.args.list.now) numbers (omega (arith, sizes.1))
    (subst (ArePopped next new_starts new_finishes) (numbers.finishes_are.size ∙ sizes.1) c.pop_starts.ensures.popped)))

pub returns-clause-clear : goal.returns-clause-clear
returns-clause-clear g c =
    let starts = c.fill.new.self.starts.items in let finishes = c.fill.new.self.finishes.items in
    let new_starts = c.number.new.self.starts.items in let new_finishes = c.number.new.self.finishes.items in
    let heads : List ℕ = c.pop_starts.new.heads in
    let room : length heads ≡ c.resize-3.new.self.len = omega (arith, c.pop_starts.auto.heads, c.push_starts.auto.heads, c.as_mut_slice-heads.ensures.len) in
    subst IsClear (sym (cut c.resize-3.new.self.len heads c.resize-3.new.self.items room))
    (left-clear heads new_starts new_finishes
    (renumbered-even starts finishes c.in_ok-edge_count.ensures.0 new_starts new_finishes c.in_ok-edge_count.ensures.2
    (segment_edges-even c.args.s.now.facets c.args.list.now starts finishes c.requires.list c.in_ok-fill.ensures c.slot_count-count.ensures.closed))
    c.pop_starts.ensures.left)
