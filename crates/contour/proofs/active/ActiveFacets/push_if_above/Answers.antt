use Rattle.std.proofs.Common.{◌∙◌, ◌<◌, List, ℕ, true, false, length, subst, sym, to_z, of_z, w32, w64}
use Rattle.std.specs.Prelude.{All, nat_lt}
use Rattle.std.specs.List.{prefix_len}
use Rattle.std.proofs.lemmas.Int.{to_z-of_z}
use Rattle.std.proofs.lemmas.List.Elements.{All-drop}
use Rattle.contour.specs.Active.{ends_above}
use Rattle.contour.proofs.lemmas.Pushes.{above-read, merge-passes, merge-pushed}
use Rattle.contour.proofs.active.ActiveFacets.push_if_above.Goals as goal

pub returns-then-not-is_above-clause-numbers : goal.returns-then-not-is_above-clause-numbers
returns-then-not-is_above-clause-numbers g c = λ later.
    merge-passes c.args.self.now.numbers.items c.args.rest.now later c.args.number (ends_above c.args.s.now.facets c.args.z2 c.args.number)
    (above-read c.args.s.now.facets c.args.number c.args.z2 (to_z w64 (of_z w64 c.args.z2)) c.args.top (to_z w32 (of_z w32 c.args.top)) c.is_above.result false
    (to_z-of_z w64 c.args.z2 c.ranges.z2) (to_z-of_z w32 c.args.top c.ranges.top) c.requires.top c.is_above.ensures c.if-not-is_above.true)

pub push_in_order-requires-clause-top : goal.push_in_order-requires-clause-top
push_in_order-requires-clause-top g c κs within = to_z-of_z w32 c.args.top c.ranges.top ∙ c.requires.top

pub returns-clause-numbers : goal.returns-clause-numbers
returns-clause-numbers g c = λ later.
    merge-pushed c.args.self.now.numbers.items c.args.rest.now later c.push_in_order.new.self.numbers.items c.in_ok-left.left.now c.args.number (ends_above c.args.s.now.facets c.args.z2 c.args.number)
    (above-read c.args.s.now.facets c.args.number c.args.z2 (to_z w64 (of_z w64 c.args.z2)) c.args.top (to_z w32 (of_z w32 c.args.top)) c.is_above.result true
    (to_z-of_z w64 c.args.z2 c.ranges.z2) (to_z-of_z w32 c.args.top c.ranges.top) c.requires.top c.is_above.ensures c.if-not-is_above.false)
    c.in_ok-left.ensures.numbers c.in_ok-left.ensures.left

pub returns-clause-tops : goal.returns-clause-tops
returns-clause-tops g c = c.in_ok-left.ensures.tops

pub returns-clause-left : goal.returns-clause-left
returns-clause-left g c =
    subst (λ (ks : List ℕ). All (λ n. n < length c.args.s.now.facets) ks) (sym c.in_ok-left.ensures.left)
    (All-drop (λ n. n < length c.args.s.now.facets) (prefix_len (λ m. nat_lt m c.args.number) c.args.rest.now) c.args.rest.now c.requires.rest)
