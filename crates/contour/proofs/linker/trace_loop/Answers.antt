use Rattle.std.proofs.Common.{◌≡◌, ◌<◌, ◌++◌, ◌∷◌, ◌∙◌, [], true, false, List, length, get_or, set, sym, subst, ap, arith}
use Rattle.std.proofs.lemmas.List.{append-nil, append_assoc, get_or_default}
use Rattle.plane_segments.specs.declared.segment.Segment.{Segment}
use Rattle.plane_segments.specs.Segment.{no_segment}
use Rattle.contour.specs.Linker.{is_visited}
use Rattle.contour.specs.declared.linker.TheConstants.{NONE}
use Rattle.contour.proofs.lemmas.Walks.{IsWalk, walk-begins, walk-goes, walk-ends}
use Rattle.contour.proofs.linker.trace_loop.Goals as goal

pub loop-visited-init : goal.loop-visited-init
loop-visited-init g c = (
  [],
  sym (append-nil c.args.flat.now.items),
  walk-begins c.args.list.now c.args.next.now c.args.first c.args.visited.now c.requires.first c.requires.size c.requires.begins c.requires.whole,
)

pub loop-visited-preserved : goal.loop-visited-preserved
loop-visited-preserved g c =
    let part : List Segment = c.loop-visited.invariant.0 in
    let walk : IsWalk c.args.list.now c.args.next.now c.args.first c.args.visited.now c.loop-visited.visited c.loop-visited.at part = c.loop-visited.invariant.2 in
    let inside : c.loop-visited.at < length c.args.list.now = walk.inside in
    let here : is_visited c.loop-visited.visited c.loop-visited.at ≡ false = get_or_default c.loop-visited.visited c.loop-visited.at true false (let s = walk.size in omega (arith, s, inside)) ∙ c.loop-visited-test.true in
    let added : c.push.new.self.items ≡ c.loop-visited.flat.items ++ get_or c.args.list.now c.loop-visited.at no_segment ∷ [] =
    c.in_ok-push.ensures.items
    ∙ ap (λ t. c.loop-visited.flat.items ++ t ∷ []) (c.index-list-at.is ∙ get_or_default c.args.list.now c.loop-visited.at c.index-list-at.result no_segment inside) in
    let there : get_or c.args.next.now c.loop-visited.at 0 ≡ get_or c.args.next.now c.loop-visited.at NONE =
    get_or_default c.args.next.now c.loop-visited.at 0 NONE (let s = c.requires.links.size in omega (arith, s, inside)) in (
      part ++ get_or c.args.list.now c.loop-visited.at no_segment ∷ [],
      added ∙ ap (λ xs. xs ++ get_or c.args.list.now c.loop-visited.at no_segment ∷ []) c.loop-visited.invariant.1
          ∙ append_assoc c.args.flat.now.items part (get_or c.args.list.now c.loop-visited.at no_segment ∷ []),
      subst (λ n. IsWalk c.args.list.now c.args.next.now c.args.first c.args.visited.now (set c.loop-visited.visited c.loop-visited.at true) n (part ++ get_or c.args.list.now c.loop-visited.at no_segment ∷ []))
          (sym there)
          (walk-goes c.args.list.now c.args.next.now c.requires.links c.requires.order c.args.first c.requires.first c.args.visited.now c.requires.earlier
          c.loop-visited.visited c.loop-visited.at part walk here),
    )

pub returns : goal.returns
returns g c =
    let part : List Segment = c.loop-visited.invariant.0 in
    let walk : IsWalk c.args.list.now c.args.next.now c.args.first c.args.visited.now c.loop-visited.visited c.loop-visited.at part = c.loop-visited.invariant.2 in
    let inside : c.loop-visited.at < length c.args.list.now = walk.inside in
    let done : is_visited c.loop-visited.visited c.loop-visited.at ≡ true = get_or_default c.loop-visited.visited c.loop-visited.at true false (let s = walk.size in omega (arith, s, inside)) ∙ c.loop-visited-test.false in (
      part,
      c.loop-visited.invariant.1,
      walk-ends c.args.list.now c.args.next.now c.requires.links c.requires.order c.args.first c.requires.first c.args.visited.now c.requires.earlier
          c.loop-visited.visited c.loop-visited.at part walk done,
    )
