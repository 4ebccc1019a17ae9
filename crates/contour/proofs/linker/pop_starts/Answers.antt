use Rattle.std.proofs.Common.{◌≡◌, ◌<◌, ◌+◌, ◌∙◌, ℕ, length, get_or, set, subst, sym, ap, arith}
use Rattle.contour.specs.Linker.{HasLeft}
use Rattle.contour.specs.declared.linker.TheConstants.{NONE}
use Rattle.contour.proofs.lemmas.Slots.{pop-popped, pop-left}
use Rattle.contour.proofs.linker.pop_starts.Goals as goal

pub loop-i-preserved : goal.loop-i-preserved
loop-i-preserved g c =
    let starts = c.args.edges.now.starts.items in
    let finishes = c.args.edges.now.finishes.items in
    let i : ℕ = c.loop-i.i in
    let l : i < length finishes = omega (arith, c.loop-i-test.true, c.loop-i.auto.i-end, c.deref-edge-items.ensures.len, ap length c.deref-edge-items.ensures.value) in
    let read : get_or c.deref-edge-items.result.now i 0 ≡ get_or finishes i 0 = ap (λ xs. get_or xs i 0) c.deref-edge-items.ensures.value in
    let edge : get_or finishes i 0 < length c.loop-i.heads = (let b = c.requires.edges i 0 l in omega (arith, b, c.loop-i.auto.heads)) in
    let inside : i < length c.loop-i.next = omega (arith, l, c.loop-i.auto.next, c.requires.room) in
    record {
      left = subst (λ x. HasLeft (set c.loop-i.heads x c.slot_at.result) starts finishes (i + 1)) (sym read)
          (pop-left c.loop-i.heads starts finishes i l edge c.loop-i.invariant.left c.args.after.now c.requires.size c.requires.limit c.requires.nexts
          c.slot_at.result (c.slot_at.ensures ∙ ap (λ x. get_or c.args.after.now (get_or c.loop-i.heads x 0) NONE) read));
      popped = pop-popped c.loop-i.heads starts finishes i l edge c.loop-i.invariant.left c.loop-i.next (get_or c.loop-i.heads (get_or c.deref-edge-items.result.now i 0) 0) inside
          (ap (λ x. get_or c.loop-i.heads x 0) read) c.loop-i.invariant.popped;
    }
