use Rattle.std.proofs.Common.{◌≡◌, ◌<◌, ◌+◌, ◌-◌, ℕ, length, get_or, set, subst, sym, ap, ◌∙◌, arith}
use Rattle.std.proofs.lemmas.List.{drop_all, get_or_read}
use Rattle.std.specs.Prelude.{slice_index_or}
use Rattle.contour.specs.Linker.{HasFirsts, HasNexts, slots}
use Rattle.contour.specs.declared.linker.TheConstants.{NONE}
use Rattle.contour.proofs.lemmas.Slots.{push-firsts, push-nexts}
use Rattle.contour.proofs.linker.push_starts.Goals as goal

pub loop-i-init : goal.loop-i-init
loop-i-init g c =
    let starts = c.args.edges.now.starts.items in
    record {
      firsts = λ e. c.requires.clear e ∙ sym (ap (λ xs. slice_index_or (slots c.len-i.result e xs) 0 NONE) (drop_all c.len-i.result starts (omega arith)));
      nexts = λ j low less. let no : ⊥ = omega (arith, low, less) in absurd no;
    }

pub loop-i-preserved : goal.loop-i-preserved
loop-i-preserved g c =
    let starts = c.args.edges.now.starts.items in
    let i : ℕ = c.loop-i.i - 1 in
    let up : c.loop-i.i ≡ i + 1 = omega (arith, c.loop-i-test.true) in
    let l : i < length starts = omega (arith, c.loop-i-test.true, c.loop-i.auto.i, c.len-i.ensures) in
    let read : c.index.result.now ≡ get_or starts i 0 = get_or_read starts i c.index.result.now l c.index.ensures 0 in
    let edge : get_or starts i 0 < length c.loop-i.heads = (let b = c.requires.edges i 0 l in omega (arith, b, c.loop-i.auto.heads)) in
    let inside : i < length c.loop-i.after = omega (arith, l, c.loop-i.auto.after, c.requires.room) in
    let firsts : HasFirsts c.loop-i.heads (i + 1) starts = subst (λ n. HasFirsts c.loop-i.heads n starts) up c.loop-i.invariant.firsts in
    let nexts : HasNexts c.loop-i.after (i + 1) starts = subst (λ n. HasNexts c.loop-i.after n starts) up c.loop-i.invariant.nexts in
    record {
      firsts = subst (λ x. HasFirsts (set c.loop-i.heads x i) i starts) (sym read) (push-firsts c.loop-i.heads starts i l edge firsts);
      nexts = push-nexts c.loop-i.heads starts i l edge firsts c.loop-i.after (get_or c.loop-i.heads c.index.result.now 0) inside
          (ap (λ x. get_or c.loop-i.heads x 0) read) nexts;
    }

pub returns-clause-firsts : goal.returns-clause-firsts
returns-clause-firsts g c =
    let none : c.loop-i.i ≡ 0 = omega (arith, c.loop-i-test.false) in
    subst (λ n. HasFirsts c.loop-i.heads n c.args.edges.now.starts.items) none c.loop-i.invariant.firsts

pub returns-clause-nexts : goal.returns-clause-nexts
returns-clause-nexts g c =
    let none : c.loop-i.i ≡ 0 = omega (arith, c.loop-i-test.false) in
    subst (λ n. HasNexts c.loop-i.after n c.args.edges.now.starts.items) none c.loop-i.invariant.nexts
