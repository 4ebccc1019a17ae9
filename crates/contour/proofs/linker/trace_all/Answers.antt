use Rattle.std.proofs.Common.{refl, ◌≡◌, ◌<◌, ◌+◌, ◌++◌, ◌∷◌, ◌∙◌, [], ℕ, true, length, sym, subst, ap, arith}
use Rattle.std.proofs.lemmas.List.{get_or_read}
use Rattle.contour.specs.Linker.{AreTraced, IsTracedLoop, KeepsLoopsWhole, is_visited}
use Rattle.contour.proofs.lemmas.Traces.{cut, trace-begins, trace-skips, trace-takes}
use Rattle.contour.proofs.linker.trace_all.Goals as goal
use Rattle.contour.proofs.linker.trace_all.Goals.{then-not-index+in_ok-trace_loop+in_ok-push, else-not-index}

pub loop-first-init : goal.loop-first-init
loop-first-init g c =
    let size : length c.resize.new.self.items ≡ length c.args.list.now = omega (arith, c.in_ok-resize.ensures.len, c.resize.new.self.ok.0) in
    let empty = c.clear.ensures.len in
    let flat : c.args.flat.now.items ≡ [] = c.requires.empty in
    let ends : c.clear-2.new.self.items ≡ [] = c.clear-2.ensures.items in
    subst (λ xs. AreTraced c.args.list.now c.args.next.now 0 c.resize.new.self.items xs c.clear-2.new.self.items) (sym flat)
    (subst (λ es. AreTraced c.args.list.now c.args.next.now 0 c.resize.new.self.items [] es) (sym ends)
    (trace-begins c.args.list.now c.args.next.now c.resize.new.self.items c.requires.links size
    (λ j l. c.in_ok-resize.ensures.by_index.1 j true refl (omega arith) l)))

pub loop-first-preserved : goal.loop-first-preserved
loop-first-preserved g c =
    let list = c.args.list.now in
    let next = c.args.next.now in
    let first : ℕ = c.loop-first.first in
    let l : first < length list = c.loop-first-test.true in
    let traced : AreTraced list next first c.loop-first.visited.items c.loop-first.flat.items c.loop-first.ends.items = c.loop-first.invariant in
    elim c.if-not-index.branch [
      | then-not-index+in_ok-trace_loop+in_ok-push w ↦
          let t = w.in_ok-trace_loop.ensures in
          let before : w.as_mut_slice.result.now ≡ c.loop-first.visited.items = cc in
          let after : c.if-not-index.visited.items ≡ w.trace_loop.new.visited = ap (λ v. v.items) w.visited-is ∙ cut c.loop-first.visited.len w.trace_loop.new.visited c.loop-first.visited.items (omega (arith, w.trace_loop.auto.visited, ap length before, c.loop-first.visited.ok.0)) in
          let flat : c.if-not-index.flat.items ≡ c.loop-first.flat.items ++ t.0 = ap (λ v. v.items) w.flat-is ∙ t.1 in
          let count : w.len.result ≡ length (c.loop-first.flat.items ++ t.0) = omega (arith, w.len.ensures, ap length t.1) in
          let ends : c.if-not-index.ends.items ≡ c.loop-first.ends.items ++ length (c.loop-first.flat.items ++ t.0) ∷ [] =
          ap (λ v. v.items) w.ends-is ∙ w.in_ok-push.ensures.items ∙ ap (λ n. c.loop-first.ends.items ++ n ∷ []) count in
          let size : length w.trace_loop.new.visited ≡ length list = omega (arith, w.trace_loop.auto.visited, ap length before, traced.size) in
          let taken : IsTracedLoop list next first c.loop-first.visited.items w.trace_loop.new.visited t.0 =
          subst (λ ps. IsTracedLoop list next first ps w.trace_loop.new.visited t.0) before t.2 in
          subst (λ ps. AreTraced list next (first + 1) ps c.if-not-index.flat.items c.if-not-index.ends.items) (sym after)
          (subst (λ xs. AreTraced list next (first + 1) w.trace_loop.new.visited xs c.if-not-index.ends.items) (sym flat)
          (subst (λ es. AreTraced list next (first + 1) w.trace_loop.new.visited (c.loop-first.flat.items ++ t.0) es) (sym ends)
          (trace-takes list next c.requires.order first l c.loop-first.visited.items w.trace_loop.new.visited c.loop-first.flat.items c.loop-first.ends.items t.0 traced size taken)))
      | else-not-index w ↦
          let on : c.index.result.now ≡ true = grind arith in
          let skipped : is_visited c.loop-first.visited.items first ≡ true =
          sym (get_or_read c.loop-first.visited.items first c.index.result.now (omega (arith, l, traced.size)) c.index.ensures true) ∙ on in
          let visited : c.if-not-index.visited ≡ c.loop-first.visited = cc in
          let flat : c.if-not-index.flat ≡ c.loop-first.flat = cc in
          let ends : c.if-not-index.ends ≡ c.loop-first.ends = cc in
          subst (λ ps. AreTraced list next (first + 1) ps.items c.if-not-index.flat.items c.if-not-index.ends.items) (sym visited)
          (subst (λ xs. AreTraced list next (first + 1) c.loop-first.visited.items xs.items c.if-not-index.ends.items) (sym flat)
          (subst (λ es. AreTraced list next (first + 1) c.loop-first.visited.items c.loop-first.flat.items es.items) (sym ends)
          (trace-skips list next first c.loop-first.visited.items c.loop-first.flat.items c.loop-first.ends.items traced skipped)))
    ]

pub index-requires : goal.index-requires
index-requires g c = subst (λ n. c.loop-first.first < n) (sym (c.loop-first.visited.ok.0 ∙ c.loop-first.invariant.size)) c.loop-first-test.true

pub trace_loop-requires-clause-size : goal.trace_loop-requires-clause-size
trace_loop-requires-clause-size g c = ap length c.as_mut_slice.ensures.value ∙ c.loop-first.invariant.size

pub trace_loop-requires-clause-begins : goal.trace_loop-requires-clause-begins
trace_loop-requires-clause-begins g c =
    ap (λ ps. is_visited ps c.loop-first.first) c.as_mut_slice.ensures.value
    ∙ sym (get_or_read c.loop-first.visited.items c.loop-first.first c.index.result.now (subst (λ n. c.loop-first.first < n) (sym c.loop-first.invariant.size) c.loop-first-test.true) c.index.ensures true)
    ∙ c.if-not-index.true

pub trace_loop-requires-clause-whole : goal.trace_loop-requires-clause-whole
trace_loop-requires-clause-whole g c = subst (KeepsLoopsWhole c.args.list.now c.args.next.now) (sym c.as_mut_slice.ensures.value) c.loop-first.invariant.whole

pub trace_loop-requires-clause-earlier : goal.trace_loop-requires-clause-earlier
trace_loop-requires-clause-earlier g c =
    subst (λ ps. (j : ℕ) → j < c.loop-first.first → is_visited ps j ≡ true) (sym c.as_mut_slice.ensures.value) c.loop-first.invariant.earlier
