use Rattle.std.proofs.Common.{arith, ◌≡◌, ◌∙◌, sym, length, inl, inr, subst, ◌⊎◌}
use Rattle.std.specs.List.{All}
use Rattle.std.proofs.lemmas.List.Sorted.{All-permutation, length_permutation}
use Rattle.mesh_weld.specs.HalfEdge.{half_edges_from}
use Rattle.mesh_weld.proofs.lemmas.HalfEdges.{IsNumbered, IsHalfEdgeOf, key_at, numbered_none, numbered_next, numbered_same, numbered_all, own_half_edges, half_edges_from-length, nowhere}
use Rattle.mesh_weld.proofs.by_sort.edges.number_sorted.Goals as goal
use Rattle.mesh_weld.proofs.by_sort.edges.number_sorted.Goals.{then-count-eq0, then-count-eq0-via-then-count-eq0, then-count-eq0-via-else-count-eq0+then-pair-last, else-count-eq0+else-pair-last}

pub loop-half_edge-init : goal.loop-half_edge-init
loop-half_edge-init g c =
    numbered_none _ _ _ (omega (arith, half_edges_from-length 0 c.args.triples.now, c.in_ok-numbers.ensures.len, c.in_ok-numbers.numbers.ok.0))

pub index_mut-requires : goal.index_mut-requires
index_mut-requires g c =
    let ts = c.args.triples.now in let es = c.args.sorted.now in
    let own : All (IsHalfEdgeOf (half_edges_from 0 ts)) es = All-permutation (IsHalfEdgeOf (half_edges_from 0 ts)) (half_edges_from 0 ts) es c.requires.permuted (own_half_edges ts) in
    omega (arith, (own c.loop-half_edge.half_edge-index nowhere c.loop-half_edge-test.true).0, c.loop-half_edge.invariant.long, c.loop-half_edge.numbers.ok.0)

pub overflow_add-count : goal.overflow_add-count
overflow_add-count g c =
    omega (arith, c.loop-half_edge.invariant.few, half_edges_from-length 0 c.args.triples.now, length_permutation _ _ c.requires.permuted)

pub loop-half_edge-preserved : goal.loop-half_edge-preserved
loop-half_edge-preserved g c =
    let ts = c.args.triples.now in let es = c.args.sorted.now in let at = c.loop-half_edge in let i = c.loop-half_edge.half_edge-index in
    let own : All (IsHalfEdgeOf (half_edges_from 0 ts)) es = All-permutation (IsHalfEdgeOf (half_edges_from 0 ts)) (half_edges_from 0 ts) es c.requires.permuted (own_half_edges ts) in
    let pair : c.pair-pair.result ≡ key_at es i = c.pair-pair.ensures in
    elim c.if-count-eq0.branch [
      | then-count-eq0 w ↦
          let changed : (at.count ≡ 0) ⊎ (key_at es i ≡ at.last → ⊥) =
          elim w.then-count-eq0.branch [
            | then-count-eq0-via-then-count-eq0 v ↦ inl v.if-count-eq0.true
            | then-count-eq0-via-else-count-eq0+then-pair-last v ↦ inr (λ e. v.if-pair-last.true (pair ∙ e))
          ] in
          rw (w.count-is, w.last-is, pair) (numbered_next (half_edges_from 0 ts) es i at.numbers.items at.count at.last c.loop-half_edge-test.true c.requires.ascending own at.invariant changed)
      | else-count-eq0+else-pair-last w ↦
          rw (w.count-is, w.last-is) (numbered_same (half_edges_from 0 ts) es i at.numbers.items at.count at.last c.loop-half_edge-test.true c.requires.ascending own at.invariant w.if-count-eq0.false (sym pair ∙ w.if-pair-last.false))
    ]

pub returns : goal.returns
returns g c =
    let es = c.args.sorted.now in let at = c.loop-half_edge in
    numbered_all c.args.triples.now es c.requires.permuted c.requires.ascending at.numbers.items at.count at.last
    (subst (λ n. IsNumbered (length (half_edges_from 0 c.args.triples.now)) es n at.numbers.items at.count at.last) (let e : at.half_edge-index ≡ length es = omega arith in e) at.invariant)
