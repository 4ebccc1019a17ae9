use Rattle.std.proofs.Common.{◌≡◌, ◌<◌, ℕ, ◌+◌, ◌*◌, List, [], ◌∷◌, ◌++◌, length, get_or, drop, append-nil, sym, ap, ◌∙◌, subst, arith}
use Rattle.std.proofs.lemmas.List.{drop_more, drop_all}
use Rattle.mesh_weld.specs.HalfEdge.{half_edges_from}
use Rattle.mesh_weld.proofs.lemmas.Listing.{longer, three_more}
use Rattle.mesh_weld.proofs.by_sort.edges.list_half_edges.Goals as goal

pub overflow_mul-triples : goal.overflow_mul-triples
overflow_mul-triples g c = omega (arith, c.requires)

pub loop-triple-init : goal.loop-triple-init
loop-triple-init g c = record {
  so_far = ap (λ l. l ++ half_edges_from 0 c.args.triples.now) c.in_ok-list.ensures.items;
  count = c.in_ok-list.ensures.len;
}

pub push_half_edge-requires : goal.push_half_edge-requires
push_half_edge-requires g c = omega (arith, c.loop-triple.invariant.count, c.loop-triple-test.true, c.requires)

pub push_half_edge-requires-in-loop-triple : goal.push_half_edge-requires-in-loop-triple
push_half_edge-requires-in-loop-triple g c =
    let t : List ℕ = get_or c.args.triples.now c.loop-triple.triple-index [] in
    let before = c.loop-triple.list in let first = c.push_half_edge.new.list in
    omega (arith, c.loop-triple.invariant.count, c.loop-triple-test.true, c.requires, longer before.items first.items (record { from = get_or t 0 0; to = get_or t 1 0; slot = before.len }) c.in_ok-push_half_edge.ensures, before.ok.0, first.ok.0)

pub push_half_edge-requires-in-loop-triple-2 : goal.push_half_edge-requires-in-loop-triple-2
push_half_edge-requires-in-loop-triple-2 g c =
    let t : List ℕ = get_or c.args.triples.now c.loop-triple.triple-index [] in
    let before = c.loop-triple.list in let first = c.push_half_edge.new.list in let second = c.push_half_edge-in-loop-triple.new.list in
    omega (arith, c.loop-triple.invariant.count, c.loop-triple-test.true, c.requires, longer before.items first.items (record { from = get_or t 0 0; to = get_or t 1 0; slot = before.len }) c.in_ok-push_half_edge.ensures, longer first.items second.items (record { from = get_or t 1 0; to = get_or t 2 0; slot = first.len }) c.in_ok-push_half_edge-2.ensures, before.ok.0, first.ok.0, second.ok.0)

pub loop-triple-preserved : goal.loop-triple-preserved
loop-triple-preserved g c =
    let ts : List (List ℕ) = c.args.triples.now in let i : ℕ = c.loop-triple.triple-index in let t : List ℕ = get_or ts i [] in
    let inside : i < length ts = c.loop-triple-test.true in
    let before = c.loop-triple.list in let first = c.push_half_edge.new.list in
    let second = c.push_half_edge-in-loop-triple.new.list in let third = c.push_half_edge-in-loop-triple-2.new.list in
    let behind : drop i ts ≡ t ∷ drop (i + 1) ts = drop_more ts i [] inside in
    let more = three_more (λ s. record { from = get_or t 0 0; to = get_or t 1 0; slot = s }) (λ s. record { from = get_or t 1 0; to = get_or t 2 0; slot = s }) (λ s. record { from = get_or t 2 0; to = get_or t 0 0; slot = s })
    (half_edges_from (3 * i + 3) (drop (i + 1) ts)) before.items first.items second.items third.items (half_edges_from 0 ts) before.len first.len second.len
    before.ok.0 first.ok.0 second.ok.0 c.in_ok-push_half_edge.ensures c.in_ok-push_half_edge-2.ensures c.in_ok-push_half_edge-3.ensures
    (rw c.loop-triple.invariant.count (subst (λ l. before.items ++ half_edges_from (3 * i) l ≡ half_edges_from 0 ts) behind c.loop-triple.invariant.so_far)) in
    let next : 3 * i + 3 ≡ 3 * (i + 1) = omega arith in
    record {
      so_far = subst (λ n. third.items ++ half_edges_from n (drop (i + 1) ts) ≡ half_edges_from 0 ts) next more.0;
      count = third.ok.0 ∙ more.1 ∙ ap (λ n. n + 3) c.loop-triple.invariant.count ∙ next;
    }

pub returns : goal.returns
returns g c =
    let ts : List (List ℕ) = c.args.triples.now in let i : ℕ = c.loop-triple.triple-index in
    sym (append-nil c.loop-triple.list.items)
    ∙ subst (λ l. c.loop-triple.list.items ++ half_edges_from (3 * i) l ≡ half_edges_from 0 ts) (drop_all i ts (omega arith)) c.loop-triple.invariant.so_far
