use Rattle.std.proofs.Common.{◌≡◌, ◌<◌, ℕ, ◌+◌, ◌*◌, List, ◌∷◌, ◌++◌, length, drop, append-nil, sym, ap, ◌∙◌, subst, arith}
use Rattle.std.proofs.lemmas.List.{drop_more, drop_all}
use Rattle.geometry.specs.Facet.{Facet}
use Rattle.mesh_weld.specs.Corners.{corners_from}
use Rattle.mesh_weld.proofs.lemmas.Listing.{longer, three_more}
use Rattle.mesh_weld.proofs.by_sort.corners.list_corners.Goals as goal

pub overflow_mul-facets : goal.overflow_mul-facets
overflow_mul-facets g c = omega (arith, c.requires)

pub loop-facet-init : goal.loop-facet-init
loop-facet-init g c = record {
  so_far = ap (λ l. l ++ corners_from 0 c.args.facets.now) c.in_ok-list.ensures.items;
  count = c.in_ok-list.ensures.len;
}

pub push_corner-requires : goal.push_corner-requires
push_corner-requires g c = omega (arith, c.loop-facet.invariant.count, c.loop-facet-test.true, c.requires)

pub push_corner-requires-in-loop-facet : goal.push_corner-requires-in-loop-facet
push_corner-requires-in-loop-facet g c =
    let before = c.loop-facet.list in let first = c.push_corner.new.list in
    omega (arith, c.loop-facet.invariant.count, c.loop-facet-test.true, c.requires, longer before.items first.items (record { point = c.corner.result; slot = before.len }) c.in_ok-push_corner.ensures, before.ok.0, first.ok.0)

pub push_corner-requires-in-loop-facet-2 : goal.push_corner-requires-in-loop-facet-2
push_corner-requires-in-loop-facet-2 g c =
    let before = c.loop-facet.list in let first = c.push_corner.new.list in let second = c.push_corner-in-loop-facet.new.list in
    omega (arith, c.loop-facet.invariant.count, c.loop-facet-test.true, c.requires, longer before.items first.items (record { point = c.corner.result; slot = before.len }) c.in_ok-push_corner.ensures, longer first.items second.items (record { point = c.corner-in-loop-facet.result; slot = first.len }) c.in_ok-push_corner-2.ensures, before.ok.0, first.ok.0, second.ok.0)

pub loop-facet-preserved : goal.loop-facet-preserved
loop-facet-preserved g c =
    let fs : List Facet = c.args.facets.now in let i : ℕ = c.loop-facet.facet-index in let t : Facet = c.facet-item.result in
    let inside : i < length fs = c.loop-facet-test.true in
    let before = c.loop-facet.list in let first = c.push_corner.new.list in
    let second = c.push_corner-in-loop-facet.new.list in let third = c.push_corner-in-loop-facet-2.new.list in
    let behind : drop i fs ≡ t ∷ drop (i + 1) fs = drop_more fs i t inside ∙ ap (λ x. x ∷ drop (i + 1) fs) (sym c.facet-item.is) in
    let more = three_more (λ s. record { point = c.corner.result; slot = s }) (λ s. record { point = c.corner-in-loop-facet.result; slot = s }) (λ s. record { point = c.corner-in-loop-facet-2.result; slot = s })
    (corners_from (3 * i + 3) (drop (i + 1) fs)) before.items first.items second.items third.items (corners_from 0 fs) before.len first.len second.len
    before.ok.0 first.ok.0 second.ok.0 c.in_ok-push_corner.ensures c.in_ok-push_corner-2.ensures c.in_ok-push_corner-3.ensures
    (rw (c.loop-facet.invariant.count, c.corner.ensures, c.corner-in-loop-facet.ensures, c.corner-in-loop-facet-2.ensures)
    (subst (λ l. before.items ++ corners_from (3 * i) l ≡ corners_from 0 fs) behind c.loop-facet.invariant.so_far)) in
    let next : 3 * i + 3 ≡ 3 * (i + 1) = omega arith in
    record {
      so_far = subst (λ n. third.items ++ corners_from n (drop (i + 1) fs) ≡ corners_from 0 fs) next more.0;
      count = third.ok.0 ∙ more.1 ∙ ap (λ n. n + 3) c.loop-facet.invariant.count ∙ next;
    }

pub returns : goal.returns
returns g c =
    let fs : List Facet = c.args.facets.now in let i : ℕ = c.loop-facet.facet-index in
    sym (append-nil c.loop-facet.list.items)
    ∙ subst (λ l. c.loop-facet.list.items ++ corners_from (3 * i) l ≡ corners_from 0 fs) (drop_all i fs (omega arith)) c.loop-facet.invariant.so_far
