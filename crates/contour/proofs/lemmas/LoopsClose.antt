-- Tracing from each segment that no earlier loop visited finds the loops of a height.
use Rattle.std.proofs.Common.{◌≡◌, ℕ, zero, suc, ◌+◌, ◌<◌, ◌≤◌, Bool, true, false, cond, List, [], ◌∷◌, ◌++◌, ◌⊎◌, inl, inr, refl, ◌∙◌, ap, subst, length, get_or, set, replicate, map, arith}
use Rattle.std.specs.Prelude.{ℤ, slice_index}
use Rattle.std.specs.List.{range_with_len}
use Rattle.std.proofs.lemmas.Bool.{cases_lt}
use Rattle.std.proofs.lemmas.List.{get_or-map, get_or-replicate, length-map, length-replicate}
use Rattle.std.proofs.lemmas.List.FromFn.{get_or-range_with_len, length-range_with_len}
use Rattle.geometry.specs.Facet.{Facet}
use Rattle.mesh_weld.specs.Balance.{IsBalanced}
use Rattle.mesh_weld.specs.EdgeNumbers.{AreEdgeNumbers}
use Rattle.mesh_weld.proofs.lemmas.SomeNumbers.{some_edge_numbers}
use Rattle.plane_segments.specs.declared.segment.Segment.{Segment}
use Rattle.plane_segments.specs.Segment.{segments}
use Rattle.contour.specs.Loops.{AreLoops, loops, parts_from}
use Rattle.contour.specs.Linker.{AreLinks, ArePopped, AreTraced, IsTracedLoop, InFacetOrder, finish_edge, is_visited, slot_after, start_edge}
use Rattle.contour.specs.declared.linker.TheConstants.{NONE}
use Rattle.contour.proofs.lemmas.Followers.{segment_edges-links}
use Rattle.contour.proofs.lemmas.Traces.{trace-begins, trace-ends, trace-skips, trace-takes, segments_rise}
use Rattle.contour.proofs.lemmas.Unique.{loops-are}
use Rattle.contour.proofs.lemmas.Walks.{IsWalk, segment_in, walk-begins, walk-ends, walk-goes}

-- the number of slots that are not visited
abbrev unvisited_count : List Bool → ℕ
unvisited_count [] = 0
unvisited_count (b ∷ visited) = cond b 0 1 + unvisited_count visited

one_visited : (visited : List Bool) (at : ℕ) → at < length visited → is_visited visited at ≡ false
    → unvisited_count visited ≡ 1 + unvisited_count (set visited at true)
one_visited [] at l h = absurd (omega (arith, l))
one_visited (b ∷ visited) zero l h = ap (λ c. cond c 0 1 + unvisited_count visited) h ∙ plain (unvisited_count visited)
  where
    plain : (n : ℕ) → 1 + n ≡ 1 + (0 + n)
    plain n = omega arith
one_visited (b ∷ visited) (suc at) l h = let rest = one_visited visited at (omega (arith, l)) h in omega (arith, rest)

module _ (list : List Segment) (next : List ℕ) (links : AreLinks list next) (order : InFacetOrder list) where
  record Walked (first : ℕ) (before : List Bool) : Type 0 where
    after : List Bool
    part : List Segment
    size : length after ≡ length list
    taken : IsTracedLoop list next first before after part

  walked : (n first : ℕ) (begins : first < length list) (before : List Bool) (earlier : (j : ℕ) → j < first → is_visited before j ≡ true)
      (visited : List Bool) (at : ℕ) (part : List Segment) → IsWalk list next first before visited at part → unvisited_count visited < n → Walked first before
  walked zero first begins before earlier visited at part w l = absurd (omega (arith, l))
  walked (suc n) first begins before earlier visited at part w l =
      by_test (walked n first begins before earlier) (is_visited visited at) refl
    where
      by_test : ((visited : List Bool) (at : ℕ) (part : List Segment) → IsWalk list next first before visited at part → unvisited_count visited < n → Walked first before)
          → (b : Bool) → is_visited visited at ≡ b → Walked first before
      by_test rest true h =
          record { after = visited; part = part; size = w.size; taken = walk-ends list next links order first begins before earlier visited at part w h }
      by_test rest false h =
          let inside = w.inside in let size = w.size in
          let one = one_visited visited at (omega arith) h in
          rest (set visited at true) (get_or next at NONE) (part ++ segment_in list at ∷ [])
          (walk-goes list next links order first begins before earlier visited at part w h) (omega (arith, l, one))

  abbrev Found : Type 0
  Found = (found : List (List Segment)) × AreLoops list found

  traced : (n first : ℕ) (visited : List Bool) (flat : List Segment) (ends : List ℕ) → AreTraced list next first visited flat ends
      → length list ≤ first + n → Found
  traced zero first visited flat ends g l = (parts_from 0 ends flat, trace-ends list next first visited flat ends g (omega (arith, l)))
  traced (suc n) first visited flat ends g l = by_place (traced n (first + 1)) (cases_lt first (length list))
    where
      Rest : Type 0
      Rest = (visited : List Bool) (flat : List Segment) (ends : List ℕ) → AreTraced list next (first + 1) visited flat ends
          → length list ≤ first + 1 + n → Found

      by_test : Rest → first < length list → (b : Bool) → is_visited visited first ≡ b → Found
      by_test rest inside true h = rest visited flat ends (trace-skips list next first visited flat ends g h) (omega (arith, l))
      by_test rest inside false h =
          let begun = walk-begins list next first visited inside g.size h g.whole in
          let w : Walked first visited = walked (suc (unvisited_count visited)) first inside visited g.earlier visited first [] begun (omega arith) in
          rest w.after (flat ++ w.part) (ends ++ length (flat ++ w.part) ∷ [])
          (trace-takes list next order first inside visited w.after flat ends w.part g w.size w.taken) (omega (arith, l))

      by_place : Rest → (first < length list) ⊎ (length list ≤ first) → Found
      by_place rest (inl inside) = by_test rest inside (is_visited visited first) refl
      by_place rest (inr past) = (parts_from 0 ends flat, trace-ends list next first visited flat ends g past)

  found : Found
  found =
      traced (length list) 0 (replicate (length list) false) [] []
      (trace-begins list next (replicate (length list) false) links (length-replicate (length list) false)
      (λ j l. get_or-replicate (length list) j false true l))
      (omega arith)

module _ (facets : List Facet) (numbers : List (List ℕ)) (count : ℕ) (numbered : AreEdgeNumbers facets numbers count) (balanced : IsBalanced facets)
    (z : ℤ) where
  abbrev starts : List ℕ
  starts = map (start_edge facets numbers) (segments facets z)

  abbrev finishes : List ℕ
  finishes = map (finish_edge facets numbers) (segments facets z)

  abbrev slot : ℕ → ℕ
  slot j = slot_after starts finishes j (slice_index finishes j)

  abbrev next : List ℕ
  next = map slot (range_with_len 0 (length (segments facets z)))

  size : length next ≡ length (segments facets z)
  size = length-map (range_with_len 0 (length (segments facets z))) slot ∙ length-range_with_len 0 (length (segments facets z))

  taken : ArePopped next starts finishes (length (segments facets z))
  taken j l =
      let long = length-range_with_len 0 (length (segments facets z)) in
      let at : get_or (range_with_len 0 (length (segments facets z))) j 0 ≡ j =
      (let own = get_or-range_with_len 0 (length (segments facets z)) j 0 l in omega (arith, own)) in
      get_or-map slot (range_with_len 0 (length (segments facets z))) j 0 NONE (omega (arith, l, long)) ∙ ap slot at

  links : AreLinks (segments facets z) next
  links =
      segment_edges-links facets (segments facets z) starts finishes next (z, refl)
      (record { numbers = numbers; count = count; numbered = numbered; starts_are = refl; finishes_are = refl }) balanced size taken

  pub loops_close : AreLoops (segments facets z) (loops (segments facets z))
  loops_close =
      let these : (found : List (List Segment)) × AreLoops (segments facets z) found =
      found (segments facets z) next links (segments_rise facets (segments facets z) (z, refl)) in
      subst (AreLoops (segments facets z)) (loops-are facets (segments facets z) (z, refl) these.0 these.1) these.1

-- so those of every closed mesh close, since its edges can be numbered
pub closed_loops : (facets : List Facet) → IsBalanced facets → (z : ℤ) → AreLoops (segments facets z) (loops (segments facets z))
closed_loops facets balanced z =
    let n : (numbers : List (List ℕ)) × (count : ℕ) × AreEdgeNumbers facets numbers count = some_edge_numbers facets in
    loops_close facets n.0 n.1 n.2 balanced z
