-- The slots that linking finds are those of the followers.
use Rattle.std.proofs.Common.{◌≡◌, ℕ, zero, suc, ◌+◌, ◌<◌, ◌≤◌, Bool, true, false, cond, not, eqb, List, [], ◌∷◌, ◌⊎◌, inl, inr, refl, sym, ◌∙◌, ap, subst, length, take, drop, get_or, arith, map, Some}
use Rattle.std.specs.Prelude.{All, Result, Ok, Err, IfOk, ℤ, filter, count_by, slice_get, option_map, ◌==◌}
use Rattle.std.specs.List.{prefix_len, position_or_len}
use Rattle.std.proofs.lemmas.List.{get_or-map, length-map, length-drop, take_all}
use Rattle.std.proofs.lemmas.List.Sums.{count_by_more_yes}
use Rattle.std.proofs.lemmas.Option.{slice_get-get_or, slice_get-map}
use Rattle.std.proofs.lemmas.Bool.{eqb-true, eq-eqb, ne_eqb}
use Rattle.geometry.specs.Facet.{Facet}
use Rattle.mesh_weld.specs.Balance.{IsBalanced}
use Rattle.mesh_weld.specs.EdgeNumbers.{AreEdgeNumbers, edge_of}
use Rattle.mesh_weld.proofs.lemmas.Edges.{count_by-cons}
use Rattle.mesh_weld.proofs.lemmas.InOrder.{both_ways}
use Rattle.plane_segments.specs.Node.{is_node}
use Rattle.plane_segments.specs.declared.segment.Segment.{Segment}
use Rattle.plane_segments.specs.Segment.{is_segment, segments}
use Rattle.plane_segments.proofs.lemmas.FacetOrder.{AreFrom, segments_ascend}
use Rattle.plane_segments.proofs.lemmas.Nodes.{own_node}
use Rattle.contour.specs.Loops.{follower, rank_at_end}
use Rattle.contour.specs.Linker.{AreLinks, AreSegmentEdges, ArePopped, edge_of_facet, finish_edge, slots, start_edge}
use Rattle.contour.specs.declared.linker.TheConstants.{NONE}
use Rattle.contour.proofs.lemmas.Balanced.{node_at, own_edge, same_ends, same_nodes, segment_edges-even}
use Rattle.contour.proofs.lemmas.Counts.{AreEven, times}
use Rattle.contour.proofs.lemmas.Runs.{Runs, segments_run}
use Rattle.contour.proofs.lemmas.Slots.{AtSlot, length-slots, slots-at}

-- ---- lists by tests
filter_by_places : {X : Type 0} (p : X → Bool) (g : X → ℕ) (e : ℕ) (at : ℕ → X) (d : X) (n : ℕ) (xs : List X)
    → ((k : ℕ) → k < length xs → (at (n + k) ≡ get_or xs k d) × (p (get_or xs k d) ≡ eqb (g (get_or xs k d)) e))
    → filter p xs ≡ map at (slots n e (map g xs))
filter_by_places p g e at d n [] h = refl
filter_by_places p g e at d n (x ∷ xs) h =
    by_test (p x) (eqb (g x) e) here.1
    (filter_by_places p g e at d (n + 1) xs (λ k l. later k (h (suc k) (omega (arith, l)))))
  where
    here : (at n ≡ x) × (p x ≡ eqb (g x) e)
    here = let z : n + 0 ≡ n = omega arith in (ap at (sym z) ∙ (h 0 (omega arith)).0, (h 0 (omega arith)).1)

    later : (k : ℕ) → (at (n + suc k) ≡ get_or xs k d) × (p (get_or xs k d) ≡ eqb (g (get_or xs k d)) e)
        → (at (n + 1 + k) ≡ get_or xs k d) × (p (get_or xs k d) ≡ eqb (g (get_or xs k d)) e)
    later k q = let z : n + 1 + k ≡ n + suc k = omega arith in (ap at z ∙ q.0, q.1)

    by_test : (a b : Bool) → a ≡ b → filter p xs ≡ map at (slots (n + 1) e (map g xs))
        → cond a (x ∷ filter p xs) (filter p xs) ≡ map at (cond b (n ∷ slots (n + 1) e (map g xs)) (slots (n + 1) e (map g xs)))
    by_test true true q rest = λ i. sym here.0 i ∷ rest i
    by_test false false q rest = rest
    by_test true false q rest = absurd (cc)
    by_test false true q rest = absurd (cc)

count_by_numbers : {X : Type 0} (p : X → Bool) (g : X → ℕ) (e : ℕ) (d : X) (j : ℕ) (xs : List X)
    → ((k : ℕ) → k < length xs → p (get_or xs k d) ≡ eqb (g (get_or xs k d)) e) → count_by p (take j xs) ≡ times e (take j (map g xs))
count_by_numbers p g e d zero xs h = refl
count_by_numbers p g e d (suc j) [] h = refl
count_by_numbers p g e d (suc j) (x ∷ xs) h =
    count_by-cons p x (take j xs)
    ∙ (λ i. cond (h 0 (omega arith) i) 1 0 + count_by_numbers p g e d j xs (λ k l. h (suc k) (omega (arith, l))) i)
    ∙ sym (count_by-cons (λ m. m == e) (g x) (take j (map g xs)))

-- the slot of a segment among those that pass a test
rank_is : (a b : ℕ) (p : Segment → Bool) (list : List Segment) (j : ℕ) (d : Segment) → AreFrom a b list → j < length list → p (get_or list j d) ≡ true
    → position_or_len (is_segment (get_or list j d)) (filter p list) ≡ count_by p (take j list)
rank_is a b p [] j d up l h = absurd (omega (arith, l))
rank_is a b p (x ∷ list) zero d up l h =
    ap (λ t. prefix_len (λ y. not (is_segment x y)) (cond t (x ∷ filter p list) (filter p list))) h
    ∙ ap (λ t. cond (not t) (1 + prefix_len (λ y. not (is_segment x y)) (filter p list)) 0) (eq-eqb x.facet x.facet refl)
rank_is a b p (x ∷ list) (suc j) d up l h =
    by_test (p x) (rank_is (x.facet + 1) b p list j d up.2 (omega (arith, l)) h)
    ∙ sym (count_by-cons p x (take j list))
  where
    far : (c : ℕ) (ys : List Segment) (k : ℕ) → AreFrom c b ys → k < length ys → c ≤ (get_or ys k d).facet
    far c [] k u m = absurd (omega (arith, m))
    far c (y ∷ ys) zero u m = u.0
    far c (y ∷ ys) (suc k) u m = let r = far (y.facet + 1) ys k u.2 (omega (arith, m)) in let low : c ≤ y.facet = u.0 in omega (arith, r, low)

    other : eqb (get_or list j d).facet x.facet ≡ false
    other = let r = far (x.facet + 1) list j up.2 (omega (arith, l)) in ne_eqb _ _ (λ q. omega (arith, q, r))

    by_test : (t : Bool) → position_or_len (is_segment (get_or list j d)) (filter p list) ≡ count_by p (take j list)
        → position_or_len (is_segment (get_or list j d)) (cond t (x ∷ filter p list) (filter p list)) ≡ cond t 1 0 + count_by p (take j list)
    by_test true rest =
        ap (λ t. cond (not t) (1 + prefix_len (λ y. not (is_segment (get_or list j d) y)) (filter p list)) 0) other ∙ ap (λ n. 1 + n) rest
    by_test false rest = rest ∙ (let z : count_by p (take j list) ≡ 0 + count_by p (take j list) = omega arith in z)

times_up : (e i j : ℕ) (xs : List ℕ) → i ≤ j → times e (take i xs) ≤ times e (take j xs)
times_up e zero j xs l = omega arith
times_up e (suc i) zero xs l = absurd (omega (arith, l))
times_up e (suc i) (suc j) [] l = omega arith
times_up e (suc i) (suc j) (x ∷ xs) l =
    let rest = times_up e i j xs (omega (arith, l)) in
    let a = count_by-cons (λ m. m == e) x (take i xs) in let b = count_by-cons (λ m. m == e) x (take j xs) in omega (arith, rest, a, b)

times_past : (e i j : ℕ) (xs : List ℕ) → i < j → i < length xs → get_or xs i 0 ≡ e → times e (take i xs) < times e (take j xs)
times_past e i j xs l m h =
    let more = count_by_more_yes (λ n. n == e) xs i 0 m (eq-eqb (get_or xs i 0) e h) in
    let up = times_up e (i + 1) j xs (omega (arith, l)) in omega (arith, more, up)

module _ (facets : List Facet) (numbers : List (List ℕ)) (count : ℕ) (numbered : AreEdgeNumbers facets numbers count) (z : ℤ) where
  -- two nodes of edges are one if the edges have one number
  same_numbers : (n k m j : ℕ) → n < length facets → k < 3 → m < length facets → j < 3
      → is_node (node_at facets n k) (node_at facets m j)
      ≡ eqb (edge_of_facet facets numbers n (node_at facets n k)) (edge_of_facet facets numbers m (node_at facets m j))
  same_numbers n k m j l l' r r' =
      both_ways _ _
      (λ t. eq-eqb _ _ (own_edge facets numbers count numbered n k l l'
      ∙ (numbered.shared n k m j l l' r r').1 (same_ends facets n k m j l l' r r' t)
      ∙ sym (own_edge facets numbers count numbered m j r r')))
      (λ t. own_node (node_at facets n k) (node_at facets m j)
      (same_nodes facets (edge_of facets n k) (edge_of facets m j)
      ((numbered.shared n k m j l l' r r').0 (sym (own_edge facets numbers count numbered n k l l') ∙ eqb-true _ _ t ∙ own_edge facets numbers count numbered m j r r'))))

  starts_where : (x s : Segment) → Runs facets z x → Runs facets z s → is_node x.from s.to ≡ eqb (start_edge facets numbers x) (finish_edge facets numbers s)
  starts_where x s p q =
      (λ i. is_node (p.from_is i) (q.to_is i)) ∙ same_numbers x.facet p.down s.facet q.up p.inside p.down_in q.inside q.up_in
      ∙ (λ i. eqb (edge_of_facet facets numbers x.facet (sym p.from_is i)) (edge_of_facet facets numbers s.facet (sym q.to_is i)))

  ends_where : (x s : Segment) → Runs facets z x → Runs facets z s → is_node x.to s.to ≡ eqb (finish_edge facets numbers x) (finish_edge facets numbers s)
  ends_where x s p q =
      (λ i. is_node (p.to_is i) (q.to_is i)) ∙ same_numbers x.facet p.up s.facet q.up p.inside p.up_in q.inside q.up_in
      ∙ (λ i. eqb (edge_of_facet facets numbers x.facet (sym p.to_is i)) (edge_of_facet facets numbers s.facet (sym q.to_is i)))

  module _ (list : List Segment) (b : ℕ) (ascends : AreFrom 0 b list) (runs : All (Runs facets z) list)
      (starts finishes : List ℕ) (starts_are : starts ≡ map (start_edge facets numbers) list) (finishes_are : finishes ≡ map (finish_edge facets numbers) list)
      (even : AreEven starts finishes) (next : List ℕ) (size : length next ≡ length list) (taken : ArePopped next starts finishes (length list)) where
    finish_at : (j : ℕ) (d : Segment) → j < length list → get_or finishes j 0 ≡ finish_edge facets numbers (get_or list j d)
    finish_at j d l = ap (λ xs. get_or xs j 0) finishes_are ∙ get_or-map (finish_edge facets numbers) list j d 0 l

    -- the slot of the follower is among those that start there
    rank_below : (j : ℕ) → j < length list → times (get_or finishes j 0) (take j finishes) < length (slots 0 (get_or finishes j 0) starts)
    rank_below j l =
        let n = ap length finishes_are ∙ length-map list (finish_edge facets numbers) in
        let long = length-slots 0 (get_or finishes j 0) starts in let same = even (get_or finishes j 0) in
        let past = times_past (get_or finishes j 0) j (length finishes) finishes (omega (arith, l, n)) (omega (arith, l, n)) refl in
        let all : times (get_or finishes j 0) (take (length finishes) finishes) ≡ times (get_or finishes j 0) finishes =
        ap (times (get_or finishes j 0)) (take_all (length finishes) finishes (omega arith)) in
        omega (arith, long, same, past, all)

    placed : (j : ℕ) → j < length list → AtSlot 0 (get_or finishes j 0) starts (slots 0 (get_or finishes j 0) starts) (times (get_or finishes j 0) (take j finishes))
    placed j l = slots-at 0 (get_or finishes j 0) starts (times (get_or finishes j 0) (take j finishes)) (rank_below j l)

    next_at : (j : ℕ) (l : j < length list) → get_or next j NONE ≡ (placed j l).at
    next_at j l = taken j l ∙ (placed j l).slot ∙ (let z : 0 + (placed j l).at ≡ (placed j l).at = omega arith in z)

    pub links_within : (j : ℕ) → j < length list → get_or next j NONE < length list
    links_within j l =
        let at = next_at j l in let low = (placed j l).within in
        let n = ap length starts_are ∙ length-map list (start_edge facets numbers) in omega (arith, at, low, n)

    pub links_follow : (j : ℕ) (d : Segment) → j < length list → follower list (get_or list j d) ≡ Some (get_or list (get_or next j NONE) d)
    links_follow j d l =
        (λ i. slice_get (starters i) (turn i))
        ∙ slice_get-map (λ i. get_or list i d) (slots 0 (get_or finishes j 0) starts) (times (get_or finishes j 0) (take j finishes))
        ∙ ap (option_map (λ i. get_or list i d)) (slice_get-get_or (slots 0 (get_or finishes j 0) starts) (times (get_or finishes j 0) (take j finishes)) NONE (rank_below j l))
        ∙ ap (λ n. Some (get_or list n d)) (sym (taken j l))
      where
        s : Segment
        s = get_or list j d

        own_test : (k : ℕ) → k < length list → is_node (get_or list k d).from (get_or list j d).to ≡ eqb (start_edge facets numbers (get_or list k d)) (get_or finishes j 0)
        own_test k h =
            starts_where (get_or list k d) (get_or list j d) (runs k d h) (runs j d l)
            ∙ ap (eqb (start_edge facets numbers (get_or list k d))) (sym (finish_at j d l))

        end_test : (k : ℕ) → k < length list → is_node (get_or list k d).to (get_or list j d).to ≡ eqb (finish_edge facets numbers (get_or list k d)) (get_or finishes j 0)
        end_test k h =
            ends_where (get_or list k d) (get_or list j d) (runs k d h) (runs j d l)
            ∙ ap (eqb (finish_edge facets numbers (get_or list k d))) (sym (finish_at j d l))

        starters : filter (λ t. is_node t.from (get_or list j d).to) list ≡ map (λ i. get_or list i d) (slots 0 (get_or finishes j 0) starts)
        starters =
            filter_by_places (λ t. is_node t.from (get_or list j d).to) (start_edge facets numbers) (get_or finishes j 0) (λ i. get_or list i d) d 0 list
            (λ k h. (let z : 0 + k ≡ k = omega arith in ap (λ i. get_or list i d) z, own_test k h))
            ∙ ap (λ xs. map (λ i. get_or list i d) (slots 0 (get_or finishes j 0) xs)) (sym starts_are)

        turn : rank_at_end list (get_or list j d) ≡ times (get_or finishes j 0) (take j finishes)
        turn =
            rank_is 0 b (λ t. is_node t.to (get_or list j d).to) list j d ascends l (own_node (get_or list j d).to (get_or list j d).to refl)
            ∙ count_by_numbers (λ t. is_node t.to (get_or list j d).to) (finish_edge facets numbers) (get_or finishes j 0) d j list end_test
            ∙ ap (λ xs. times (get_or finishes j 0) (take j xs)) (sym finishes_are)

    same_turn : (i j : ℕ) (k : i < length list) (l : j < length list) → get_or next i NONE ≡ get_or next j NONE
        → (get_or finishes i 0 ≡ get_or finishes j 0) × (times (get_or finishes i 0) (take i finishes) ≡ times (get_or finishes j 0) (take j finishes))
    same_turn i j k l h =
        let at : (placed i k).at ≡ (placed j l).at = sym (next_at i k) ∙ h ∙ next_at j l in
        let edge : get_or finishes i 0 ≡ get_or finishes j 0 = sym (placed i k).is ∙ ap (λ m. get_or starts m 0) at ∙ (placed j l).is in
        let behind : drop (suc (times (get_or finishes i 0) (take i finishes))) (slots 0 (get_or finishes i 0) starts)
        ≡ drop (suc (times (get_or finishes j 0) (take j finishes))) (slots 0 (get_or finishes j 0) starts) =
        (placed i k).behind ∙ (λ t. slots (0 + at t + 1) (edge t) (drop (suc (at t)) starts)) ∙ sym (placed j l).behind in
        let long = ap length behind in
        let a = length-drop (suc (times (get_or finishes i 0) (take i finishes))) (slots 0 (get_or finishes i 0) starts) in
        let b = length-drop (suc (times (get_or finishes j 0) (take j finishes))) (slots 0 (get_or finishes j 0) starts) in
        let same = ap (λ e. length (slots 0 e starts)) edge in
        let low = rank_below i k in let low' = rank_below j l in
        (edge, omega (arith, long, a, b, same, low, low'))

    pub links_one : (i j : ℕ) → i < length list → j < length list → get_or next i NONE ≡ get_or next j NONE → i ≡ j
    links_one i j k l h =
        by_order (order i j)
      where
        order : (i j : ℕ) → (i < j) ⊎ ((j < i) ⊎ (i ≡ j))
        order i j = grind arith

        n : length finishes ≡ length list
        n = ap length finishes_are ∙ length-map list (finish_edge facets numbers)

        by_order : (i < j) ⊎ ((j < i) ⊎ (i ≡ j)) → i ≡ j
        by_order (inl m) =
            let same = same_turn i j k l h in
            let past = times_past (get_or finishes j 0) i j finishes m (omega (arith, k, n)) same.0 in
            let own = ap (λ e. times e (take i finishes)) same.0 in
            absurd (omega (arith, past, own, same.1))
        by_order (inr (inl m)) =
            let same = same_turn i j k l h in
            let past = times_past (get_or finishes i 0) j i finishes m (omega (arith, l, n)) (sym same.0) in
            let own = ap (λ e. times e (take j finishes)) (sym same.0) in
            absurd (omega (arith, past, own, same.1))
        by_order (inr (inr m)) = m

pub segment_edges-links : (facets : List Facet) (list : List Segment) (starts finishes next : List ℕ) → (z : ℤ) × (list ≡ segments facets z)
    → AreSegmentEdges facets list starts finishes → IsBalanced facets → length next ≡ length list → ArePopped next starts finishes (length list)
    → AreLinks list next
segment_edges-links facets list starts finishes next e p balanced size taken =
    let runs = subst (All (Runs facets e.0)) (sym e.1) (segments_run facets e.0) in
    let ascends = subst (AreFrom 0 (length facets)) (sym e.1) (segments_ascend facets e.0) in
    let even = segment_edges-even facets list starts finishes e p balanced in
    record {
      size = size;
      within = links_within facets p.numbers p.count p.numbered e.0 list (length facets) ascends runs starts finishes p.starts_are p.finishes_are even next size taken;
      follows = links_follow facets p.numbers p.count p.numbered e.0 list (length facets) ascends runs starts finishes p.starts_are p.finishes_are even next size taken;
      one = links_one facets p.numbers p.count p.numbered e.0 list (length facets) ascends runs starts finishes p.starts_are p.finishes_are even next size taken;
    }

-- what follows of an `Ok` result from two facts of it
pub ok_from : {X E : Type 0} (P Q R : X → Type 0) (r : Result X E) → ((x : X) → P x → Q x → R x) → IfOk r P → IfOk r Q → IfOk r R
ok_from P Q R (Ok x) h p q = h x p q
ok_from P Q R (Err e) h p q = tt
