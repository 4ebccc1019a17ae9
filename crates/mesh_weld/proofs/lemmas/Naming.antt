-- Facets named by ids: one more facet, and what the ids are once the points are in order.
use Rattle.std.proofs.Common.{◌≡◌, ℕ, suc, ◌<◌, ◌≤◌, ◌+◌, ◌-◌, ◌∷◌, ◌++◌, [], Bool, true, false, cond, not, List, length, get_or, map, refl, sym, ap, ◌∙◌, subst, inl, inr, arith}
use Rattle.std.specs.List.{All, Contains, flat_map}
use Rattle.std.proofs.lemmas.Grind.{flat_map-append}
use Rattle.std.proofs.lemmas.List.{append_assoc, append-nil, get_or_default, get_or_append_left, get_or-append_right, get_or-map, length-append, length_push, map_push}
use Rattle.std.proofs.lemmas.List.Elements.{All-append, All-cons, All-head, All-push, All-tail, All-weaker}
use Rattle.geometry.specs.Point.{Point, origin}
use Rattle.geometry.specs.Facet.{Facet, corners, facet_with}
use Rattle.geometry.specs.declared.limits.TheConstants.{CORNER_LIMIT}
use Rattle.mesh_weld.specs.PointOrder.{AreDistinct, IsAppendedOrSame}
use Rattle.mesh_weld.specs.CornerIds.{AreIds, ranks_of}
use Rattle.mesh_weld.specs.Welder.{AreBelow, AreNamed, IsNamed, IsNamedFacet, degenerate_facets}
use Rattle.mesh_weld.specs.Solid.{facet_by, facets_by, in_order, is_kept, kept_facets, number_of, triples, vertices}
use Rattle.mesh_weld.proofs.lemmas.InOrder.{in_order-alike}
use Rattle.mesh_weld.proofs.lemmas.Ranks.{number_distinct, three_items}

-- ---- one more point
named_within : (cs old new : List Point) (p : Point) (id : ℕ) → IsNamed old p new id → Contains cs p
    → (more : List Point) × (new ≡ old ++ more) × (length more ≤ 1) × All (Contains cs) more
named_within cs old new p id h own = by_cases h.0
  where
    by_cases : IsAppendedOrSame old p new → (more : List Point) × (new ≡ old ++ more) × (length more ≤ 1) × All (Contains cs) more
    by_cases (inl e) = ([], e ∙ sym (append-nil old), omega arith, λ k d l. absurd (omega (arith, l)))
    by_cases (inr e) = (p ∷ [], e, omega arith, All-cons (Contains cs) p [] own (λ k d l. absurd (omega (arith, l))))

-- ---- a facet's three
module _ (t : Facet) (old one two new : List Point) (i j k : ℕ) (at_a : IsNamed old t.a one i) (at_b : IsNamed one t.b two j) (at_c : IsNamed two t.c new k) where
  first : (more : List Point) × (one ≡ old ++ more) × (length more ≤ 1) × All (Contains (corners t)) more
  first = named_within (corners t) old one t.a i at_a (0, omega arith, refl)

  second : (more : List Point) × (two ≡ one ++ more) × (length more ≤ 1) × All (Contains (corners t)) more
  second = named_within (corners t) one two t.b j at_b (1, omega arith, refl)

  third : (more : List Point) × (new ≡ two ++ more) × (length more ≤ 1) × All (Contains (corners t)) more
  third = named_within (corners t) two new t.c k at_c (2, omega arith, refl)

  -- what is named stays so
  still : (p : Point) (ps qs more : List Point) (id : ℕ) → qs ≡ ps ++ more → (id < length ps) × (get_or ps id origin ≡ p) → (id < length qs) × (get_or qs id origin ≡ p)
  still p ps qs more id e h =
      subst (λ l. (id < length l) × (get_or l id origin ≡ p)) (sym e)
      (omega (arith, h.0, length-append ps more), get_or_append_left ps more origin id h.0 ∙ h.1)

  at_first : (i < length new) × (get_or new i origin ≡ t.a)
  at_first = still t.a two new third.0 i third.1 (still t.a one two second.0 i second.1 (at_a.1, at_a.2))

  at_second : (j < length new) × (get_or new j origin ≡ t.b)
  at_second = still t.b two new third.0 j third.1 (at_b.1, at_b.2)

  pub named_three : IsNamedFacet old t new (i ∷ j ∷ k ∷ [])
  named_three = record {
    more = first.0 ++ second.0 ++ third.0;
    appended = third.1 ∙ ap (λ l. l ++ third.0) (second.1 ∙ ap (λ l. l ++ second.0) first.1)
        ∙ ap (λ l. l ++ third.0) (append_assoc old first.0 second.0) ∙ append_assoc old (first.0 ++ second.0) third.0;
    few = omega (arith, first.2, second.2, third.2, length-append (first.0 ++ second.0) third.0, length-append first.0 second.0);
    own = All-append (Contains (corners t)) (first.0 ++ second.0) third.0 (All-append (Contains (corners t)) first.0 second.0 first.3 second.3) third.3;
    three = refl;
    below = All-cons (λ id. id < length new) i (j ∷ k ∷ []) at_first.0
        (All-cons (λ id. id < length new) j (k ∷ []) at_second.0 (All-cons (λ id. id < length new) k [] at_c.1 (λ n d l. absurd (omega (arith, l)))));
    leads = λ n. facet_with (at_first.1 n) (at_second.1 n) (at_c.2 n);
  }

-- ---- one more facet
-- more points change no facet
facet_stays : (ps more : List Point) (own : List ℕ) → length own ≡ 3 → All (λ id. id < length ps) own → facet_by (ps ++ more) own ≡ facet_by ps own
facet_stays ps more own three below =
    λ n. facet_with (get_or_append_left ps more origin (get_or own 0 0) (below 0 0 (omega (arith, three))) n)
    (get_or_append_left ps more origin (get_or own 1 0) (below 1 0 (omega (arith, three))) n)
    (get_or_append_left ps more origin (get_or own 2 0) (below 2 0 (omega (arith, three))) n)

facets_stay : (ps more : List Point) (ids : List (List ℕ)) → All (λ own. length own ≡ 3) ids → AreBelow ps ids → facets_by (ps ++ more) ids ≡ facets_by ps ids
facets_stay ps more [] three below = refl
facets_stay ps more (own ∷ ids) three below =
    let here = facet_stays ps more own (All-head (λ l. length l ≡ 3) own ids three) (All-head (All (λ id. id < length ps)) own ids below) in
    let rest = facets_stay ps more ids (All-tail (λ l. length l ≡ 3) own ids three) (All-tail (All (λ id. id < length ps)) own ids below) in
    λ n. here n ∷ rest n

module _ (old new : List Point) (ids : List (List ℕ)) (t : Facet) (own : List ℕ) (n : AreNamed old ids) (h : IsNamedFacet old t new own) where
  pub facets_more : facets_by new (ids ++ own ∷ []) ≡ facets_by old ids ++ t ∷ []
  facets_more =
      map_push (facet_by new) ids own
      ∙ ap (λ l. l ++ facet_by new own ∷ []) (ap (λ ps. facets_by ps ids) h.appended ∙ facets_stay old h.more ids n.three n.below)
      ∙ ap (λ u. facets_by old ids ++ u ∷ []) h.leads

  corners_of_more : flat_map corners (facets_by new (ids ++ own ∷ [])) ≡ flat_map corners (facets_by old ids) ++ corners t
  corners_of_more = ap (flat_map corners) facets_more ∙ flat_map-append corners (facets_by old ids) (t ∷ [])

  long : length new ≡ length old + length h.more
  long = ap length h.appended ∙ length-append old h.more

  left : (cs ds : List Point) (p : Point) → Contains cs p → Contains (cs ++ ds) p
  left cs ds p c = (c.0, omega (arith, c.1, length-append cs ds), get_or_append_left cs ds p c.0 c.1 ∙ c.2)

  right : (cs ds : List Point) (p : Point) → Contains ds p → Contains (cs ++ ds) p
  right cs ds p c = (length cs + c.0, omega (arith, c.1, length-append cs ds), get_or-append_right cs ds (length cs) (length cs + c.0) p refl (omega arith) ∙ ap (λ k. get_or ds k p) (let e : length cs + c.0 - length cs ≡ c.0 = omega arith in e) ∙ c.2)

  pub named_more : is_kept t ≡ true → AreNamed new (ids ++ own ∷ [])
  named_more kept = record {
    three = All-push (λ l. length l ≡ 3) ids own n.three h.three;
    below = All-push (All (λ id. id < length new)) ids own
        (All-weaker (All (λ id. id < length old)) (All (λ id. id < length new)) (λ l b k d less. omega (arith, b k d less, long)) ids n.below) h.below;
    covered = subst (λ cs. All (Contains cs) new) (sym corners_of_more)
        (subst (All (Contains (flat_map corners (facets_by old ids) ++ corners t))) (sym h.appended)
        (All-append (Contains (flat_map corners (facets_by old ids) ++ corners t)) old h.more
        (All-weaker (Contains (flat_map corners (facets_by old ids))) (Contains (flat_map corners (facets_by old ids) ++ corners t)) (left (flat_map corners (facets_by old ids)) (corners t)) old n.covered)
        (All-weaker (Contains (corners t)) (Contains (flat_map corners (facets_by old ids) ++ corners t)) (right (flat_map corners (facets_by old ids)) (corners t)) h.more h.own)));
    few = omega (arith, n.few, h.few, long, length_push ids own);
    distinct = subst (All (λ u. is_kept u ≡ true)) (sym facets_more) (All-push (λ u. is_kept u ≡ true) (facets_by old ids) t n.distinct kept);
  }

-- ---- parts
pub welder_length : (fs : List Facet) → length (kept_facets fs) + length (degenerate_facets fs) ≡ length fs
welder_length [] = refl
welder_length (t ∷ ts) = by_test (is_kept t) refl (welder_length ts)
  where
    by_test : (b : Bool) → is_kept t ≡ b → length (kept_facets ts) + length (degenerate_facets ts) ≡ length ts
        → length (cond (is_kept t) (t ∷ kept_facets ts) (kept_facets ts)) + length (cond (not (is_kept t)) (t ∷ degenerate_facets ts) (degenerate_facets ts)) ≡ suc (length ts)
    by_test true h rest =
        ap (λ b. length (cond b (t ∷ kept_facets ts) (kept_facets ts)) + length (cond (not b) (t ∷ degenerate_facets ts) (degenerate_facets ts))) h
        ∙ (let e : suc (length (kept_facets ts)) + length (degenerate_facets ts) ≡ suc (length ts) = omega (arith, rest) in e)
    by_test false h rest =
        ap (λ b. length (cond b (t ∷ kept_facets ts) (kept_facets ts)) + length (cond (not b) (t ∷ degenerate_facets ts) (degenerate_facets ts))) h
        ∙ (let e : length (kept_facets ts) + suc (length (degenerate_facets ts)) ≡ suc (length ts) = omega (arith, rest) in e)

-- ---- ids that name facets, among points that are distinct
module _ (ps : List Point) (ids : List (List ℕ)) (n : AreNamed ps ids) where
  abbrev fs : List Facet
  fs = facets_by ps ids

  covers : (own : List (List ℕ)) → All (λ l. length l ≡ 3) own → AreBelow ps own → All (Contains ps) (flat_map corners (facets_by ps own))
  covers [] three below = λ k d l. absurd (omega (arith, l))
  covers (o ∷ own) three below =
      let long : length o ≡ 3 = All-head (λ l. length l ≡ 3) o own three in
      let low : All (λ id. id < length ps) o = All-head (All (λ id. id < length ps)) o own below in
      let at : (i : ℕ) → i < 3 → Contains ps (get_or ps (get_or o i 0) origin) =
      λ i l. let less : get_or o i 0 < length ps = low i 0 (omega (arith, l, long)) in (get_or o i 0, less, get_or_default ps (get_or o i 0) (get_or ps (get_or o i 0) origin) origin less) in
      All-cons (Contains ps) (get_or ps (get_or o 0 0) origin) (get_or ps (get_or o 1 0) origin ∷ get_or ps (get_or o 2 0) origin ∷ flat_map corners (facets_by ps own)) (at 0 (omega arith))
      (All-cons (Contains ps) (get_or ps (get_or o 1 0) origin) (get_or ps (get_or o 2 0) origin ∷ flat_map corners (facets_by ps own)) (at 1 (omega arith))
      (All-cons (Contains ps) (get_or ps (get_or o 2 0) origin) (flat_map corners (facets_by ps own)) (at 2 (omega arith))
      (covers own (All-tail (λ l. length l ≡ 3) o own three) (All-tail (All (λ id. id < length ps)) o own below))))

  pub found_in_order : in_order ps ≡ vertices fs
  found_in_order = in_order-alike ps (flat_map corners fs) n.covered (covers ids n.three n.below)

  -- each id is its point's number among the points
  id_numbers : AreDistinct ps → (own : List (List ℕ)) → All (λ l. length l ≡ 3) own → AreBelow ps own → own ≡ map (λ t. map (number_of ps) (corners t)) (facets_by ps own)
  id_numbers apart [] three below = refl
  id_numbers apart (o ∷ own) three below =
      let long : length o ≡ 3 = All-head (λ l. length l ≡ 3) o own three in
      let low : All (λ id. id < length ps) o = All-head (All (λ id. id < length ps)) o own below in
      let at : (i : ℕ) → i < 3 → get_or o i 0 ≡ number_of ps (get_or ps (get_or o i 0) origin) =
      λ i l. sym (number_distinct ps (get_or o i 0) (get_or ps (get_or o i 0) origin) apart (low i 0 (omega (arith, l, long))) refl) in
      let here : o ≡ map (number_of ps) (corners (facet_by ps o)) = three_items o long ∙ (λ m. at 0 (omega arith) m ∷ at 1 (omega arith) m ∷ at 2 (omega arith) m ∷ []) in
      let rest = id_numbers apart own (All-tail (λ l. length l ≡ 3) o own three) (All-tail (All (λ id. id < length ps)) o own below) in
      λ m. here m ∷ rest m

  pub ids_are : AreDistinct ps → length ps ≤ CORNER_LIMIT → AreIds fs ids
  ids_are apart few = record {
    found = ps;
    few = few;
    covers = covers ids n.three n.below;
    are = id_numbers apart ids n.three n.below;
  }

  -- the ranks of the ids are the numbers of the corners
  ranks_by_id : (ranks : List ℕ) → ranks ≡ map (number_of (in_order ps)) ps → (own : List (List ℕ)) → All (λ l. length l ≡ 3) own → AreBelow ps own
      → map (ranks_of ranks) own ≡ map (λ t. map (number_of (in_order ps)) (corners t)) (facets_by ps own)
  ranks_by_id ranks are [] three below = refl
  ranks_by_id ranks are (o ∷ own) three below =
      let long : length o ≡ 3 = All-head (λ l. length l ≡ 3) o own three in
      let low : All (λ id. id < length ps) o = All-head (All (λ id. id < length ps)) o own below in
      let at : (i : ℕ) → i < 3 → get_or ranks (get_or o i 0) 0 ≡ number_of (in_order ps) (get_or ps (get_or o i 0) origin) =
      λ i l. ap (λ r. get_or r (get_or o i 0) 0) are ∙ get_or-map (number_of (in_order ps)) ps (get_or o i 0) origin 0 (low i 0 (omega (arith, l, long))) in
      let rest = ranks_by_id ranks are own (All-tail (λ l. length l ≡ 3) o own three) (All-tail (All (λ id. id < length ps)) o own below) in
      λ m. (at 0 (omega arith) m ∷ at 1 (omega arith) m ∷ at 2 (omega arith) m ∷ []) ∷ rest m

  pub renumbered : (ranks : List ℕ) → ranks ≡ map (number_of (in_order ps)) ps → map (ranks_of ranks) ids ≡ triples fs
  renumbered ranks are =
      ranks_by_id ranks are ids n.three n.below
      ∙ ap (λ (vs : List Point). map (λ t. map (number_of vs) (corners t)) fs) found_in_order
