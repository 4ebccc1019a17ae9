-- Sums over all facets are those over the segments of a height, if facets that are not cut add nothing.
use Rattle.std.proofs.Common.{◌≡◌, ℕ, zero, suc, ◌+◌, ◌<◌, ◌≤◌, ◌⊎◌, inl, inr, Bool, true, false, cond, List, [], ◌∷◌, Some, None, length, drop, refl, ap, sym, subst, ◌∙◌, arith}
use Rattle.std.specs.Prelude.{Option, ℤ, pos, ◌+ℤ◌, ◌-ℤ◌, nat_le, slice_get, slice_index_or, ◌≤ℤ◌, ◌<ℤ◌, filter_map, find}
use Rattle.std.specs.List.{enumerate_from, cons_option, list_all}
use Rattle.std.proofs.lemmas.Int.{ints}
use Rattle.std.proofs.lemmas.List.{get_or_default}
use lib.IntN.{+ℤ_idl}
use Rattle.geometry.specs.Point.{Point}
use Rattle.geometry.specs.Facet.{Facet, Edge, edge, half_edges, twice}
use Rattle.geometry.specs.Winding.{hit, total, wind}
use Rattle.exact_cut.specs.Cut.{IsBetween}
use Rattle.exact_cut.specs.Lattice.{pixel, row_y}
use Rattle.exact_cut.specs.declared.dda.lattice.Lattice.{Lattice}
use Rattle.exact_cut.proofs.lemmas.Sections.{unpassed}
use Rattle.mesh_weld.specs.Solid.{facet_at, vertices}
use Rattle.plane_segments.specs.declared.segment.Segment.{Segment}
use Rattle.plane_segments.specs.Segment.{both_of, height, is_downward, is_upward, no_segment, node_of, segment_of, segments}
use Rattle.geometry.specs.TieRule.{rises_through}
use Rattle.plane_segments.proofs.lemmas.Cutting.{facet_at-is}
use Rattle.plane_segments.proofs.lemmas.FacetOrder.{segments_below}
use Rattle.raster.specs.declared.crossings.RowCrossing.{RowCrossing}
use Rattle.raster.specs.RowCrossing.{passed, signs}
use Rattle.raster.specs.Crossings.{AreCrossingsWithin, crossings_in, row_passed, row_signs}
use Rattle.exact_cut.proofs.lemmas.Steps.{no_hit}

-- if no edge of three goes through a height one way, no corner is on the other side of it
no-rise : (a b c z : ℤ) → rises_through a b z ≡ false → rises_through b c z ≡ false → rises_through c a z ≡ false
    → (a ≤ℤ z) ⊎ (b ≤ℤ z) ⊎ (c ≤ℤ z) → (z <ℤ a) ⊎ (z <ℤ b) ⊎ (z <ℤ c) → ⊥
no-rise a b c z f g h low high = grind (arith, ints)

record NoneHolds (p : Edge → Bool) (t : Facet) : Type 0 where
  first : p (edge t.a t.b) ≡ false
  second : p (edge t.b t.c) ≡ false
  third : p (edge t.c t.a) ≡ false

none_found : (p : Edge → Bool) (t : Facet) → find p (half_edges t) ≡ None → NoneHolds p t
none_found p t e = by_tests (p (edge t.a t.b)) (p (edge t.b t.c)) (p (edge t.c t.a)) refl refl refl e
  where
    by_tests : (a b c : Bool) → p (edge t.a t.b) ≡ a → p (edge t.b t.c) ≡ b → p (edge t.c t.a) ≡ c
        → cond a (Some (edge t.a t.b)) (cond b (Some (edge t.b t.c)) (cond c (Some (edge t.c t.a)) None)) ≡ None → NoneHolds p t
    by_tests true b c f g h e' = absurd (grind (arith, e'))
    by_tests false true c f g h e' = absurd (grind (arith, e'))
    by_tests false false true f g h e' = absurd (grind (arith, e'))
    by_tests false false false f g h e' = record { first = f; second = g; third = h }

not_up : (t : Facet) (z : ℤ) → find (is_upward z) (half_edges t) ≡ None → IsBetween (twice t) z → ⊥
not_up t z e between =
    let none = none_found (is_upward z) t e in
    no-rise (height t.a) (height t.b) (height t.c) z none.first none.second none.third between.some_below between.some_above

not_down : (t : Facet) (z : ℤ) → find (is_downward z) (half_edges t) ≡ None → IsBetween (twice t) z → ⊥
not_down t z e between =
    let none = none_found (is_downward z) t e in
    no-rise (height t.a) (height t.c) (height t.b) z none.third none.second none.first
    (turned between.some_below) (turned between.some_above)
  where
    turned : {A B C : Type 0} → A ⊎ B ⊎ C → A ⊎ C ⊎ B
    turned (inl a) = inl a
    turned (inr (inl b)) = inr (inr b)
    turned (inr (inr c)) = inr (inl c)

-- a facet has no segment if it is not cut, else one with its number
abbrev Says : ℕ → Facet → ℤ → Option Segment → Type 0
Says n t z None = IsBetween (twice t) z → ⊥
Says n t z (Some s) = s.facet ≡ n

says : (points : List Point) (z : ℤ) (n : ℕ) (t : Facet) → Says n t z (segment_of points z (n, t))
says points z n t = by_edges (find (is_downward z) (half_edges t)) (find (is_upward z) (half_edges t)) (not_down t z) (not_up t z)
  where
    by_edges : (d u : Option Edge) → (d ≡ None → IsBetween (twice t) z → ⊥) → (u ≡ None → IsBetween (twice t) z → ⊥)
        → Says n t z (both_of (λ (d u : Edge). record { facet = n; from = node_of points d; to = node_of points u }) d u)
    by_edges None u f g = f refl
    by_edges (Some d) None f g = g refl
    by_edges (Some d) (Some u) f g = refl

-- the facets from a number on
abbrev Reads : (ℕ → Facet) → ℕ → List Facet → Type 0
Reads h a [] = Unit {0}
Reads h a (t ∷ ts) = (h a ≡ t) × Reads h (a + 1) ts

reads : (h : ℕ → Facet) (a : ℕ) (ts : List Facet) → ((k : ℕ) → k < length ts → h (a + k) ≡ facet_at ts k) → Reads h a ts
reads h a [] f = tt
reads h a (t ∷ ts) f =
    let first : a ≡ a + 0 = omega arith in (
      ap h first ∙ f 0 (omega arith),
      reads h (a + 1) ts (λ k l. let next : a + 1 + k ≡ a + suc k = omega arith in ap h next ∙ f (suc k) (omega (arith, l))),
    )

abbrev AddsNothing : (Facet → ℤ) → ℤ → Type 0
AddsNothing f z = (t : Facet) → (IsBetween (twice t) z → ⊥) → f t ≡ pos 0

none-more : (a b c : ℤ) → a ≡ pos 0 → b ≡ c → b ≡ a +ℤ c
none-more a b c h k = omega (arith, ints)

total-from : (f : Facet → ℤ) (h : ℕ → Facet) (points : List Point) (z : ℤ) → AddsNothing f z → (a : ℕ) (ts : List Facet) → Reads h a ts
    → total (λ s. f (h s.facet)) (filter_map (segment_of points z) (enumerate_from a ts)) ≡ total f ts
total-from f h points z nothing a [] r = refl
total-from f h points z nothing a (t ∷ ts) r =
    by_segment (segment_of points z (a, t)) (says points z a t) (total-from f h points z nothing (a + 1) ts r.1)
  where
    by_segment : (o : Option Segment) → Says a t z o
        → total (λ s. f (h s.facet)) (filter_map (segment_of points z) (enumerate_from (a + 1) ts)) ≡ total f ts
        → total (λ s. f (h s.facet)) (cons_option o (filter_map (segment_of points z) (enumerate_from (a + 1) ts))) ≡ f t +ℤ total f ts
    by_segment None e rest = none-more (f t) _ (total f ts) (nothing t e) rest
    by_segment (Some s) e rest = (λ i. f (h (e i)) +ℤ rest i) ∙ ap (λ u. f u +ℤ total f ts) r.0

total-segments : (f : Facet → ℤ) (facets : List Facet) (z : ℤ) → ((t : Facet) → (IsBetween (twice t) z → ⊥) → f t ≡ pos 0)
    → total (λ s. f (facet_at facets s.facet)) (segments facets z) ≡ total f facets
total-segments f facets z nothing =
    total-from f (facet_at facets) (vertices facets) z nothing 0 facets (reads (facet_at facets) 0 facets (λ k l. let same : 0 + k ≡ k = omega arith in ap (facet_at facets) same))

abbrev segment_or : List Segment → ℕ → Segment
segment_or list n = slice_index_or list n no_segment

-- a sum over what is left of a list
total-next : (f : Segment → ℤ) (list : List Segment) (n : ℕ) → n < length list
    → total f (drop n list) ≡ f (segment_or list n) +ℤ total f (drop (n + 1) list)
total-next f [] n h = absurd (omega arith)
total-next f (x ∷ list) zero h = refl
total-next f (x ∷ list) (suc n) h =
    let next : suc n + 1 ≡ suc (n + 1) = omega arith in
    total-next f list n (omega arith) ∙ ap (λ m. f (segment_or list n) +ℤ total f (drop m (x ∷ list))) (sym next)

total-past : (f : Segment → ℤ) (list : List Segment) (n : ℕ) → length list ≤ n → total f (drop n list) ≡ pos 0
total-past f [] zero h = refl
total-past f [] (suc n) h = refl
total-past f (x ∷ list) zero h = absurd (omega arith)
total-past f (x ∷ list) (suc n) h = total-past f list n (omega arith)

-- what a facet adds to all the signs in a row, and to those that a pixel has passed
abbrev sign_in : Lattice → ℤ → ℕ → Facet → ℤ
sign_in l z j t = wind (twice t) (row_y l j) z

abbrev pass_at : Lattice → ℤ → ℕ → ℕ → Facet → ℤ
pass_at l z i j t = wind (twice t) (row_y l j) z -ℤ hit (twice t) (pixel l z i j)

-- the crossings of the facets of the first n segments
pub record ArePushed (facets : List Facet) (z : ℤ) (l : Lattice) (list : List Segment) (n : ℕ) (out : List (List RowCrossing)) : Type 0 where
  pub signs : (j : ℕ) → j < l.rows → row_signs out j +ℤ total (λ s. sign_in l z j (facet_at facets s.facet)) (drop n list)
      ≡ total (λ s. sign_in l z j (facet_at facets s.facet)) list
  pub passed : (i j : ℕ) → i < l.columns → j < l.rows
      → row_passed out j i +ℤ total (λ s. pass_at l z i j (facet_at facets s.facet)) (drop n list)
      ≡ total (λ s. pass_at l z i j (facet_at facets s.facet)) list
  pub within : AreCrossingsWithin l.columns out

pub pushed-none : (facets : List Facet) (z : ℤ) (l : Lattice) (list : List Segment) (out : List (List RowCrossing)) → ((j : ℕ) → crossings_in out j ≡ []) → ArePushed facets z l list 0 out
pushed-none facets z l list out e = record {
  signs = λ j low. ap (λ (crossings : List RowCrossing). signs crossings +ℤ total (λ s. sign_in l z j (facet_at facets s.facet)) list) (e j)
      ∙ +ℤ_idl (total (λ s. sign_in l z j (facet_at facets s.facet)) list);
  passed = λ i j inside low. ap (λ (crossings : List RowCrossing). passed crossings i +ℤ total (λ s. pass_at l z i j (facet_at facets s.facet)) list) (e j)
      ∙ +ℤ_idl (total (λ s. pass_at l z i j (facet_at facets s.facet)) list);
  within = λ j. ap (list_all (λ m. nat_le m.column l.columns)) (e j);
}

one-more : (old new here rest left all : ℤ) → new ≡ old +ℤ here → left ≡ here +ℤ rest → old +ℤ left ≡ all → new +ℤ rest ≡ all
one-more old new here rest left all e f g = omega (arith, ints)

pub pushed-more : (facets : List Facet) (z : ℤ) (l : Lattice) (list : List Segment) (n : ℕ) (s : Segment) (t : Facet) (old new : List (List RowCrossing)) → n < length list
    → s ≡ slice_index_or list n s → slice_get facets s.facet ≡ Some t
    → ((j : ℕ) → j < l.rows → row_signs new j ≡ row_signs old j +ℤ sign_in l z j t)
    → ((i j : ℕ) → i < l.columns → j < l.rows → row_passed new j i ≡ row_passed old j i +ℤ pass_at l z i j t)
    → (AreCrossingsWithin l.columns old → AreCrossingsWithin l.columns new)
    → ArePushed facets z l list n old → ArePushed facets z l list (n + 1) new
pushed-more facets z l list n s t old new room is read signs passed within h =
    let here : facet_at facets (segment_or list n).facet ≡ t =
    ap (λ (own : Segment). facet_at facets own.facet) (get_or_default list n no_segment s room ∙ sym is) ∙ facet_at-is facets s.facet t read in
    record {
      signs = λ j low. one-more (row_signs old j) (row_signs new j) (sign_in l z j t)
          (total (λ s. sign_in l z j (facet_at facets s.facet)) (drop (n + 1) list)) (total (λ s. sign_in l z j (facet_at facets s.facet)) (drop n list))
          (total (λ s. sign_in l z j (facet_at facets s.facet)) list) (signs j low)
          (total-next (λ s. sign_in l z j (facet_at facets s.facet)) list n room
          ∙ ap (λ (u : Facet). sign_in l z j u +ℤ total (λ s. sign_in l z j (facet_at facets s.facet)) (drop (n + 1) list)) here)
          (h.signs j low);
      passed = λ i j inside low. one-more (row_passed old j i) (row_passed new j i) (pass_at l z i j t)
          (total (λ s. pass_at l z i j (facet_at facets s.facet)) (drop (n + 1) list)) (total (λ s. pass_at l z i j (facet_at facets s.facet)) (drop n list))
          (total (λ s. pass_at l z i j (facet_at facets s.facet)) list) (passed i j inside low)
          (total-next (λ s. pass_at l z i j (facet_at facets s.facet)) list n room
          ∙ ap (λ (u : Facet). pass_at l z i j u +ℤ total (λ s. pass_at l z i j (facet_at facets s.facet)) (drop (n + 1) list)) here)
          (h.passed i j inside low);
      within = within h.within;
    }

no-more : (a rest all : ℤ) → rest ≡ pos 0 → a +ℤ rest ≡ all → a ≡ all
no-more a rest all e f = omega (arith, ints)

no-difference : (w x : ℤ) → w ≡ pos 0 → x ≡ pos 0 → w -ℤ x ≡ pos 0
no-difference w x h k = omega (arith, ints)

pub pushed-signs : (facets : List Facet) (z : ℤ) (l : Lattice) (list : List Segment) (n : ℕ) (out : List (List RowCrossing)) → list ≡ segments facets z → length list ≤ n
    → ArePushed facets z l list n out → (j : ℕ) → j < l.rows → row_signs out j ≡ total (sign_in l z j) facets
pushed-signs facets z l list n out e done h j low =
    no-more (row_signs out j) (total (λ s. sign_in l z j (facet_at facets s.facet)) (drop n list)) (total (λ s. sign_in l z j (facet_at facets s.facet)) list)
    (total-past (λ s. sign_in l z j (facet_at facets s.facet)) list n done) (h.signs j low)
    ∙ ap (λ (x : List Segment). total (λ s. sign_in l z j (facet_at facets s.facet)) x) e
    ∙ total-segments (sign_in l z j) facets z (λ t uncut. unpassed (twice t) z uncut (row_y l j))

pub pushed-passed : (facets : List Facet) (z : ℤ) (l : Lattice) (list : List Segment) (n : ℕ) (out : List (List RowCrossing)) → list ≡ segments facets z → length list ≤ n
    → ArePushed facets z l list n out → (i j : ℕ) → i < l.columns → j < l.rows → row_passed out j i ≡ total (pass_at l z i j) facets
pushed-passed facets z l list n out e done h i j inside low =
    no-more (row_passed out j i) (total (λ s. pass_at l z i j (facet_at facets s.facet)) (drop n list)) (total (λ s. pass_at l z i j (facet_at facets s.facet)) list)
    (total-past (λ s. pass_at l z i j (facet_at facets s.facet)) list n done) (h.passed i j inside low)
    ∙ ap (λ (x : List Segment). total (λ s. pass_at l z i j (facet_at facets s.facet)) x) e
    ∙ total-segments (pass_at l z i j) facets z
    (λ t uncut. let none = unpassed (twice t) z uncut (row_y l j) in
    no-difference (wind (twice t) (row_y l j) z) (hit (twice t) (pixel l z i j)) none (no_hit (twice t) (pixel l z i j) none))

pub below-all : (facets : List Facet) (z : ℤ) (list : List Segment) (n : ℕ) (s : Segment) → list ≡ segments facets z → n < length list
    → s ≡ slice_index_or list n s → s.facet < length facets
below-all facets z list n s e room is = subst (λ (own : Segment). own.facet < length facets) (sym is) (segments_below facets list (z, e) n s room)
