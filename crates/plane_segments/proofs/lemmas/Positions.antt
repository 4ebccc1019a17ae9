-- Lists with their positions: one more element, and what a search, a filter and a map of them give there.
use Rattle.std.proofs.Common.{◌≡◌, ℕ, suc, ◌+◌, ◌<◌, List, [], ◌∷◌, ◌++◌, sym, ◌∙◌, ap, length, take, get_or, arith}
use Rattle.std.specs.Prelude.{Option, Some, None, ℤ, filter_map}
use Rattle.std.specs.List.{enumerate_from, cons_option}
use Rattle.std.proofs.lemmas.List.{take_more, length-take, append-nil}
use Rattle.std.proofs.lemmas.List.Elements.{filter_map-append}
use Rattle.geometry.specs.Point.{origin}
use Rattle.geometry.specs.Facet.{Facet, facet_with}
use Rattle.mesh_weld.specs.Solid.{vertices, facet_at}
use Rattle.plane_segments.specs.Segment.{segment_of, numbered_segment}
use Rattle.plane_segments.specs.declared.segment.Segment.{Segment}

enumerate_from-append : {X : Type 0} (n : ℕ) (xs ys : List X)
    → enumerate_from n (xs ++ ys) ≡ enumerate_from n xs ++ enumerate_from (n + length xs) ys
enumerate_from-append n [] ys = let e : n ≡ n + 0 = omega arith in ap (λ m. enumerate_from m ys) e
enumerate_from-append n (x ∷ xs) ys =
    let e : (n + 1) + length xs ≡ n + suc (length xs) = omega arith in
    ap (λ rest. (n, x) ∷ rest) (enumerate_from-append (n + 1) xs ys ∙ ap (λ m. enumerate_from (n + 1) xs ++ enumerate_from m ys) e)

enumerate_more : {X : Type 0} (xs : List X) (n : ℕ) (d : X) → n < length xs
    → enumerate_from 0 (take (n + 1) xs) ≡ enumerate_from 0 (take n xs) ++ (n, get_or xs n d) ∷ []
enumerate_more xs n d h =
    let e : 0 + length (take n xs) ≡ n = omega (arith, length-take n xs) in
    ap (enumerate_from 0) (take_more xs n d h) ∙ enumerate_from-append 0 (take n xs) (get_or xs n d ∷ [])
    ∙ ap (λ m. enumerate_from 0 (take n xs) ++ (m, get_or xs n d) ∷ []) e

-- the segments of the first facets
abbrev pub segments_to : List Facet → ℤ → ℕ → List Segment
segments_to facets z n = filter_map (segment_of (vertices facets) z) (enumerate_from 0 (take n facets))

segments_to-more : (facets : List Facet) (z : ℤ) (n : ℕ) → n < length facets
    → segments_to facets z (n + 1) ≡ segments_to facets z n ++ cons_option (segment_of (vertices facets) z (n, facet_at facets n)) []
segments_to-more facets z n h =
    ap (filter_map (segment_of (vertices facets) z)) (enumerate_more facets n (facet_with origin origin origin) h)
    ∙ filter_map-append (segment_of (vertices facets) z) (enumerate_from 0 (take n facets)) ((n, facet_at facets n) ∷ [])

pub segments_to-some : (facets : List Facet) (z : ℤ) (n m : ℕ) (s : Segment) → n < length facets → m ≡ n + 1
    → Some s ≡ segment_of (vertices facets) z (n, facet_at facets n) → segments_to facets z m ≡ segments_to facets z n ++ s ∷ []
segments_to-some facets z n m s h e f =
    ap (segments_to facets z) e ∙ segments_to-more facets z n h
    ∙ ap (λ o. segments_to facets z n ++ cons_option o []) (sym f)

pub segments_to-none : (facets : List Facet) (z : ℤ) (n m : ℕ) → n < length facets → m ≡ n + 1
    → None ≡ segment_of (vertices facets) z (n, facet_at facets n) → segments_to facets z m ≡ segments_to facets z n
segments_to-none facets z n m h e f =
    ap (segments_to facets z) e ∙ segments_to-more facets z n h
    ∙ ap (λ o. segments_to facets z n ++ cons_option o []) (sym f) ∙ append-nil (segments_to facets z n)

-- ---- the segments of the facets with the first of some numbers
filter_map_more : {X Y : Type 0} (h : X → Option Y) (xs : List X) (i : ℕ) (d : X) → i < length xs
    → filter_map h (take (i + 1) xs) ≡ filter_map h (take i xs) ++ cons_option (h (get_or xs i d)) []
filter_map_more h xs i d l =
    ap (filter_map h) (take_more xs i d l) ∙ filter_map-append h (take i xs) (get_or xs i d ∷ [])

pub picked-some : (facets : List Facet) (z : ℤ) (xs : List ℕ) (i : ℕ) (s : Segment) (old more new : List Segment) → i < length xs
    → Some s ≡ segment_of (vertices facets) z (get_or xs i 0, facet_at facets (get_or xs i 0)) → new ≡ more → more ≡ old ++ s ∷ []
    → old ≡ filter_map (numbered_segment facets z) (take i xs) → new ≡ filter_map (numbered_segment facets z) (take (i + 1) xs)
picked-some facets z xs i s old more new l e is pushed before =
    is ∙ pushed ∙ ap (λ ss. ss ++ s ∷ []) before
    ∙ sym (filter_map_more (numbered_segment facets z) xs i 0 l
    ∙ ap (λ o. filter_map (numbered_segment facets z) (take i xs) ++ cons_option o []) (sym e))

pub picked-none : (facets : List Facet) (z : ℤ) (xs : List ℕ) (i : ℕ) (old new : List Segment) → i < length xs
    → None ≡ segment_of (vertices facets) z (get_or xs i 0, facet_at facets (get_or xs i 0)) → new ≡ old
    → old ≡ filter_map (numbered_segment facets z) (take i xs) → new ≡ filter_map (numbered_segment facets z) (take (i + 1) xs)
picked-none facets z xs i old new l e same before =
    same ∙ before
    ∙ sym (filter_map_more (numbered_segment facets z) xs i 0 l
    ∙ ap (λ o. filter_map (numbered_segment facets z) (take i xs) ++ cons_option o []) (sym e)
    ∙ append-nil (filter_map (numbered_segment facets z) (take i xs)))
