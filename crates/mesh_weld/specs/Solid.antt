-- A closed mesh as its kept facets and the number of dropped ones; its vertices and their numbers follow from these.
use Rattle.std.specs.Prelude.{◌≡◌, ℕ, Bool, true, not, ◌&&◌, ◌||◌, List, [], ◌∷◌, length, map, filter, flat_map, take, drop, count_by, IsPermutation, ℤ, ◌≤ℤ◌, if◌then◌else◌, slice_index, slice_index_or, nat_lt, int_lt}
use Rattle.std.specs.Ordering.{int_eq}
use Rattle.std.specs.List.{All, position_or_len, range_with_len, AllPairs}
use Rattle.geometry.specs.Point.{Point, origin, same, is_before}
use Rattle.geometry.specs.Facet.{Facet, corners, facet_with, greatest_z, least_z}
use Rattle.mesh_weld.specs.declared.height_order.HeightRange.{HeightRange}
use Rattle.mesh_weld.specs.declared.height_order.TheConstants.{BLOCK_LEN}

-- the facets that are kept, and how many are dropped
pub record Solid : Type 0 where
  pub facets : List Facet
  pub dropped : ℕ

-- a degenerate facet, one with two equal corners, is dropped
abbrev pub is_kept : Facet → Bool
is_kept t = not (same t.a t.b || same t.b t.c || same t.c t.a)

-- none of the facets is degenerate
abbrev pub HaveDistinctCorners : List Facet → Type 0
HaveDistinctCorners facets = All (λ t. is_kept t ≡ true) facets

-- the facets that are not degenerate, in order
abbrev pub kept_facets : List Facet → List Facet
kept_facets facets = filter is_kept facets

-- the solid that facets make, if they are closed
abbrev pub solid_of : List Facet → Solid
solid_of facets = record { facets = kept_facets facets; dropped = count_by (λ t. not (is_kept t)) facets }

-- an ascending list with one more point, unless the list has this point
abbrev pub with_point : Point → List Point → List Point
with_point p [] = p ∷ []
with_point p (q ∷ qs) =
    if same p q then q ∷ qs else (if is_before p q then p ∷ q ∷ qs else q ∷ with_point p qs)

-- the distinct points of a list in ascending order
abbrev pub in_order : List Point → List Point
in_order [] = []
in_order (p ∷ ps) = with_point p (in_order ps)

-- the distinct corners in ascending order
abbrev pub vertices : List Facet → List Point
vertices facets = in_order (flat_map corners facets)

-- the number of a point: its index in a list
abbrev pub number_of : List Point → Point → ℕ
number_of points p = position_or_len (same p) points

-- each facet by the numbers of its corners
abbrev pub triples : List Facet → List (List ℕ)
triples facets = map (λ t. map (number_of (vertices facets)) (corners t)) facets

-- the facet whose corners have these numbers among the points
abbrev pub facet_by : List Point → List ℕ → Facet
facet_by points numbers =
    facet_with (slice_index_or points (slice_index numbers 0) origin) (slice_index_or points (slice_index numbers 1) origin)
    (slice_index_or points (slice_index numbers 2) origin)

-- facets by the numbers of their corners
abbrev pub facets_by : List Point → List (List ℕ) → List Facet
facets_by points numbers = map (facet_by points) numbers

-- the heights of a facet's lowest and highest corner
abbrev pub height_range : Facet → HeightRange
height_range t = record { low = least_z t; high = greatest_z t }

abbrev pub height_ranges : List Facet → List HeightRange
height_ranges facets = map height_range facets

abbrev pub facet_at : List Facet → ℕ → Facet
facet_at facets n = slice_index_or facets n (facet_with origin origin origin)

-- whether facet m comes before facet n: by least z, and by number if these are equal
abbrev pub is_lower : List Facet → ℕ → ℕ → Bool
is_lower facets m n =
    int_lt (least_z (facet_at facets m)) (least_z (facet_at facets n))
    || (int_eq (least_z (facet_at facets m)) (least_z (facet_at facets n)) && nat_lt m n)

-- the numbers of all facets in that order
pub record IsByHeight (facets : List Facet) (numbers : List ℕ) : Type 0 where
  pub all : IsPermutation (range_with_len 0 (length facets)) numbers
  pub ordered : AllPairs (λ m n. is_lower facets m n ≡ true) numbers

-- the height of the highest corner of the facet with a number
abbrev pub top_of : List Facet → ℕ → ℤ
top_of facets n = greatest_z (facet_at facets n)

-- the greatest of the heights of some numbers: none is above it, and nothing lower is so
pub record IsTop (height : ℕ → ℤ) (numbers : List ℕ) (top : ℤ) : Type 0 where
  pub within : All (λ n. height n ≤ℤ top) numbers
  pub least : (z : ℤ) → All (λ n. height n ≤ℤ z) numbers → top ≤ℤ z

-- the top of each block of the order: of as many of its numbers as a block has, then of as many of the next, and so on
abbrev pub AreBlockTops : (ℕ → ℤ) → List ℕ → List ℤ → Type 0
AreBlockTops height order [] = order ≡ []
AreBlockTops height order (top ∷ tops) = IsTop height (take BLOCK_LEN order) top × AreBlockTops height (drop BLOCK_LEN order) tops
