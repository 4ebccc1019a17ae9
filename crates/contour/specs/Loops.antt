-- The loops that the segments of a plane make.
-- - `follower list s`: the segment after s. Of the segments that start at its end node, it has the rank that s has among those
--   that end there.
-- - `loops list`: the cycles, each from its least facet, in order of these
-- - `AreLoops list found`: the same, without saying how they are found
use Rattle.std.specs.Prelude.{◌≡◌, ℕ, ◌-◌, ◌≤◌, take, drop, zero, suc, Bool, true, List, [], ◌∷◌, ◌++◌, length, map, Option, Some, None, filter, slice_get, ◌==◌, nat_le, if◌then◌else◌, flat_map, count_by}
use Rattle.std.specs.List.{list_all, position_or_len, AllByRecursion}
use Rattle.std.specs.List.Sorted.{IsStrictlyIncreasing}
use Rattle.geometry.specs.Facet.{Facet}
use Rattle.mesh_weld.specs.Solid.{facet_at}
use Rattle.plane_segments.specs.Node.{is_node}
use Rattle.plane_segments.specs.declared.segment.Segment.{Segment}
use Rattle.plane_segments.specs.Segment.{is_segment}

-- the rank of s among the segments that end at the same node
abbrev pub rank_at_end : List Segment → Segment → ℕ
rank_at_end list s = position_or_len (is_segment s) (filter (λ t. is_node t.to s.to) list)

-- the segment after s: of those that start where s ends, the one with the rank of s
abbrev pub follower : List Segment → Segment → Option Segment
follower list s = slice_get (filter (λ t. is_node t.from s.to) list) (rank_at_end list s)

-- each follower in turn, from s on, until first comes again
abbrev pub run_from : List Segment → Segment → ℕ → Segment → List Segment
run_from list first zero s = s ∷ []
run_from list first (suc more) s =
    s ∷ (elim (follower list s) [ None ↦ [] | Some t ↦ if is_segment t first then [] else run_from list first more t ])

-- the cycle that s is on, from s
abbrev pub cycle : List Segment → Segment → List Segment
cycle list s = run_from list s (length list) s

-- a segment whose facet is the least of its cycle
abbrev pub is_leader : List Segment → Segment → Bool
is_leader list s = list_all (λ t. nat_le s.facet t.facet) (cycle list s)

-- the cycles, each from its least facet, in order of these
abbrev pub loops : List Segment → List (List Segment)
loops list = map (cycle list) (filter (is_leader list) list)

-- the follower of each is the next, and that of the last is first
abbrev pub Closes : List Segment → Segment → List Segment → Type 0
Closes list first [] = ⊥
Closes list first (s ∷ []) = follower list s ≡ Some first
Closes list first (s ∷ t ∷ rest) = (follower list s ≡ Some t) × Closes list first (t ∷ rest)

abbrev pub IsCycle : List Segment → List Segment → Type 0
IsCycle list [] = ⊥
IsCycle list (s ∷ rest) = Closes list s (s ∷ rest)

abbrev pub first_facet : List Segment → ℕ
first_facet [] = 0
first_facet (s ∷ rest) = s.facet

abbrev pub is_from_least : List Segment → Bool
is_from_least loop = list_all (λ t. nat_le (first_facet loop) t.facet) loop

-- the number of segments of a facet
abbrev pub count_of : ℕ → List Segment → ℕ
count_of n list = count_by (λ s. s.facet == n) list

-- What loops are: each is a cycle, from its least facet; they are in order of these; each segment is in exactly one.
pub record AreLoops (list : List Segment) (found : List (List Segment)) : Type 0 where
  pub cycles : AllByRecursion (IsCycle list) found
  pub from_least : list_all is_from_least found ≡ true
  pub in_order : IsStrictlyIncreasing (map first_facet found)
  pub once : (n : ℕ) → count_of n (flat_map (λ loop. loop) found) ≡ count_of n list

-- the facets of a loop's segments
abbrev pub loop_facets : List Facet → List Segment → List Facet
loop_facets facets loop = map (λ s. facet_at facets s.facet) loop

-- ---- one flat list as a list of parts

-- the parts of a list that ends at these positions; the list begins at the position `at`
abbrev pub parts_from : {X : Type 0} → ℕ → List ℕ → List X → List (List X)
parts_from at [] xs = []
parts_from at (e ∷ ends) xs = take (e - at) xs ∷ parts_from e ends (drop (e - at) xs)

-- the parts begin at the position `at`, are in order, and the last ends at n
abbrev pub AreEnds : ℕ → List ℕ → ℕ → Type 0
AreEnds at [] n = at ≡ n
AreEnds at (e ∷ ends) n = (at ≤ e) × AreEnds e ends n

-- The positions at which the parts of a list with n elements end, except the last one, which ends with the list. An empty list
-- has no parts.
abbrev pub AreInnerEnds : List ℕ → ℕ → Type 0
AreInnerEnds inner zero = inner ≡ []
AreInnerEnds inner (suc n) = AreEnds 0 (inner ++ suc n ∷ []) (suc n)

-- the ends of all parts
abbrev pub all_ends : List ℕ → ℕ → List ℕ
all_ends inner zero = []
all_ends inner (suc n) = inner ++ suc n ∷ []

-- the position where the part with a number begins
abbrev pub start_of : ℕ → List ℕ → ℕ → ℕ
start_of at ends zero = at
start_of at [] (suc k) = at
start_of at (e ∷ ends) (suc k) = start_of e ends k
