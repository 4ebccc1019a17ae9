-- How segments are linked: by the numbers of the edges at which they start and end, and by slots, their positions in the
-- plane's list. The segments that start at an edge form a linked list: `heads` has its first slot, `after` the next one.
use Rattle.std.specs.Prelude.{◌≡◌, ℕ, ◌+◌, ◌<◌, ◌≤◌, ◌==◌, List, [], ◌∷◌, length, map, slice_index, slice_index_or, count_by, take, drop, Bool, true, false, nat_le, Some, if◌then◌else◌}
use Rattle.std.specs.List.{AllByRecursion, list_all}
use Rattle.std.specs.List.Sorted.{IsStrictlyIncreasing}
use Rattle.geometry.specs.Facet.{Facet}
use Rattle.mesh_weld.specs.EdgeNumbers.{AreEdgeNumbers}
use Rattle.mesh_weld.specs.Solid.{triples}
use Rattle.plane_segments.specs.Node.{Node}
use Rattle.plane_segments.specs.declared.segment.Segment.{Segment}
use Rattle.plane_segments.specs.Segment.{no_segment}
use Rattle.contour.specs.declared.linker.TheConstants.{NONE}
use Rattle.contour.specs.EdgeTable.{AreDistinct}
use Rattle.contour.specs.Loops.{AreEnds, IsCycle, count_of, first_facet, follower, is_from_least, parts_from}

-- the sum of a node's ends
abbrev pub end_sum : Node → ℕ
end_sum n = n.low + n.high

-- The number of the edge that is this node, for a facet by the numbers of its corners and of its edges. Its corners are
-- distinct, so no two of its edges have the same sum of their ends.
abbrev pub edge_at_node : List ℕ → List ℕ → Node → ℕ
edge_at_node corners edges node =
    if end_sum node == slice_index corners 0 + slice_index corners 1 then slice_index edges 0
    else (if end_sum node == slice_index corners 1 + slice_index corners 2 then slice_index edges 1 else slice_index edges 2)

abbrev pub edge_of_facet : List Facet → List (List ℕ) → ℕ → Node → ℕ
edge_of_facet facets numbers facet node =
    edge_at_node (slice_index_or (triples facets) facet []) (slice_index_or numbers facet []) node

abbrev pub start_edge : List Facet → List (List ℕ) → Segment → ℕ
start_edge facets numbers t = edge_of_facet facets numbers t.facet t.from

abbrev pub finish_edge : List Facet → List (List ℕ) → Segment → ℕ
finish_edge facets numbers t = edge_of_facet facets numbers t.facet t.to

-- the numbers of the edges at which segments start and end
pub record AreSegmentEdges (facets : List Facet) (list : List Segment) (starts finishes : List ℕ) : Type 0 where
  pub numbers : List (List ℕ)
  pub count : ℕ
  pub numbered : AreEdgeNumbers facets numbers count
  pub starts_are : starts ≡ map (start_edge facets numbers) list
  pub finishes_are : finishes ≡ map (finish_edge facets numbers) list

-- the numbers of edges in a list, by their positions in a table
pub record AreNumbers (edges list numbers : List ℕ) : Type 0 where
  pub size : length numbers ≡ length list
  pub within : (j : ℕ) → j < length list → slice_index numbers j < length edges
  pub is : (j : ℕ) → j < length list → slice_index edges (slice_index numbers j) ≡ slice_index list j

-- starts and finishes by the numbers that a table gives to edges
pub record AreRenumbered (starts finishes edges new_starts new_finishes : List ℕ) : Type 0 where
  pub distinct : AreDistinct edges
  pub starts_are : AreNumbers edges starts new_starts
  pub finishes_are : AreNumbers edges finishes new_finishes

-- the slots of an edge: its positions in a list of edges, with n as the first slot
abbrev pub slots : ℕ → ℕ → List ℕ → List ℕ
slots n e [] = []
slots n e (x ∷ xs) = if x == e then n ∷ slots (n + 1) e xs else slots (n + 1) e xs

-- each linked list is empty
abbrev pub IsClear : List ℕ → Type 0
IsClear heads = (e : ℕ) → slice_index_or heads e NONE ≡ NONE

-- the head of each edge is its first slot among the starts from the n-th on
abbrev pub HasFirsts : List ℕ → ℕ → List ℕ → Type 0
HasFirsts heads n starts = (e : ℕ) → slice_index_or heads e NONE ≡ slice_index_or (slots n e (drop n starts)) 0 NONE

-- each slot from the n-th on has the next slot of its edge
abbrev pub HasNexts : List ℕ → ℕ → List ℕ → Type 0
HasNexts after n starts =
    (j : ℕ) → n ≤ j → j < length starts
    → slice_index_or after j NONE ≡ slice_index_or (slots (j + 1) (slice_index starts j) (drop (j + 1) starts)) 0 NONE

-- the slot of the k-th start at an edge, if k of the first n segments end there
abbrev pub slot_after : List ℕ → List ℕ → ℕ → ℕ → ℕ
slot_after starts finishes n e = slice_index_or (slots 0 e starts) (count_by (λ f. f == e) (take n finishes)) NONE

-- the head of each edge is the first slot that is left after the first n pops
abbrev pub HasLeft : List ℕ → List ℕ → List ℕ → ℕ → Type 0
HasLeft heads starts finishes n = (e : ℕ) → slice_index_or heads e NONE ≡ slot_after starts finishes n e

-- the first n segments have the slots that they popped
abbrev pub ArePopped : List ℕ → List ℕ → List ℕ → ℕ → Type 0
ArePopped next starts finishes n =
    (j : ℕ) → j < n → slice_index_or next j NONE ≡ slot_after starts finishes j (slice_index finishes j)

-- each segment has the slot of its follower, and no two have the same
pub record AreLinks (list : List Segment) (next : List ℕ) : Type 0 where
  pub size : length next ≡ length list
  pub within : (j : ℕ) → j < length list → slice_index_or next j NONE < length list
  pub follows : (j : ℕ) (d : Segment) → j < length list
      → follower list (slice_index_or list j d) ≡ Some (slice_index_or list (slice_index_or next j NONE) d)
  pub one : (i j : ℕ) → i < length list → j < length list → slice_index_or next i NONE ≡ slice_index_or next j NONE → i ≡ j

abbrev pub facet_number : List Segment → ℕ → ℕ
facet_number list j = (slice_index_or list j no_segment).facet

-- later segments are of later facets
abbrev pub InFacetOrder : List Segment → Type 0
InFacetOrder list = (i j : ℕ) → i < j → j < length list → facet_number list i < facet_number list j

-- the slot has been visited; a slot beyond the flags counts as visited
abbrev pub is_visited : List Bool → ℕ → Bool
is_visited visited j = slice_index_or visited j true

-- the segments whose slots have not been visited
abbrev pub unvisited : List Bool → List Segment → List Segment
unvisited [] list = list
unvisited (b ∷ visited) [] = []
unvisited (b ∷ visited) (x ∷ list) = if b then unvisited visited list else x ∷ unvisited visited list

-- no loop has been visited in part: if a slot is not visited, its follower is not
abbrev pub KeepsLoopsWhole : List Segment → List ℕ → List Bool → Type 0
KeepsLoopsWhole list next visited =
    (j : ℕ) → j < length list → is_visited visited j ≡ false → is_visited visited (slice_index_or next j NONE) ≡ false

-- the whole loop from the slot `first` has been visited, and nothing else
pub record IsTracedLoop (list : List Segment) (next : List ℕ) (first : ℕ) (before after : List Bool) (part : List Segment) : Type 0 where
  pub cycle : IsCycle list part
  pub head : first_facet part ≡ facet_number list first
  pub least : list_all (λ t. nat_le (facet_number list first) t.facet) part ≡ true
  pub once : (n : ℕ) → count_of n part + count_of n (unvisited after list) ≡ count_of n (unvisited before list)
  pub whole : KeepsLoopsWhole list next after
  pub kept : (j : ℕ) → is_visited before j ≡ true → is_visited after j ≡ true
  pub done : is_visited after first ≡ true

-- The loops that have a segment before the slot `first` have been traced, one after another. Exactly their slots have been
-- visited.
pub record AreTraced (list : List Segment) (next : List ℕ) (first : ℕ) (visited : List Bool) (flat : List Segment) (ends : List ℕ) : Type 0 where
  pub ends_are : AreEnds 0 ends (length flat)
  pub size : length visited ≡ length list
  pub whole : KeepsLoopsWhole list next visited
  pub earlier : (j : ℕ) → j < first → is_visited visited j ≡ true
  pub cycles : AllByRecursion (IsCycle list) (parts_from 0 ends flat)
  pub least : list_all is_from_least (parts_from 0 ends flat) ≡ true
  pub rising : IsStrictlyIncreasing (map first_facet (parts_from 0 ends flat))
  pub below : (k j : ℕ) → k < length (map first_facet (parts_from 0 ends flat)) → first ≤ j → j < length list
      → slice_index (map first_facet (parts_from 0 ends flat)) k < facet_number list j
  pub once : (n : ℕ) → count_of n flat + count_of n (unvisited visited list) ≡ count_of n list
