-- A facet by its corners, in order, and its three half-edges. An edge is directed: its two ends are in order. A
-- half-edge is one occurrence of an edge in a facet: a mesh has three half-edges per facet, and an edge may occur
-- several times.
use Rattle.std.specs.Prelude.{◌≡◌, ℕ, zero, suc, List, [], ◌∷◌, length, slice_index_or, flat_map, ℤ, refl}
use Rattle.std.specs.Int.{int_min, int_max}
use Rattle.std.proofs.Common.{subst}
use Rattle.geometry.specs.Point.{Point, origin, half_micrometres_of}

pub record Facet : Type 0 where
  pub a : Point
  pub b : Point
  pub c : Point

-- a directed edge, by its two ends
pub record Edge : Type 0 where
  pub from : Point
  pub to : Point

abbrev pub corners : Facet → List Point
corners t = t.a ∷ t.b ∷ t.c ∷ []

abbrev pub edge : Point → Point → Edge
edge u v = record { from = u; to = v }

-- half-edge 0 runs from corner 0 to 1, half-edge 1 from 1 to 2, half-edge 2 from 2 to 0
abbrev pub half_edges : Facet → List Edge
half_edges t = edge t.a t.b ∷ edge t.b t.c ∷ edge t.c t.a ∷ []

abbrev pub facet_with : Point → Point → Point → Facet
facet_with p q r = record { a = p; b = q; c = r }

-- corner 0, 1 or 2
abbrev pub corner : Facet → ℕ → Point
corner t zero = t.a
corner t (suc zero) = t.b
corner t (suc (suc n)) = t.c

-- the least and the greatest height of a facet's corners
abbrev pub least_z : Facet → ℤ
least_z t = int_min (int_min t.a.z t.b.z) t.c.z

abbrev pub greatest_z : Facet → ℤ
greatest_z t = int_max (int_max t.a.z t.b.z) t.c.z

-- the half-edges of all facets, in order, three per facet
abbrev pub edges : List Facet → List Edge
edges facets = flat_map half_edges facets

-- a facet given in micrometres, in half-micrometres
abbrev pub twice : Facet → Facet
twice t = facet_with (half_micrometres_of t.a) (half_micrometres_of t.b) (half_micrometres_of t.c)

-- the facet of a list of three corners
abbrev pub facet_from : List Point → Facet
facet_from ps =
    facet_with (slice_index_or ps 0 origin) (slice_index_or ps 1 origin) (slice_index_or ps 2 origin)

abbrev IsNotThree : ℕ → Type 0
IsNotThree zero = Unit {0}
IsNotThree (suc zero) = Unit {0}
IsNotThree (suc (suc zero)) = Unit {0}
IsNotThree (suc (suc (suc zero))) = ⊥
IsNotThree (suc (suc (suc (suc n)))) = Unit {0}

-- the corners of the facet of three corners are those three
pub corners-facet_from : (ps : List Point) → length ps ≡ 3 → corners (facet_from ps) ≡ ps
corners-facet_from [] h = absurd (subst IsNotThree h tt)
corners-facet_from (p ∷ []) h = absurd (subst IsNotThree h tt)
corners-facet_from (p ∷ q ∷ []) h = absurd (subst IsNotThree h tt)
corners-facet_from (p ∷ q ∷ r ∷ []) h = refl
corners-facet_from (p ∷ q ∷ r ∷ s ∷ ps) h = absurd (subst IsNotThree h tt)
