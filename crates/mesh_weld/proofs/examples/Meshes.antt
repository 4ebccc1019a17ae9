-- Worked meshes: closed or not, and what welding makes of them.
use Rattle.std.proofs.Common.{◌≡◌, List, [], ◌∷◌, ◌++◌, refl, drop}
use Rattle.std.specs.Prelude.{pos}
use Rattle.geometry.proofs.examples.Meshes.{at, cube, octahedron, box_with_a_pair}
use Rattle.mesh_weld.proofs.lemmas.Edges.{IsBalanced-by_edges, least-by_edges}
use Rattle.geometry.specs.Facet.{Facet, facet_with, edge}
use Rattle.mesh_weld.specs.Balance.{IsBalanced, IsLeastOpen}
use Rattle.mesh_weld.specs.Solid.{solid_of, vertices}

pub box_closed : IsBalanced (cube 0 2)
box_closed = IsBalanced-by_edges (cube 0 2) refl

pair_closed : IsBalanced box_with_a_pair
pair_closed = IsBalanced-by_edges box_with_a_pair refl

octahedron_closed : IsBalanced octahedron
octahedron_closed = IsBalanced-by_edges octahedron refl

-- a box without its first facet
abbrev pub open_box : List Facet
open_box = drop 1 (cube 0 2)

pub open_edge : IsLeastOpen open_box (at (pos 0) (pos 0) (pos 0)) (at (pos 0) (pos 2) (pos 0)) 0 1
open_edge =
    record {
      in_order = refl;
      there_is = refl;
      back_is = refl;
      differ = λ e. cc;
      least = least-by_edges open_box (edge (at (pos 0) (pos 0) (pos 0)) (at (pos 0) (pos 2) (pos 0))) refl;
    }

one_dropped : (solid_of (cube 0 2 ++ facet_with (at (pos 0) (pos 0) (pos 0)) (at (pos 0) (pos 0) (pos 0)) (at (pos 2) (pos 0) (pos 0)) ∷ []))
    ≡ record { facets = cube 0 2; dropped = 1 }
one_dropped = refl

box_vertices : vertices (cube 0 2)
    ≡ at (pos 0) (pos 0) (pos 0) ∷ at (pos 0) (pos 0) (pos 2) ∷ at (pos 0) (pos 2) (pos 0) ∷ at (pos 0) (pos 2) (pos 2)
    ∷ at (pos 2) (pos 0) (pos 0) ∷ at (pos 2) (pos 0) (pos 2) ∷ at (pos 2) (pos 2) (pos 0) ∷ at (pos 2) (pos 2) (pos 2) ∷ []
box_vertices = refl
