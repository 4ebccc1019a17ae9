-- The meshes of the worked examples, and the texts of their files.
use Rattle.std.specs.Prelude.{ℕ, ◌+◌, ◌/◌, ◌%◌, List, [], ◌∷◌, ◌++◌, flat_map, map, ℤ, pos, negsuc, nat_abs, codes}
use Rattle.std.specs.Int.{is_negative}
use Rattle.std.specs.Prelude.{if◌then◌else◌}
use Rattle.geometry.specs.Point.{Point}
use Rattle.geometry.specs.Facet.{Facet, facet_with}

abbrev pub at : ℤ → ℤ → ℤ → Point
at x y z = record { x = x; y = y; z = z }

abbrev pub box : Point → Point → List Facet
box p q =
    facet_with o y xy ∷ facet_with o xy x ∷ facet_with z xz xyz ∷ facet_with z xyz yz
    ∷ facet_with o x xz ∷ facet_with o xz z ∷ facet_with y yz xyz ∷ facet_with y xyz xy
    ∷ facet_with o z yz ∷ facet_with o yz y ∷ facet_with x xy xyz ∷ facet_with x xyz xz ∷ []
  where
    o : Point
    o = p

    x : Point
    x = at q.x p.y p.z

    y : Point
    y = at p.x q.y p.z

    z : Point
    z = at p.x p.y q.z

    xy : Point
    xy = at q.x q.y p.z

    xz : Point
    xz = at q.x p.y q.z

    yz : Point
    yz = at p.x q.y q.z

    xyz : Point
    xyz = q

abbrev pub cube : ℕ → ℕ → List Facet
cube m n = box (at (pos m) (pos m) (pos m)) (at (pos n) (pos n) (pos n))

abbrev pub inside_out : List Facet → List Facet
inside_out facets = map (λ t. facet_with t.a t.c t.b) facets

abbrev pub octahedron : List Facet
octahedron =
    facet_with e n t ∷ facet_with n w t ∷ facet_with w s t ∷ facet_with s e t
    ∷ facet_with n e b ∷ facet_with w n b ∷ facet_with s w b ∷ facet_with e s b ∷ []
  where
    e : Point
    e = at (pos 2) (pos 0) (pos 0)

    n : Point
    n = at (pos 0) (pos 2) (pos 0)

    w : Point
    w = at (negsuc 1) (pos 0) (pos 0)

    s : Point
    s = at (pos 0) (negsuc 1) (pos 0)

    t : Point
    t = at (pos 0) (pos 0) (pos 2)

    b : Point
    b = at (pos 0) (pos 0) (negsuc 1)

-- a box with two more facets: a triangle, and the same triangle turned over
abbrev pub box_with_a_pair : List Facet
box_with_a_pair =
    cube 0 2 ++ facet_with (at (pos 2) (pos 0) (pos 0)) (at (pos 2) (pos 2) (pos 0)) (at (pos 2) (pos 2) (pos 2))
    ∷ facet_with (at (pos 2) (pos 0) (pos 0)) (at (pos 2) (pos 2) (pos 2)) (at (pos 2) (pos 2) (pos 0)) ∷ []

abbrev pub two_boxes : List Facet
two_boxes = cube 0 4 ++ cube 2 6

abbrev pub digit : ℕ → List ℕ
digit n = (48 + n) ∷ []

-- micrometres as a number of millimetres with three decimals, for magnitudes below 10 millimetres
abbrev pub millimetres : ℤ → List ℕ
millimetres z =
    (if is_negative z then codes "-" else [])
    ++ digit (nat_abs z / 1000) ++ codes "." ++ digit (nat_abs z / 100 % 10) ++ digit (nat_abs z / 10 % 10) ++ digit (nat_abs z % 10)

abbrev pub vertex_text : Point → List ℕ
vertex_text p = codes "vertex " ++ millimetres p.x ++ codes " " ++ millimetres p.y ++ codes " " ++ millimetres p.z ++ codes "\n"

abbrev pub facet_text : Facet → List ℕ
facet_text t =
    codes "facet normal 0 0 0\nouter loop\n" ++ vertex_text t.a ++ vertex_text t.b ++ vertex_text t.c ++ codes "endloop\nendfacet\n"

abbrev pub file_text : List Facet → List ℕ
file_text facets = codes "solid t\n" ++ flat_map facet_text facets ++ codes "endsolid t\n"
