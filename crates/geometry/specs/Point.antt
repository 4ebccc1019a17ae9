-- Points in space by whole coordinates: points of a mesh, in micrometres, and centres of voxels, in half-micrometres.
use Rattle.std.specs.Prelude.{ℕ, Bool, ◌&&◌, ◌||◌, ℤ, pos, ◌*ℤ◌, int_lt, List, ◌++◌, codes}
use Rattle.std.specs.Fmt.{signed_decimal}
use Rattle.std.specs.Ordering.{int_eq}
use Rattle.exact_int.specs.Bounds.{IsAtMost}
use Rattle.geometry.specs.declared.limits.TheConstants.{CENTRE_LIMIT, COORDINATE_LIMIT}

pub record Point : Type 0 where
  pub x : ℤ
  pub y : ℤ
  pub z : ℤ

abbrev pub origin : Point
origin = record { x = pos 0; y = pos 0; z = pos 0 }

-- each coordinate is at most `bound` from 0
abbrev pub IsWithin : ℕ → Point → Type 0
IsWithin bound p = IsAtMost bound p.x × IsAtMost bound p.y × IsAtMost bound p.z

-- a point of a mesh, in micrometres: each coordinate is at most 128 metres from 0
abbrev pub IsMeshPoint : Point → Type 0
IsMeshPoint p = IsWithin COORDINATE_LIMIT p

-- a centre, in half-micrometres
abbrev pub IsCentre : Point → Type 0
IsCentre p = IsWithin CENTRE_LIMIT p

-- a point given in micrometres, in half-micrometres
abbrev pub half_micrometres_of : Point → Point
half_micrometres_of p = record { x = pos 2 *ℤ p.x; y = pos 2 *ℤ p.y; z = pos 2 *ℤ p.z }

-- a point as it is written: its coordinates in micrometres
abbrev pub point_text : Point → List ℕ
point_text p = signed_decimal p.x ++ (codes " " ++ (signed_decimal p.y ++ (codes " " ++ signed_decimal p.z)))

-- the same coordinates
abbrev pub same : Point → Point → Bool
same p q = int_eq p.x q.x && (int_eq p.y q.y && int_eq p.z q.z)

-- the order of points: by x, then y, then z
abbrev pub is_before : Point → Point → Bool
is_before p q =
    int_lt p.x q.x
    || (int_eq p.x q.x && (int_lt p.y q.y || (int_eq p.y q.y && int_lt p.z q.z)))
