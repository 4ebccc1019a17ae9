-- The program's points in half-micrometres, as points.
use Rattle.geometry.specs.Point.{Point}
use Rattle.exact_cut.specs.declared.cut.half_point.HalfPoint.{HalfPoint}

abbrev pub point_of : HalfPoint → Point
point_of p = record { x = p.x; y = p.y; z = p.z }
