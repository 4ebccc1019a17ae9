-- Outlines: loops as points, each to the nearest half-micrometre.
-- - `start_point`, `end_point`: the points at which a segment starts and ends
-- - `outlines`: the loops of a plane as points
-- - `IsStartOf`: what a start point is
use Rattle.std.specs.Prelude.{◌≡◌, ℤ, pos, List, map, Option, Some, None, find}
use Rattle.geometry.specs.Point.{half_micrometres_of}
use Rattle.geometry.specs.Facet.{Facet, Edge, half_edges}
use Rattle.exact_cut.specs.Cut.{Rises}
use Rattle.exact_cut.specs.CutPoint.{cut_x, cut_y, cut_d}
use Rattle.exact_cut.specs.PlanePoint.{IsNearest, passing_point}
use Rattle.exact_cut.specs.declared.plane_point.PlanePoint.{PlanePoint}
use Rattle.mesh_weld.specs.Solid.{facet_at, vertices}
use Rattle.plane_segments.specs.declared.segment.Segment.{Segment}
use Rattle.plane_segments.specs.Segment.{is_downward, is_upward, node_of, segments}
use Rattle.contour.specs.Loops.{loops}

-- the point at which an edge passes the height z downward, and the point at which one passes it upward
abbrev pub falling_point : ℤ → Edge → PlanePoint
falling_point z e = passing_point (half_micrometres_of e.to) (half_micrometres_of e.from) z

abbrev pub rising_point : ℤ → Edge → PlanePoint
rising_point z e = passing_point (half_micrometres_of e.from) (half_micrometres_of e.to) z

-- every segment has an edge, so the other case never comes
abbrev pub point_or_origin : (Edge → PlanePoint) → Option Edge → PlanePoint
point_or_origin f None = record { x2 = pos 0; y2 = pos 0 }
point_or_origin f (Some e) = f e

-- the point at which a segment starts: on its facet's edge down
abbrev pub start_point : List Facet → ℤ → Segment → PlanePoint
start_point facets z t = point_or_origin (falling_point z) (find (is_downward z) (half_edges (facet_at facets t.facet)))

-- the point at which it ends: on its facet's edge up
abbrev pub end_point : List Facet → ℤ → Segment → PlanePoint
end_point facets z t = point_or_origin (rising_point z) (find (is_upward z) (half_edges (facet_at facets t.facet)))

-- a loop as points, one for each of its segments
abbrev pub outline : List Facet → ℤ → List Segment → List PlanePoint
outline facets z loop = map (start_point facets z) loop

abbrev pub outlines : List Facet → ℤ → List (List PlanePoint)
outlines facets z = map (outline facets z) (loops (segments facets z))

-- the exact cut of an edge that passes the plane, at the segment's first node; each coordinate is the nearest to it
pub record IsStartOf (facets : List Facet) (z : ℤ) (t : Segment) (p : PlanePoint) : Type 0 where
  pub edge : Edge
  pub node : t.from ≡ node_of (vertices facets) edge
  pub falls : Rises (half_micrometres_of edge.to) (half_micrometres_of edge.from) z
  pub x : IsNearest (cut_x (half_micrometres_of edge.to) (half_micrometres_of edge.from) z)
      (cut_d (half_micrometres_of edge.to) (half_micrometres_of edge.from)) p.x2
  pub y : IsNearest (cut_y (half_micrometres_of edge.to) (half_micrometres_of edge.from) z)
      (cut_d (half_micrometres_of edge.to) (half_micrometres_of edge.from)) p.y2
