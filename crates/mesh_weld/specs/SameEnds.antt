-- Counts of half-edges with the same two ends, and how one more half-edge changes them.
use Rattle.std.specs.Prelude.{◌+◌, cond, nat_lt, min, max}
use Rattle.mesh_weld.specs.declared.half_edge.HalfEdge.{HalfEdge}
use Rattle.mesh_weld.specs.declared.same_ends.SameEnds.{SameEnds}

-- the counts with one more half-edge between their ends
abbrev pub counted : SameEnds → HalfEdge → SameEnds
counted run half_edge =
    record run {
      there = run.there + cond (nat_lt half_edge.from half_edge.to) 1 0;
      back = run.back + cond (nat_lt half_edge.to half_edge.from) 1 0;
    }

-- the ends of a half-edge before any is counted
abbrev pub started : HalfEdge → SameEnds
started half_edge = record { low = min half_edge.from half_edge.to; high = max half_edge.from half_edge.to; there = 0; back = 0 }
