use Rattle.std.proofs.Common.{◌≡◌, length}
use Rattle.raster.proofs.lemmas.Segs.{ArePushed}
use Rattle.raster.proofs.crossings.push_facets.Given as goal

abbrev pub invariant-loop-segment : goal.invariant-loop-segment
invariant-loop-segment g l =
    record {
      pushed : ArePushed l.s.facets l.z2 l.lattice l.list l.segment-index l.out;
      rows : length l.out ≡ length l.fn.out;
    }
