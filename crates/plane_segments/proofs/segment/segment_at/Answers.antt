use Rattle.std.proofs.lemmas.Int.{to_z-of_z}
use Rattle.plane_segments.proofs.segment.segment_at.Goals as goal

pub returns-clause-some : goal.returns-clause-some
returns-clause-some g c = let fits = c.ranges.z2 in simp to_z-of_z at c.segment_in.ensures.some
