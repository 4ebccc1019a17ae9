use Rattle.mesh_weld.proofs.lemmas.Probing.{Summed}
use Rattle.contour.proofs.lemmas.LoopRays.{hit_of}
use Rattle.contour.proofs.loop_list.loop_ray.Given as goal

abbrev pub invariant-loop-segment : goal.invariant-loop-segment
invariant-loop-segment g l = Summed (hit_of l.s.facets l.c) l.list l.segment-index l.sum
