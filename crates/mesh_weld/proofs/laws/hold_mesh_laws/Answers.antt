use Rattle.mesh_weld.proofs.lemmas.Degenerate.{dropped-is, degenerate_closed, degenerate_hit, degenerate_hit_y, kept_ray, kept_ray_y, kept_balanced, balanced_by_kept}
use Rattle.mesh_weld.proofs.lemmas.SomeNumbers.{some_edge_numbers}
use Rattle.mesh_weld.proofs.lemmas.Sums.{amounts_cancel, winds_cancel, winds_along_y_cancel, ray_from_left}
use Rattle.mesh_weld.proofs.lemmas.Probing.{rays_agree, steps_keep_rays}
use Rattle.mesh_weld.proofs.laws.hold_mesh_laws.Goals as goal

pub returns-clause-amounts : goal.returns-clause-amounts
returns-clause-amounts c = amounts_cancel

pub returns-clause-winds : goal.returns-clause-winds
returns-clause-winds c = winds_cancel

pub returns-clause-winds_along_y : goal.returns-clause-winds_along_y
returns-clause-winds_along_y c = winds_along_y_cancel

pub returns-clause-from_the_left : goal.returns-clause-from_the_left
returns-clause-from_the_left c = ray_from_left

pub returns-clause-degenerate : goal.returns-clause-degenerate
returns-clause-degenerate c = λ t h p. let e = dropped-is t h in (degenerate_hit t e p, degenerate_hit_y t e p)

pub returns-clause-own : goal.returns-clause-own
returns-clause-own c = λ t h. degenerate_closed t (dropped-is t h)

pub returns-clause-kept : goal.returns-clause-kept
returns-clause-kept c = λ facets p. (kept_ray facets p, kept_ray_y facets p)

pub returns-clause-closed : goal.returns-clause-closed
returns-clause-closed c = λ facets. (balanced_by_kept facets, kept_balanced facets)

pub returns-clause-numbered : goal.returns-clause-numbered
returns-clause-numbered c = some_edge_numbers

pub returns-clause-agree : goal.returns-clause-agree
returns-clause-agree c = rays_agree

pub returns-clause-steps : goal.returns-clause-steps
returns-clause-steps c = steps_keep_rays
