use Rattle.std.proofs.Common.{◌∙◌, rules, sym, w32}
use Rattle.std.proofs.lemmas.Int.{to_z-of_z}
use Rattle.mesh_weld.proofs.lemmas.Probing.{rays_agree}
use Rattle.mesh_weld.proofs.probing.probe.Goals as goal

pub returns-clause-ray : goal.returns-clause-ray
returns-clause-ray g c = to_z-of_z w32 c.crossings.result (search rules) ∙ c.crossings.ensures.value

pub returns-clause-ray_y : goal.returns-clause-ray_y
returns-clause-ray_y g c = to_z-of_z w32 c.crossings_along_y.result (search rules) ∙ c.crossings_along_y.ensures.value

pub returns-clause-agree : goal.returns-clause-agree
returns-clause-agree g c free =
    returns-clause-ray g c
    ∙ rays_agree c.args.solid.now.facets c.crossings.ensures.closed c.args.centre.now free
    ∙ sym (returns-clause-ray_y g c)
