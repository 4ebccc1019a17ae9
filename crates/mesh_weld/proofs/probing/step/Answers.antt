use Rattle.std.proofs.Common.{◌∙◌, rules, sym, w32}
use Rattle.std.proofs.lemmas.Int.{to_z-of_z}
use Rattle.mesh_weld.proofs.lemmas.Probing.{steps_keep_rays}
use Rattle.mesh_weld.proofs.probing.step.Goals as goal

pub returns-clause-start : goal.returns-clause-start
returns-clause-start g c = to_z-of_z w32 c.crossings.result (search rules) ∙ c.crossings.ensures.value

pub returns-clause-end : goal.returns-clause-end
returns-clause-end g c = to_z-of_z w32 c.crossings-2.result (search rules) ∙ c.crossings-2.ensures.value

pub returns-clause-no_leak : goal.returns-clause-no_leak
returns-clause-no_leak g c free =
    returns-clause-start g c
    ∙ steps_keep_rays c.args.solid.now.facets c.crossings.ensures.closed c.args.start.now c.args.end.now c.requires.level c.requires.straight free
    ∙ sym (returns-clause-end g c)
