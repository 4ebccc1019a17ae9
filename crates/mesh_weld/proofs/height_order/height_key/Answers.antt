use Rattle.std.proofs.Common.{◌∙◌, ap, ◌%◌}
use Rattle.std.proofs.lemmas.Nat.{mod-mul-add}
use Rattle.mesh_weld.specs.declared.packing.TheConstants.{HALF_WORD}
use Rattle.mesh_weld.proofs.height_order.height_key.Goals as goal

pub returns-clause-number : goal.returns-clause-number
returns-clause-number c = ap (λ n. n % HALF_WORD) c.packed.ensures ∙ mod-mul-add _ HALF_WORD c.args.number c.ranges.number.fits
