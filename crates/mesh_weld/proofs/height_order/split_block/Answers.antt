use Rattle.std.proofs.Common.{◌∙◌, ap, drop, take}
use Rattle.std.proofs.lemmas.List.{drop_min, take_min}
use Rattle.mesh_weld.specs.declared.height_order.TheConstants.{BLOCK_LEN}
use Rattle.mesh_weld.proofs.height_order.split_block.Goals as goal

pub returns-clause-block : goal.returns-clause-block
returns-clause-block c = c.split_at.ensures.front ∙ ap (λ n. take n c.args.order.now) c.min.ensures ∙ take_min BLOCK_LEN c.args.order.now

pub returns-clause-behind : goal.returns-clause-behind
returns-clause-behind c = c.split_at.ensures.back ∙ ap (λ n. drop n c.args.order.now) c.min.ensures ∙ drop_min BLOCK_LEN c.args.order.now
