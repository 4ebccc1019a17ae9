use Rattle.mesh_weld.proofs.lemmas.NamedMore.{no_more_named}
use Rattle.mesh_weld.proofs.names.Names.name.Goals as goal

pub loop-at-init : goal.loop-at-init
loop-at-init g c = no_more_named c.args.self.now c.args.kept.now
