use Rattle.std.proofs.Common.{◌∙◌}
use Rattle.mesh_weld.proofs.solid.Solid.triples.Goals as goal

pub returns : goal.returns
returns g c = rw (← c.self.view_is) (c.as_slice.ensures.value ∙ c.self.invariant.0.numbers_are)
