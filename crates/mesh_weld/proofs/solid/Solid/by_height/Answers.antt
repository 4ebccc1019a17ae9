use Rattle.mesh_weld.proofs.solid.Solid.by_height.Goals as goal

pub returns : goal.returns
returns g c = rw (← c.self.view_is, c.as_slice.ensures.value) c.self.invariant.0.order_is
