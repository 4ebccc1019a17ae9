use Rattle.raster.proofs.crossings.push.Goals as goal

pub returns-then-len-lt-IN_PLACE-clause-added : goal.returns-then-len-lt-IN_PLACE-clause-added
returns-then-len-lt-IN_PLACE-clause-added g c = c.push_reserved.ensures.items
