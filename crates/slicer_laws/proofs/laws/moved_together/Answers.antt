use Rattle.slicer_laws.proofs.lemmas.Moved.{areas-moved, images-moved, ray-moved, ray_y-moved}
use Rattle.slicer_laws.proofs.laws.moved_together.Goals as goal

pub returns-clause-rays : goal.returns-clause-rays
returns-clause-rays c = ray-moved

pub returns-clause-rays_along_y : goal.returns-clause-rays_along_y
returns-clause-rays_along_y c = ray_y-moved

pub returns-clause-images : goal.returns-clause-images
returns-clause-images c = images-moved

pub returns-clause-areas : goal.returns-clause-areas
returns-clause-areas c = areas-moved
