use Rattle.slicer_laws.proofs.lemmas.Boxes.{filled-box, ray-box}
use Rattle.slicer_laws.proofs.lemmas.BoxesAlongY.{ray_y-box}
use Rattle.slicer_laws.proofs.lemmas.ClosedBoxes.{box_is_closed}
use Rattle.slicer_laws.proofs.laws.box_is_half_open.Goals as goal

pub returns-clause-closed : goal.returns-clause-closed
returns-clause-closed c = box_is_closed

pub returns-clause-rays : goal.returns-clause-rays
returns-clause-rays c = ray-box

pub returns-clause-rays_along_y : goal.returns-clause-rays_along_y
returns-clause-rays_along_y c = ray_y-box

pub returns-clause-filled : goal.returns-clause-filled
returns-clause-filled c = filled-box
