use Rattle.slicer_laws.proofs.lemmas.Shells.{evenodd-areas, evenodd-voxels, nonzero-areas, nonzero-voxels, positive-areas, positive-voxels, ray-append, ray_y-append}
use Rattle.slicer_laws.proofs.laws.shells_add.Goals as goal

pub returns-clause-rays : goal.returns-clause-rays
returns-clause-rays c = ray-append

pub returns-clause-rays_along_y : goal.returns-clause-rays_along_y
returns-clause-rays_along_y c = ray_y-append

pub returns-clause-evenodd : goal.returns-clause-evenodd
returns-clause-evenodd c = evenodd-voxels

pub returns-clause-evenodd_areas : goal.returns-clause-evenodd_areas
returns-clause-evenodd_areas c = evenodd-areas

pub returns-clause-nonzero : goal.returns-clause-nonzero
returns-clause-nonzero c = nonzero-voxels

pub returns-clause-nonzero_areas : goal.returns-clause-nonzero_areas
returns-clause-nonzero_areas c = nonzero-areas

pub returns-clause-positive : goal.returns-clause-positive
returns-clause-positive c = positive-voxels

pub returns-clause-positive_areas : goal.returns-clause-positive_areas
returns-clause-positive_areas c = positive-areas
