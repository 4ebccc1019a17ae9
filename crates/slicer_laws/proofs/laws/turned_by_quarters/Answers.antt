use Rattle.slicer_laws.proofs.lemmas.QuarterTurns.{closed-turned, rays-along-y-turn, rays-on-screens, rays-turn, x-becomes-y}
use Rattle.slicer_laws.proofs.lemmas.TurnedImages.{areas-turn, voxels-turn}
use Rattle.slicer_laws.proofs.laws.turned_by_quarters.Goals as goal

pub returns-clause-x_becomes_y : goal.returns-clause-x_becomes_y
returns-clause-x_becomes_y c = x-becomes-y

pub returns-clause-closed : goal.returns-clause-closed
returns-clause-closed c = closed-turned

pub returns-clause-rays : goal.returns-clause-rays
returns-clause-rays c = rays-turn

pub returns-clause-rays_along_y : goal.returns-clause-rays_along_y
returns-clause-rays_along_y c = rays-along-y-turn

pub returns-clause-on_screen : goal.returns-clause-on_screen
returns-clause-on_screen c = rays-on-screens

pub returns-clause-voxels : goal.returns-clause-voxels
returns-clause-voxels c = voxels-turn

pub returns-clause-areas : goal.returns-clause-areas
returns-clause-areas c = areas-turn
