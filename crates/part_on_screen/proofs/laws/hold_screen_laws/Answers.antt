use Rattle.part_on_screen.proofs.lemmas.OneGrid.{grid-and-fault, one-fault, one-grid}
use Rattle.part_on_screen.proofs.lemmas.SomeGrid.{some-grid}
use Rattle.part_on_screen.proofs.lemmas.Standing.{parts-are-on-screen, points-stay-apart}
use Rattle.part_on_screen.proofs.lemmas.StretchedRays.{pixels-have-true-centres, rays-along-y-stretch, rays-from-equal-points, rays-from-whole-points, rays-stretch}
use Rattle.part_on_screen.proofs.laws.hold_screen_laws.Goals as goal

pub returns-clause-on_screen : goal.returns-clause-on_screen
returns-clause-on_screen c = parts-are-on-screen

pub returns-clause-one : goal.returns-clause-one
returns-clause-one c = λ s facets layer_height step. record {
  some = some-grid s facets layer_height step;
  one_grid = one-grid s facets layer_height;
  one_fault = one-fault s facets layer_height;
  not_both = grid-and-fault s facets layer_height;
}

pub returns-clause-apart : goal.returns-clause-apart
returns-clause-apart c = points-stay-apart

pub returns-clause-rays : goal.returns-clause-rays
returns-clause-rays c = rays-stretch

pub returns-clause-rays_along_y : goal.returns-clause-rays_along_y
returns-clause-rays_along_y c = rays-along-y-stretch

pub returns-clause-whole : goal.returns-clause-whole
returns-clause-whole c = rays-from-whole-points

pub returns-clause-equal : goal.returns-clause-equal
returns-clause-equal c = rays-from-equal-points

pub returns-clause-pixels : goal.returns-clause-pixels
returns-clause-pixels c = pixels-have-true-centres
