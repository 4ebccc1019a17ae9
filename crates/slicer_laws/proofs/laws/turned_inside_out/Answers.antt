use Rattle.std.proofs.Common.{◌≡◌, List, ◌∙◌, ap}
use Rattle.raster.specs.declared.rule.Rule.TheVariants.{EvenOdd, NonZero}
use Rattle.geometry.specs.Facet.{Facet}
use Rattle.geometry.specs.Point.{Point}
use Rattle.geometry.specs.Winding.{ray}
use Rattle.raster.specs.Filler.{is_filled}
use Rattle.raster.specs.Rule.{is_inside}
use Rattle.slicer_laws.specs.InsideOut.{inside_out}
use Rattle.slicer_laws.proofs.lemmas.Images.{same_areas, same_images}
use Rattle.slicer_laws.proofs.lemmas.Turned.{ray-turned, ray_y-turned, evenodd-neg, nonzero-neg}
use Rattle.slicer_laws.proofs.laws.turned_inside_out.Goals as goal

evenodd-filled : (facets : List Facet) (p : Point) → is_filled EvenOdd (inside_out facets) p ≡ is_filled EvenOdd facets p
evenodd-filled facets p = ap (is_inside EvenOdd) (ray-turned facets p) ∙ evenodd-neg (ray facets p)

nonzero-filled : (facets : List Facet) (p : Point) → is_filled NonZero (inside_out facets) p ≡ is_filled NonZero facets p
nonzero-filled facets p = ap (is_inside NonZero) (ray-turned facets p) ∙ nonzero-neg (ray facets p)

pub returns-clause-rays : goal.returns-clause-rays
returns-clause-rays c = ray-turned

pub returns-clause-rays_along_y : goal.returns-clause-rays_along_y
returns-clause-rays_along_y c = ray_y-turned

pub returns-clause-evenodd : goal.returns-clause-evenodd
returns-clause-evenodd c = λ g facets. same_images g EvenOdd (inside_out facets) facets (evenodd-filled facets)

pub returns-clause-evenodd_areas : goal.returns-clause-evenodd_areas
returns-clause-evenodd_areas c = λ g facets k. same_areas g EvenOdd (inside_out facets) facets k (evenodd-filled facets)

pub returns-clause-nonzero : goal.returns-clause-nonzero
returns-clause-nonzero c = λ g facets. same_images g NonZero (inside_out facets) facets (nonzero-filled facets)

pub returns-clause-nonzero_areas : goal.returns-clause-nonzero_areas
returns-clause-nonzero_areas c = λ g facets k. same_areas g NonZero (inside_out facets) facets k (nonzero-filled facets)
