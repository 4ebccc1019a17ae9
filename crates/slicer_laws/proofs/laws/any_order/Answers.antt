use Rattle.std.proofs.Common.{◌≡◌, List, ap}
use Rattle.std.specs.Prelude.{IsPermutation}
use Rattle.geometry.specs.Point.{Point}
use Rattle.geometry.specs.Facet.{Facet, twice}
use Rattle.geometry.specs.Winding.{hit, hit_y, ray}
use Rattle.raster.specs.Rule.{is_inside}
use Rattle.slicer_laws.proofs.lemmas.Images.{same_areas, same_images}
use Rattle.raster.proofs.lemmas.Sweeps.{total-permutation}
use Rattle.slicer_laws.proofs.laws.any_order.Goals as goal

same_ray : (facets others : List Facet) → IsPermutation facets others → (c : Point) → ray others c ≡ ray facets c
same_ray facets others h c = total-permutation (λ t. hit (twice t) c) facets others h

pub returns-clause-rays : goal.returns-clause-rays
returns-clause-rays c = same_ray

pub returns-clause-rays_along_y : goal.returns-clause-rays_along_y
returns-clause-rays_along_y c = λ facets others h p. total-permutation (λ t. hit_y (twice t) p) facets others h

pub returns-clause-images : goal.returns-clause-images
returns-clause-images c = λ facets others h g rule.
    same_images g rule others facets (λ p. ap (is_inside rule) (same_ray facets others h p))

pub returns-clause-areas : goal.returns-clause-areas
returns-clause-areas c = λ facets others h g rule k.
    same_areas g rule others facets k (λ p. ap (is_inside rule) (same_ray facets others h p))
