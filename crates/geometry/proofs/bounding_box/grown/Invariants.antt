use Rattle.std.proofs.Common.{◌≡◌, take, fold, flat_map}
use Rattle.geometry.specs.BoundingBox.{greatest_of, least_of}
use Rattle.geometry.specs.Facet.{corners}
use Rattle.geometry.proofs.bounding_box.grown.Given as goal

abbrev pub invariant-loop-facet : goal.invariant-loop-facet
invariant-loop-facet l = record {
  least_is : l.least ≡ fold least_of l.fn.low (flat_map corners (take l.facet-index l.facets));
  greatest_is : l.greatest ≡ fold greatest_of l.fn.high (flat_map corners (take l.facet-index l.facets));
}
