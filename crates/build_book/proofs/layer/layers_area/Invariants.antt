use Rattle.std.proofs.Common.{◌≡◌, take}
use Rattle.build_book.specs.Layer.{layers_area}
use Rattle.build_book.proofs.layer.layers_area.Given as goal

abbrev pub invariant-loop-layer : goal.invariant-loop-layer
invariant-loop-layer g l = l.sum ≡ layers_area (take l.layer-index l.layers)
