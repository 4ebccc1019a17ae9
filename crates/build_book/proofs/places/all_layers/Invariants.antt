use Rattle.std.proofs.Common.{◌≡◌, ◌++◌}
use Rattle.std.specs.Prelude.{flat_map, option_to_list}
use Rattle.std.specs.Vec.Iter.{into_iter_items}
use Rattle.build_book.proofs.places.all_layers.Given as goal

abbrev pub invariant-loop-place : goal.invariant-loop-place
invariant-loop-place g l = record {
  front : l.yielded ++ into_iter_items l.place-iterator ≡ into_iter_items l.initial.place-iterator;
  kept : l.layers.items ≡ flat_map option_to_list l.yielded;
}
