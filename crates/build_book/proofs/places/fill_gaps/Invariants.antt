use Rattle.std.proofs.Common.{◌≡◌, ◌++◌, ◌+◌, ◌≤◌, length}
use Rattle.std.specs.Vec.Iter.{into_iter_items}
use Rattle.build_book.specs.Places.{with_layers, filed_count}
use Rattle.build_book.proofs.places.fill_gaps.Given as goal

abbrev pub invariant-loop-layer : goal.invariant-loop-layer
invariant-loop-layer g l = record {
  front : l.yielded ++ into_iter_items l.layer-iterator ≡ into_iter_items l.initial.layer-iterator;
  left : l.at + length (into_iter_items l.layer-iterator) ≤ length l.places;
  here : l.at ≡ l.first + length l.yielded;
  few : l.made ≤ length l.yielded;
  places : l.places ≡ with_layers l.first l.yielded l.initial.places;
  made : l.made + filed_count l.initial.places ≡ filed_count l.places;
}
