use Rattle.std.proofs.Common.{◌≡◌, sum_by, take}
use Rattle.build_book.specs.Places.{place_area}
use Rattle.build_book.proofs.places.total_area.Given as goal

abbrev pub invariant-loop-place : goal.invariant-loop-place
invariant-loop-place g l = l.sum ≡ sum_by place_area (take l.place-index l.places)
