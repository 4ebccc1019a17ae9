use Rattle.build_book.specs.Places.{place_area}
use Rattle.build_book.proofs.lemmas.Totals.{more_sum, more_fits, all_sum}
use Rattle.build_book.proofs.places.total_area.Goals as goal

pub overflow_add-sum : goal.overflow_add-sum
overflow_add-sum g c =
    more_fits place_area c.args.places.now c.loop-place.place-index c.place-item.result c.loop-place.sum c.place_area-sum.result
    c.loop-place.invariant c.place_area-sum.ensures c.place-item.is c.loop-place-test.true c.requires

pub loop-place-preserved : goal.loop-place-preserved
loop-place-preserved g c =
    more_sum place_area c.args.places.now c.loop-place.place-index c.place-item.result c.loop-place.sum c.place_area-sum.result
    c.loop-place.invariant c.place_area-sum.ensures c.place-item.is c.loop-place-test.true

pub returns : goal.returns
returns g c = all_sum place_area c.args.places.now c.loop-place.place-index c.loop-place.sum c.loop-place.invariant c.loop-place-test.false
