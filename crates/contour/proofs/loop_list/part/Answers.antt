use Rattle.std.proofs.Common.{arith, length}
use Rattle.contour.proofs.lemmas.Parts.{IsInList, cut-at, cut-in, cut-none}
use Rattle.contour.proofs.loop_list.part.Goals as goal

pub returns-then-number-count : goal.returns-then-number-count
returns-then-number-count g c =
    let none = cut-none c.args.count c.args.ends.now c.args.number c.args.flat.now c.requires.count (omega arith) in
    grind (arith, none)

pub offset_bounds-flat-start : goal.offset_bounds-flat-start
offset_bounds-flat-start g c =
    let b : IsInList c.start_in-start.result c.end_in-end.result (length c.args.flat.now) =
    cut-in c.args.count c.args.ends.now c.args.number (length c.args.flat.now) c.start_in-start.result c.end_in-end.result
    c.requires.count c.requires.ends (omega arith) c.start_in-start.ensures c.end_in-end.ensures in
    omega arith

pub slice_bounds-result-count : goal.slice_bounds-result-count
slice_bounds-result-count g c =
    let b : IsInList c.start_in-start.result c.end_in-end.result (length c.args.flat.now) =
    cut-in c.args.count c.args.ends.now c.args.number (length c.args.flat.now) c.start_in-start.result c.end_in-end.result
    c.requires.count c.requires.ends (omega arith) c.start_in-start.ensures c.end_in-end.ensures in
    omega arith

pub slice_bounds-result-start : goal.slice_bounds-result-start
slice_bounds-result-start g c =
    let b : IsInList c.start_in-start.result c.end_in-end.result (length c.args.flat.now) =
    cut-in c.args.count c.args.ends.now c.args.number (length c.args.flat.now) c.start_in-start.result c.end_in-end.result
    c.requires.count c.requires.ends (omega arith) c.start_in-start.ensures c.end_in-end.ensures in
    omega arith

pub slice_bounds-result-end : goal.slice_bounds-result-end
slice_bounds-result-end g c =
    let b : IsInList c.start_in-start.result c.end_in-end.result (length c.args.flat.now) =
    cut-in c.args.count c.args.ends.now c.args.number (length c.args.flat.now) c.start_in-start.result c.end_in-end.result
    c.requires.count c.requires.ends (omega arith) c.start_in-start.ensures c.end_in-end.ensures in
    omega arith

pub returns : goal.returns
returns g c =
    cut-at c.args.count c.args.ends.now c.args.number c.start_in-start.result c.end_in-end.result c.args.flat.now
    c.requires.count c.requires.ends (omega arith) c.start_in-start.ensures c.end_in-end.ensures
