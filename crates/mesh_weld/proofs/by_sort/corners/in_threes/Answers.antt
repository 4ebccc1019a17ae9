use Rattle.std.proofs.Common.{◌+◌, ◌*◌, ◌<◌, length, arith}
use Rattle.mesh_weld.proofs.lemmas.Points.{threes_pushed, threes_done}
use Rattle.mesh_weld.proofs.by_sort.corners.in_threes.Goals as goal

pub loop-group-preserved : goal.loop-group-preserved
loop-group-preserved g c =
    let inside : 3 * c.loop-group.group + 2 < length c.args.numbers.now = omega arith in
    rw c.in_ok-push.ensures.items (threes_pushed c.loop-group.list.items c.args.numbers.now c.loop-group.group inside c.loop-group.invariant)

pub returns : goal.returns
returns g c =
    let short : length c.args.numbers.now < 3 * c.loop-group.group + 3 = omega arith in
    threes_done c.loop-group.list.items c.args.numbers.now c.loop-group.group short c.loop-group.invariant
