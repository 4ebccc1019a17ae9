use Rattle.std.proofs.Common.{refl, w32}
use Rattle.std.specs.Int.{w128}
use Rattle.std.proofs.lemmas.Int.{to_z-of_z}
use Rattle.exact_cut.proofs.scanline.crossing.Crossing.of.Goals as goal

pub invariant_of-result : goal.invariant_of-result
invariant_of-result c =
    rw (to_z-of_z w32 c.args.sign c.ranges.sign, to_z-of_z w128 c.args.num c.ranges.num, to_z-of_z w128 c.args.den c.ranges.den)
    (record {
      unit = c.requires.unit;
      den_positive = c.requires.den_positive;
      num_in = c.requires.num_in;
      den_in = c.requires.den_in;
    })

pub returns : goal.returns
returns c =
    rw (to_z-of_z w32 c.args.sign c.ranges.sign, to_z-of_z w128 c.args.num c.ranges.num, to_z-of_z w128 c.args.den c.ranges.den) refl
