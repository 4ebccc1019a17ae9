use Rattle.std.proofs.Common.{arith}
use Rattle.part_on_screen.proofs.lemmas.Pitches.{least-from, none-more}
use Rattle.part_on_screen.proofs.pixel_side.pitch_of.Goals.{in-Some+in_default-times_in, in_default}
use Rattle.part_on_screen.proofs.pixel_side.pitch_of.Goals as goal

pub returns-in-Some-times_in-clause-pitch : goal.returns-in-Some-times_in-clause-pitch
returns-in-Some-times_in-clause-pitch c =
    record {
      some = c.loop-pitch.invariant.0;
      of_width = (c.in-Some.times_x, c.in-Some.ensures);
      of_depth = (c.in-Some-times_in.times_y, c.in-Some-times_in.ensures);
      least = least-from c.args.width.now c.args.depth.now c.loop-pitch.pitch c.loop-pitch.invariant.1;
    }

pub loop-pitch-preserved : goal.loop-pitch-preserved
loop-pitch-preserved c = (
  omega arith,
  none-more c.args.width.now c.args.depth.now c.loop-pitch.pitch c.loop-pitch.invariant.1
      (elim c.match-times_in.branch [
        | in-Some+in_default-times_in w ↦ λ some of_width of_depth. w.in_default-times_in.ensures of_depth
        | in_default w ↦ λ some of_width of_depth. w.in_default.ensures of_width
      ]),
)

pub returns-clause-none : goal.returns-clause-none
returns-clause-none c =
    λ none p some of_width of_depth.
    let least = least-from c.args.width.now c.args.depth.now c.loop-pitch.pitch c.loop-pitch.invariant.1 p some of_width of_depth in
    omega (arith, least, c.loop-pitch-test.false)
