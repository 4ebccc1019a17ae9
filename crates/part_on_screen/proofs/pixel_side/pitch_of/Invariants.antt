use Rattle.std.proofs.Common.{ℕ, ◌<◌, ◌≤◌}
use Rattle.part_on_screen.proofs.lemmas.Pitches.{IsNoPitch}
use Rattle.part_on_screen.proofs.pixel_side.pitch_of.Given as goal

abbrev pub invariant-loop-pitch : goal.invariant-loop-pitch
invariant-loop-pitch l = (1 ≤ l.pitch) × ((q : ℕ) → q < l.pitch → IsNoPitch l.fn.width l.fn.depth q)
