use Rattle.std.proofs.Common.{◌<◌}
use Rattle.short_memory.proofs.turns.failures.Given as goal

abbrev pub invariant-loop-turn : goal.invariant-loop-turn
invariant-loop-turn g l = l.failed < l.turn
