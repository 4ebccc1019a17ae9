use Rattle.std.proofs.Common.{◌≡◌}
use Rattle.stl_text.proofs.chunk_parts.ChunkParts.runs.Given as goal

abbrev pub invariant-draw : goal.invariant-draw
invariant-draw g l = l.found ≡ l.fn.self
