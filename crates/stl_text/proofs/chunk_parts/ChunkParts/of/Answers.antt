use Rattle.std.proofs.Common.{refl}
use Rattle.stl_text.proofs.chunk_parts.ChunkParts.of.Goals as goal

pub returns-clause-bytes : goal.returns-clause-bytes
returns-clause-bytes g c = refl
