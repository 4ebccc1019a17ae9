use Rattle.std.proofs.Common.{refl, arith}
use Rattle.raster.specs.declared.pbm.chunk.TheConstants.{CHUNK_LEN}
use Rattle.raster.proofs.lemmas.Packing.{blank-at}
use Rattle.raster.proofs.pbm.chunk.Chunk.new.Goals as goal

pub invariant_of-result : goal.invariant_of-result
invariant_of-result c = (omega arith, refl, λ k low. blank-at CHUNK_LEN k)
