use Rattle.stl_text.proofs.chunk_parts.ChunkParts.runs.Goals as goal

pub draw-init : goal.draw-init
draw-init g c = c.none-found.ensures

pub returns : goal.returns
returns g c = c.draw.invariant
