use Rattle.stl_text.proofs.chunk_parts.fn.ChunkParts.lists_by.draw.Goals as goal

pub returns : goal.returns
returns g c = c.runs.ensures
