use Rattle.stl_text.proofs.chunk_parts.ChunkParts.next_run.Goals as goal

pub returns : goal.returns
returns g c = rw (← c.self.view_is) c.run_of.ensures
