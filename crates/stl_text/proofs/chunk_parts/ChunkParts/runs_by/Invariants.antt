use Rattle.std.proofs.Common.{◌≡◌, All, vec_len}
use Rattle.stl_text.proofs.chunk_parts.ChunkParts.runs_by.Given as goal

abbrev pub invariant-add : goal.invariant-add
invariant-add g l = record {
  all : l.all ≡ l.fn.self;
  lists : All (λ list. list ≡ l.fn.self) l.lists.items;
}

abbrev pub decreases-add : goal.decreases-add
decreases-add g l = vec_len l.lists
