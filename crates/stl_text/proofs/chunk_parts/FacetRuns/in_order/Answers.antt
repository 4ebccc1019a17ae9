use Rattle.std.proofs.Common.{All, ap, subst}
use Rattle.std.proofs.lemmas.List.Sorted.{All-permutation}
use Rattle.stl_text.specs.ChunkParts.{Chunk}
use Rattle.stl_text.specs.FacetRun.{IsFacetRun}
use Rattle.stl_text.specs.declared.facet_run.FacetRun.{FacetRun}
use Rattle.stl_text.proofs.chunk_parts.FacetRuns.in_order.Goals as goal

pub returns-clause-chunk : goal.returns-clause-chunk
returns-clause-chunk g c = ap (λ (v : Chunk). v.bytes) c.self.view_is

-- a sort only moves the runs
pub returns-clause-runs : goal.returns-clause-runs
returns-clause-runs g c =
    let P : Chunk → FacetRun g.row.A.Denot → Type 0 = λ v run. IsFacetRun v.unit v.bytes run.facets.items run.from.now run.to.now in
    let runs = c.self.inside.runs.items in
    All-permutation (P c.args.self) runs c.sort_unstable_by_key.new.self.items c.sort_unstable_by_key.ensures.permutation
    (subst (λ (v : Chunk). All (P v) runs) c.self.view_is c.self.invariant)
