use Rattle.std.proofs.Common.{[], ◌∷◌, is_ok, subst, sym}
use Rattle.stl_text.specs.ChunkParts.{Chunk}
use Rattle.stl_text.specs.FacetRun.{IsFacetRun}
use Rattle.stl_text.specs.declared.facet_run.FacetRun.{FacetRun}
use Rattle.stl_text.proofs.lemmas.FacetRuns.{all_added, all_of_one}
use Rattle.stl_text.proofs.chunk_parts.FacetRuns.push.Goals as goal

pub invariant_of-self : goal.invariant_of-self
invariant_of-self g c =
    let i = c.self.inside in
    let P : Chunk → FacetRun g.row.A.Denot → Type 0 = λ v run. IsFacetRun v.unit v.bytes run.facets.items run.from.now run.to.now in
    let here : Chunk = record { unit = i.unit; bytes = i.chunk.now } in
    let one : P here c.args.run = subst (λ v. P v c.args.run) (sym c.self.view_is) c.requires in
    all_added (P here) (is_ok c.push.result) i.runs.items (c.args.run ∷ []) c.push.new.self.items c.push.ensures.items c.self.invariant
    (all_of_one (P here) c.args.run one)

pub returns : goal.returns
returns g c = c.self.view_is
