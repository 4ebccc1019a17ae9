use Rattle.std.proofs.Common.{◌≡◌, ◌∙◌, List, ℕ, All, ap, is_ok, subst, sym}
use Rattle.micro_num.specs.declared.unit.Unit.{Unit as LengthUnit}
use Rattle.stl_text.specs.ChunkParts.{Chunk}
use Rattle.stl_text.specs.FacetRun.{IsFacetRun}
use Rattle.stl_text.specs.declared.facet_run.FacetRun.{FacetRun}
use Rattle.stl_text.proofs.lemmas.FacetRuns.{all_added}
use Rattle.stl_text.proofs.chunk_parts.FacetRuns.add.Goals as goal

pub invariant_of-self : goal.invariant_of-self
invariant_of-self g c =
    let i = c.self.inside in
    let m = c.more.inside in
    let P : LengthUnit → List ℕ → FacetRun g.row.A.Denot → Type 0 = λ u b run. IsFacetRun u b run.facets.items run.from.now run.to.now in
    let same = c.more.view_is ∙ c.requires ∙ sym c.self.view_is in
    let unit_is : m.unit ≡ i.unit = ap (λ (v : Chunk). v.unit) same in
    let bytes_is : m.chunk.now ≡ i.chunk.now = ap (λ (v : Chunk). v.bytes) same in
    let more : All (P i.unit i.chunk.now) m.runs.items =
    subst (λ b. All (P i.unit b) m.runs.items) bytes_is (subst (λ u. All (P u m.chunk.now) m.runs.items) unit_is c.more.invariant) in
    all_added (P i.unit i.chunk.now) (is_ok c.append.result) i.runs.items m.runs.items c.append.new.self.items c.append.ensures.items c.self.invariant more

pub returns : goal.returns
returns g c = c.self.view_is
