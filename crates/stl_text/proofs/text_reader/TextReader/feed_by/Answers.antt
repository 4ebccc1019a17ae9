use Rattle.std.proofs.Common.{◌++◌, ◌∙◌, ap, subst}
use Rattle.stl_text.specs.ChunkParts.{Chunk}
use Rattle.stl_text.specs.TextReader.{IsAfter}
use Rattle.stl_text.proofs.text_reader.TextReader.feed_by.Goals as goal

pub returns : goal.returns
returns g c = λ limit unit taken fed is.
    subst (λ b. IsAfter limit unit taken c.feed_runs.new.self (fed ++ b)) (ap (λ (v : Chunk). v.bytes) c.runs_by.ensures ∙ c.parts-parts.ensures.bytes)
    (c.feed_runs.ensures limit unit taken fed is)
