use Rattle.std.proofs.Common.{◌∙◌, ap}
use Rattle.stl_text.proofs.text_reader.TextReader.parts.Goals as goal

pub returns-clause-unit : goal.returns-clause-unit
returns-clause-unit g c = c.of.ensures.unit ∙ ap (λ r. r.unit) c.self.view_is
