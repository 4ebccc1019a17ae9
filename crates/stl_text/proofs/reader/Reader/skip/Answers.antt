use Rattle.std.proofs.Common.{refl, sym, ◌∙◌, ap}
use Rattle.stl_text.proofs.lemmas.Layouts.{separated}
use Rattle.stl_text.proofs.reader.Reader.skip.Goals as goal

pub returns : goal.returns
returns c = λ tokens is.
    separated tokens c.args.bytes.now c.in_ok-self-inside.field-0.now c.args.self.now _ is
    (sym (ap (λ r. r.rest) c.self.view_is) ∙ c.in_ok-self-inside.ensures.some) refl (ap (λ r. r.unit) c.self.view_is)
