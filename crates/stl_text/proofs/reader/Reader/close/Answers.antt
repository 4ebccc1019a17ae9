use Rattle.std.proofs.Common.{◌≡◌, List, ℕ, drop, sym, ◌∙◌, ap}
use Rattle.stl_text.proofs.lemmas.Layouts.{closed}
use Rattle.stl_text.proofs.reader.Reader.close.Goals as goal

pub returns : goal.returns
returns c =
    let bytes : List ℕ = c.layout.inside.closing.now in
    let rest : List ℕ = c.in_ok-after_bytes.field-0.now in
    let here : c.self.inside.rest.now ≡ c.args.self.now.rest = ap (λ r. r.rest) c.self.view_is in
    closed c.layout.inside.words_len bytes rest c.args.self.now _ c.layout.invariant.closing (sym here ∙ c.in_ok-after_bytes.ensures.some)
    (c.split_at.ensures.back ∙ ap (drop c.layout.inside.words_len) here) (ap (λ r. r.unit) c.self.view_is)
