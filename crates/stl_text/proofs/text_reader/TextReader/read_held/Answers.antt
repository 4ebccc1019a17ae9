use Rattle.std.proofs.Common.{List, ℕ, ◌+◌, ◌++◌, length, sym, subst}
use Rattle.stl_text.specs.Stage.{AtWord}
use Rattle.stl_text.specs.TextReader.{TextReader, StandsAt}
use Rattle.stl_text.proofs.text_reader.TextReader.read_held.Goals as goal

pub returns-clause-read : goal.returns-clause-read
returns-clause-read g c = λ taken text after.
    let i = c.self.inside in
    let read = c.read_word-self-inside in
    let limit : ℕ = length taken + i.limit in
    subst (λ (p : TextReader). AtWord (length taken + p.limit) p.unit c.args.stage (taken ++ p.facets) text after p.held p.held_at
    → StandsAt (length taken + p.limit) p.unit read.result (taken ++ read.new.facets.items) text after) c.self.view_is
    (λ w. read.ensures taken text after
    (subst (λ (word : List ℕ). AtWord limit i.unit c.args.stage (taken ++ i.facets.items) text after word i.held_at)
    (sym c.as_slice.ensures.value) w))
