use Rattle.std.proofs.Common.{◌≡◌, ◌+◌, ◌++◌, ℕ, length, sym, subst, arith}
use Rattle.stl_text.specs.TextReader.{IsAfter, IsReading, TextReader}
use Rattle.stl_text.proofs.lemmas.TextReaders.{begun}
use Rattle.stl_text.proofs.text_reader.TextReader.count_chunk.Goals as goal

pub returns-in-Some : goal.returns-in-Some
returns-in-Some g c = λ limit unit taken fed is.
    let i = c.self.inside in
    let p : TextReader = record { limit = i.limit; unit = i.unit; count = i.count; state = i.state; held = i.held.items; held_at = i.held_at; facets = i.facets.items } in
    let sum : c.in-Some.count ≡ i.count + length c.args.chunk.now = omega (arith, c.in-Some.ensures) in
    let P : ℕ → Type 0 =
    λ n. IsReading limit unit taken (record p { count = n }) (fed ++ c.args.chunk.now) c.args.chunk.now in
    subst P (sym sum) (begun limit unit taken p fed c.args.chunk.now (subst (λ r. IsAfter limit unit taken r fed) (sym c.self.view_is) is))
