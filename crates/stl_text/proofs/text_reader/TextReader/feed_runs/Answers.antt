use Rattle.std.proofs.Common.{◌≡◌, ◌+◌, ◌++◌, [], List, ℕ, All, length, rules, sym, ◌∙◌, subst, true, false}
use denote.Enum.Bare.{same_true}
use Rattle.micro_num.specs.declared.unit.Unit.{Unit as LengthUnit}
use Rattle.micro_num.specs.contracts.unit.Unit.{the_type}
use Rattle.stl_text.specs.FacetRun.{IsFacetRun}
use Rattle.stl_text.specs.declared.facet_run.FacetRun.{FacetRun}
use Rattle.stl_text.specs.TextReader.{IsAfter, IsReadingAt, TextReader}
use Rattle.stl_text.proofs.lemmas.TextReaders.{unit_known}
use Rattle.stl_text.proofs.text_reader.TextReader.feed_runs.Goals as goal
use Rattle.stl_text.proofs.text_reader.TextReader.feed_runs.Goals.{in-Stopped, in_default}

pub returns : goal.returns
returns g c = λ limit unit taken fed is.
    let i = c.self.inside in
    let p : TextReader = record { limit = length taken + i.limit; unit = i.unit; count = i.count; state = i.state; held = i.held.items; held_at = i.held_at; facets = taken ++ i.facets.items } in
    let here : IsReadingAt limit unit p i.state fed [] = subst (λ r. IsAfter limit unit taken r fed) (sym c.self.view_is) is in
    let known : i.unit ≡ unit =
    elim c.match-matches.branch [
      | in-Stopped w ↦ let wrong : true ≡ false = sym w.matches-is ∙ c.if-matches.false in cc
      | in_default w ↦ unit_known limit unit p i.state fed [] here w.in_default.not-Stopped
    ] in
    let P : LengthUnit → List ℕ → FacetRun g.row.A.Denot → Type 0 = λ u b run. IsFacetRun u b run.facets.items run.from.now run.to.now in
    let chunk = c.in_order-runs.result.0.now in
    let runs = c.in_order-runs.result.1.items in
    let bytes_is : chunk ≡ c.args.found.bytes = c.in_order-runs.ensures.chunk in
    let own : c.unit.result ≡ i.unit = same_true the_type (search rules) _ _ (sym c.eq-is_own.ensures ∙ c.if-not-is_own.false) in
    let unit_is : c.args.found.unit ≡ unit = sym c.unit.ensures ∙ own ∙ known in
    let known_runs : All (P unit chunk) c.deref.result.now = subst (All (P unit chunk)) (sym c.deref.ensures.value)
    (subst (λ b. All (P unit b) runs) (sym bytes_is) (subst (λ u. All (P u c.args.found.bytes) runs) unit_is c.in_order-runs.ensures.runs)) in
    subst (λ b. IsAfter limit unit taken c.read_by_runs.new.self (fed ++ b)) bytes_is (c.read_by_runs.ensures limit unit taken fed is known_runs)
