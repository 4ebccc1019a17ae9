use Rattle.std.proofs.Common.{◌≡◌, ◌++◌, refl, sym, ap}
use Rattle.stl_text.specs.declared.stage.ReaderState.TheVariants.{Stopped, Word}
use Rattle.stl_text.specs.TextReader.{EndsAt}
use Rattle.stl_text.proofs.lemmas.OneReading.{one_reading}
use Rattle.stl_text.proofs.lemmas.Solids.{only_memory}
use Rattle.stl_text.proofs.lemmas.TextReaders.{ends_stage, ends_with}
use Rattle.stl_text.proofs.text_reader.TextReader.finish.Goals as goal

pub returns-in-Stopped-clause-only : goal.returns-in-Stopped-clause-only
returns-in-Stopped-clause-only g c = λ limit unit taken fed is facets reads.
    let left = taken ++ c.close-state.new.self.facets in
    only_memory limit unit fed facets c.in-Stopped.fault reads
    (ends_with limit unit c.close-state.result (Stopped c.in-Stopped.fault) left left fed
    c.in-Stopped.is refl (c.close-state.ensures limit unit taken fed is))

pub returns-in-Ok-clause-found : goal.returns-in-Ok-clause-found
returns-in-Ok-clause-found g c = λ limit unit taken fed is.
    let facets = taken ++ c.reader.inside.facets.items in
    let left = taken ++ c.close-state.new.self.facets in
    let same : left ≡ facets = ap (λ r. taken ++ r.facets) (sym c.reader.view_is) in
    let e : EndsAt limit unit (Word c.in-Word.stage) facets fed =
    ends_stage limit unit c.close-state.result c.in-Word.stage left facets fed c.in-Word.is same (c.close-state.ensures limit unit taken fed is) in
    c.in-Ok.ensures.read limit unit facets fed e.0 e.1 e.2

pub returns-in-Ok-clause-only : goal.returns-in-Ok-clause-only
returns-in-Ok-clause-only g c = λ limit unit taken fed is facets reads.
    one_reading limit unit fed (taken ++ c.reader.inside.facets.items) facets (returns-in-Ok-clause-found g c limit unit taken fed is) reads

pub returns-in-Err-clause-fault : goal.returns-in-Err-clause-fault
returns-in-Err-clause-fault g c = λ limit unit taken fed is no.
    let facets = taken ++ c.close-state.new.self.facets in
    let e : EndsAt limit unit (Word c.in-Word.stage) facets fed =
    ends_stage limit unit c.close-state.result c.in-Word.stage facets facets fed c.in-Word.is refl (c.close-state.ensures limit unit taken fed is) in
    c.in-Err.ensures.fault limit unit facets fed e.0 e.1 e.2

pub returns-in-Err-clause-only : goal.returns-in-Err-clause-only
returns-in-Err-clause-only g c = λ limit unit taken fed is facets reads.
    only_memory limit unit fed facets c.in-Err.fault reads (returns-in-Err-clause-fault g c limit unit taken fed is)
