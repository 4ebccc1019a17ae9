use Rattle.std.proofs.Common.{◌∙◌, ◌≢◌, ap, refl, rules, sym}
use Rattle.std.proofs.lemmas.Bool.{false≢true}
use Rattle.build_book.specs.Book.{Book}
use Rattle.build_book.proofs.book.Book.file.Goals as goal

pub returns-then-not-same-clause-fault : goal.returns-then-not-same-clause-fault
returns-then-not-same-clause-fault g c =
    let other : c.args.piece.job ≢ c.args.self.now.job = λ e. false≢true
    (c.if-not-same.ensures.1 (ap (λ (s : Book). s.job) c.self.view_is ∙ sym e ∙ sym c.job.ensures)) in
    search (rules, other)

pub file_own-requires-clause-own : goal.file_own-requires-clause-own
file_own-requires-clause-own g c = λ κs within.
    sym c.job.ensures ∙ sym (c.if-not-same.ensures.0 refl) ∙ ap (λ (s : Book). s.job) c.self.view_is
