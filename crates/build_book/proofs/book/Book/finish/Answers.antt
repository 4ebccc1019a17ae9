use Rattle.std.proofs.Common.{◌≡◌, ◌∙◌, ◌+◌, ℕ, ap, arith, refl, sym}
use Rattle.std.proofs.lemmas.Bool.{false≢true}
use Rattle.std.proofs.lemmas.Result.{IfOk-weaker}
use Rattle.build_book.specs.Book.{Book}
use Rattle.build_book.specs.Build.{Build}
use Rattle.build_book.specs.Job.{Job}
use Rattle.build_book.specs.Places.{filed_count}
use Rattle.build_book.proofs.lemmas.Places.{none_filed}
use Rattle.build_book.proofs.book.Book.finish.Goals as goal

pub returns-then-same-clause-job : goal.returns-then-same-clause-job
returns-then-same-clause-job g c =
    IfOk-weaker c.finish_own.result (λ (build : Build). build.job ≡ c.args.self.job) (λ build. build.job ≡ c.args.job.now)
    (λ build is. is ∙ sym (ap (λ (s : Book). s.job) c.self.view_is) ∙ c.if-same.ensures.0 refl) c.finish_own.ensures.job

pub returns-then-same-clause-late : goal.returns-then-same-clause-late
returns-then-same-clause-late g c =
    IfOk-weaker c.finish_own.result (λ (build : Build). build.late + filed_count c.args.self.places ≡ c.args.self.job.grid.layers)
    (λ build. c.args.self.job ≡ c.args.job.now → build.late + filed_count c.args.self.places ≡ c.args.job.now.grid.layers)
    (λ build is own. is ∙ ap (λ (w : Job). w.grid.layers) own) c.finish_own.ensures.late

pub returns-then-same-clause-all_late : goal.returns-then-same-clause-all_late
returns-then-same-clause-all_late g c =
    IfOk-weaker c.finish_own.result (λ (build : Build). build.job ≡ c.args.self.job)
    (λ build. (c.args.self.job ≡ c.args.job.now → ⊥) → build.late ≡ c.args.job.now.grid.layers)
    (λ build is other. absurd (other (sym (ap (λ (s : Book). s.job) c.self.view_is) ∙ c.if-same.ensures.0 refl))) c.finish_own.ensures.job

pub returns-clause-job : goal.returns-clause-job
returns-clause-job g c =
    IfOk-weaker c.finish_own-else-same.result (λ (build : Build). build.job ≡ c.in_ok-open.field-0.job) (λ build. build.job ≡ c.args.job.now)
    (λ build is. is ∙ ap (λ (b : Book). b.job) c.in_ok-open.ensures) c.finish_own-else-same.ensures.job

pub returns-clause-late : goal.returns-clause-late
returns-clause-late g c =
    IfOk-weaker c.finish_own-else-same.result (λ (build : Build). build.job ≡ c.in_ok-open.field-0.job)
    (λ build. c.args.self.job ≡ c.args.job.now → build.late + filed_count c.args.self.places ≡ c.args.job.now.grid.layers)
    (λ build is own. absurd (false≢true (c.if-same.ensures.1 (ap (λ (s : Book). s.job) c.self.view_is ∙ own)))) c.finish_own-else-same.ensures.job

-- no layer was filed, so all are made
all_made : (made filed all whole : ℕ) → made + filed ≡ all → filed ≡ 0 → all ≡ whole → made ≡ whole
all_made made filed all whole counted none same = omega (arith, counted, none, same)

pub returns-clause-all_late : goal.returns-clause-all_late
returns-clause-all_late g c =
    let fresh = c.in_ok-open.field-0 in
    IfOk-weaker c.finish_own-else-same.result (λ (build : Build). build.late + filed_count fresh.places ≡ fresh.job.grid.layers)
    (λ build. (c.args.self.job ≡ c.args.job.now → ⊥) → build.late ≡ c.args.job.now.grid.layers)
    (λ build is other. all_made build.late (filed_count fresh.places) fresh.job.grid.layers c.args.job.now.grid.layers is
    (ap (λ (b : Book). filed_count b.places) c.in_ok-open.ensures ∙ none_filed c.args.job.now.grid.layers)
    (ap (λ (b : Book). b.job.grid.layers) c.in_ok-open.ensures)) c.finish_own-else-same.ensures.late
