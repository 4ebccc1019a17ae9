use Rattle.std.proofs.Common.{◌≡◌, ◌∙◌, sym}
use Rattle.std.proofs.lemmas.Result.{IfOk-weaker}
use Rattle.build_book.specs.Build.{Build}
use Rattle.layer_pool.proofs.pool.build_of.Goals as goal

pub returns-clause-job : goal.returns-clause-job
returns-clause-job g c =
    IfOk-weaker c.finish_own.result (λ (build : Build). build.job ≡ c.into_book.result.job) (λ build. build.job ≡ c.args.job.now)
    (λ build is. is ∙ c.into_book.ensures.own ∙ sym c.requires.of) c.finish_own.ensures.job
