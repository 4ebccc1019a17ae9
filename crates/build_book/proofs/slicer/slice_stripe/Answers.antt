use Rattle.std.proofs.Common.{◌≡◌, ◌∙◌, ◌<◌, subst, sym}
use Rattle.std.proofs.lemmas.Result.{IfOk-weaker}
use Rattle.build_book.specs.Job.{Job, stripe_count}
use Rattle.build_book.proofs.slicer.slice_stripe.Goals as goal

pub slice-requires-after_bounds : goal.slice-requires-after_bounds
slice-requires-after_bounds g c κs within = subst (λ (w : Job). c.args.s < stripe_count w.grid) (sym c.new.ensures) c.requires

pub returns-clause-job : goal.returns-clause-job
returns-clause-job g c =
    IfOk-weaker c.slice.result (λ piece. piece.job ≡ c.new.result) (λ piece. piece.job ≡ c.args.job.now)
    (λ piece same. same ∙ c.new.ensures) c.slice.ensures.job

pub returns-clause-stripe : goal.returns-clause-stripe
returns-clause-stripe g c = c.slice.ensures.stripe

pub returns-clause-lawful : goal.returns-clause-lawful
returns-clause-lawful g c = c.slice.ensures.lawful
