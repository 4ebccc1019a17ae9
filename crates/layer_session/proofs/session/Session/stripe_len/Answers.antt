use Rattle.std.proofs.Common.{◌≡◌, ◌∙◌, ◌*◌, ℕ, List, ap, sym, rules}
use Rattle.std.specs.List.{range_with_len}
use Rattle.std.proofs.lemmas.List.FromFn.{length-range_with_len}
use Rattle.build_book.specs.Job.{Job, stripe_length, stripe_start}
use Rattle.layer_session.specs.Answers.{image_of}
use Rattle.layer_session.proofs.lemmas.Lengths.{length-same}
use Rattle.layer_session.proofs.session.Session.stripe_len.Goals as goal

pub returns-clause-value : goal.returns-clause-value
returns-clause-value g c =
    let job : Job = c.args.self.now.job in
    let layers : List ℕ = range_with_len (stripe_start c.args.s) (stripe_length job.grid c.args.s) in
    let count : c.from.result ≡ stripe_length job.grid c.args.s = search rules in
    ap (λ (n : ℕ). n * c.image_len.result) (count ∙ sym (length-range_with_len (stripe_start c.args.s) (stripe_length job.grid c.args.s)))
    ∙ sym (length-same (image_of job) c.image_len.result c.image_len.ensures.value layers)
