use Rattle.std.proofs.Common.{◌≡◌, slice_set, get_or, ap, ◌∙◌}
use Rattle.stlslice_c.specs.Answers.{IsStripeAnswer}
use Rattle.stlslice_c.proofs.lemmas.Given.{asked_at}
use Rattle.stlslice_c.proofs.given.stripe.Goals as goal

pub returns-clause-answered : goal.returns-clause-answered
returns-clause-answered c room x y e f =
    let r = c.ask_stripe.result in let n = c.ask_stripe.new in (
      n.wanted,
      ap (λ zs. slice_set zs 0 n.wanted) f,
      asked_at r (λ job a. IsStripeAnswer job c.args.s c.args.images.now n.images a n.wanted r) (λ a. (n.images ≡ c.args.images.now) × (n.wanted ≡ a)) (c.index-mesh-0.is ∙ ap (λ zs. get_or zs 0 c.index-mesh-0.result) e) (ap (λ zs. get_or zs 0 0) f)
          c.ask_stripe.ensures.«open» (λ none. let told = c.ask_stripe.ensures.closed none in (told.0, (told.1, told.2))),
    )
