use Rattle.std.proofs.Common.{◌≡◌, slice_set, get_or, ap, ◌∙◌}
use Rattle.stlslice_c.specs.Answers.{IsMaskAnswer}
use Rattle.stlslice_c.proofs.lemmas.Given.{asked_at}
use Rattle.stlslice_c.proofs.given.mask.Goals as goal

pub returns-clause-answered : goal.returns-clause-answered
returns-clause-answered c room x y e f =
    let r = c.ask_mask.result in let n = c.ask_mask.new in (
      n.wanted,
      ap (λ zs. slice_set zs 0 n.wanted) f,
      asked_at r (λ job a. IsMaskAnswer job c.args.k c.args.image.now n.image a n.wanted r) (λ a. (n.image ≡ c.args.image.now) × (n.wanted ≡ a)) (c.index-mesh-0.is ∙ ap (λ zs. get_or zs 0 c.index-mesh-0.result) e) (ap (λ zs. get_or zs 0 0) f)
          c.ask_mask.ensures.«open» (λ none. let told = c.ask_mask.ensures.closed none in (told.0, (told.1, told.2))),
    )
