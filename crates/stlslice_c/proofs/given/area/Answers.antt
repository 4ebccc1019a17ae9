use Rattle.std.proofs.Common.{◌≡◌, slice_set, get_or, ap, ◌∙◌}
use Rattle.stlslice_c.specs.Answers.{IsAreaAnswer}
use Rattle.stlslice_c.proofs.lemmas.Given.{asked_at}
use Rattle.stlslice_c.proofs.given.area.Goals as goal

pub returns-clause-answered : goal.returns-clause-answered
returns-clause-answered c x y e f =
    let r = c.ask_area.result in let n = c.ask_area.new in (
      n.area,
      ap (λ zs. slice_set zs 0 n.area) f,
      asked_at r (λ job a. IsAreaAnswer job c.args.k a n.area r) (λ a. n.area ≡ a) (c.index-mesh-0.is ∙ ap (λ zs. get_or zs 0 c.index-mesh-0.result) e) (ap (λ zs. get_or zs 0 0) f)
          c.ask_area.ensures.«open» c.ask_area.ensures.closed,
    )
