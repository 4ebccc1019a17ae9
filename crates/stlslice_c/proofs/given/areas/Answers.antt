use Rattle.std.proofs.Common.{◌≡◌, get_or, ap, ◌∙◌, refl, ℕ}
use Rattle.stlslice_c.specs.Answers.{IsAreasAnswer}
use Rattle.stlslice_c.proofs.lemmas.Given.{asked_at}
use Rattle.stlslice_c.proofs.given.areas.Goals as goal

pub returns-clause-answered : goal.returns-clause-answered
returns-clause-answered c room x e =
    let r = c.ask_areas.result in let n = c.ask_areas.new in
    asked_at {X = ℕ} {was = 0} r (λ job a. IsAreasAnswer job c.args.rule c.args.first c.args.areas.now n.areas r) (λ a. n.areas ≡ c.args.areas.now)
    (c.index-mesh-0.is ∙ ap (λ zs. get_or zs 0 c.index-mesh-0.result) e) refl c.ask_areas.ensures.«open» c.ask_areas.ensures.closed
