use Rattle.std.proofs.Common.{◌≡◌, slice_set, get_or, ap, ◌∙◌}
use Rattle.stlslice_c.specs.Answers.{IsProbeAnswer}
use Rattle.std.specs.Prelude.{pos}
use Rattle.stlslice_c.specs.declared.shape.Rays.{Rays}
use Rattle.stlslice_c.proofs.lemmas.Given.{asked_at}
use Rattle.stlslice_c.proofs.given.probe.Goals as goal

abbrev rays_of_zeros : Rays
rays_of_zeros = record { along_x = pos 0; along_y = pos 0 }

pub returns-clause-answered : goal.returns-clause-answered
returns-clause-answered c x y e f =
    let r = c.ask_probe.result in let n = c.ask_probe.new in (
      n.rays,
      ap (λ zs. slice_set zs 0 n.rays) f,
      asked_at r (λ job a. IsProbeAnswer job c.args.i c.args.j c.args.k a n.rays r) (λ a. n.rays ≡ a) (c.index-mesh-0.is ∙ ap (λ zs. get_or zs 0 c.index-mesh-0.result) e) (ap (λ zs. get_or zs 0 rays_of_zeros) f)
          c.ask_probe.ensures.«open» c.ask_probe.ensures.closed,
    )
