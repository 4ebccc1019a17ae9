use Rattle.std.proofs.Common.{ℕ, slice_set, get_or, ap, ◌∙◌}
use Rattle.stlslice_c.specs.Loops.{AreAsBefore, IsLoops}
use Rattle.stlslice_c.proofs.lemmas.Given.{asked_at, pairs}
use Rattle.stlslice_c.proofs.given.loops.Goals as goal

pub returns-clause-answered : goal.returns-clause-answered
returns-clause-answered c room ends_room x y z e f g =
    let r = c.ask_loops.result in let n = c.ask_loops.new in let a = c.args in (
      n.points_wanted,
      n.ends_wanted,
      ap (λ zs. slice_set zs 0 n.points_wanted) f,
      ap (λ zs. slice_set zs 0 n.ends_wanted) g,
      asked_at r (λ job (w : ℕ × ℕ). IsLoops job a.k a.points.now n.points w.0 n.points_wanted a.ends.now n.ends w.1 n.ends_wanted r)
          (λ (w : ℕ × ℕ). AreAsBefore a.points.now n.points w.0 n.points_wanted a.ends.now n.ends w.1 n.ends_wanted) (c.index-mesh-0.is ∙ ap (λ zs. get_or zs 0 c.index-mesh-0.result) e)
          (pairs (ap (λ zs. get_or zs 0 0) f) (ap (λ zs. get_or zs 0 0) g)) c.ask_loops.ensures.«open» c.ask_loops.ensures.closed,
    )
