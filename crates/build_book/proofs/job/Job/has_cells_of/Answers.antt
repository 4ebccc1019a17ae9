use Rattle.std.proofs.Common.{◌∙◌, ap, sym}
use Rattle.build_book.specs.Job.{Job}
use Rattle.build_book.proofs.lemmas.Alike.{grids_decide, rules_decide}
use Rattle.build_book.proofs.job.Job.has_cells_of.Goals as goal

pub returns-then-eq : goal.returns-then-eq
returns-then-eq g c = (
  λ t. (
    ap (λ (w : Job). w.grid) (sym c.self.view_is) ∙ (grids_decide _ _).0 (sym c.eq.ensures ∙ c.if-eq.true) ∙ ap (λ (w : Job). w.grid) c.other.view_is,
    ap (λ (w : Job). w.rule) (sym c.self.view_is) ∙ (rules_decide _ _).0 (sym c.eq-then-eq.ensures ∙ t) ∙ ap (λ (w : Job). w.rule) c.other.view_is,
  ),
  λ e. c.eq-then-eq.ensures ∙ (rules_decide _ _).1 (ap (λ (w : Job). w.rule) c.self.view_is ∙ e.1 ∙ ap (λ (w : Job). w.rule) (sym c.other.view_is)),
)
