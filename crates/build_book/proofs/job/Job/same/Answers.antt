use Rattle.std.proofs.Common.{◌≡◌, ◌∙◌, ap, sym, refl, IsTrue}
use Rattle.build_book.specs.Job.{Job}
use Rattle.build_book.proofs.job.Job.same.Goals as goal

pub returns-then-has_cells_of : goal.returns-then-has_cells_of
returns-then-has_cells_of g c =
    let cells = c.if-has_cells_of.ensures.0 refl in
    let solid : IsTrue c.same.result → c.args.self.now.solid ≡ c.args.other.now.solid =
    λ t. ap (λ (w : Job). w.solid) (sym c.self.view_is) ∙ c.same.ensures.0 t ∙ ap (λ (w : Job). w.solid) c.other.view_is in (
      λ t i. record { solid = solid t i; grid = cells.0 i; rule = cells.1 i },
      λ e. c.same.ensures.1 (ap (λ (w : Job). w.solid) (c.self.view_is ∙ e ∙ sym c.other.view_is)),
    )
