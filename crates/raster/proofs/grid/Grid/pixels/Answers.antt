use Rattle.std.proofs.Common.{rules, ap, subst, sym, ◌≡◌, ◌∙◌, ◌+◌, ◌*◌}
use Rattle.std.specs.Prelude.{FitsSigned, ℤ, pos, ◌+ℤ◌, ◌≤ℤ◌}
use Rattle.std.proofs.lemmas.Int.{to_z-of_z}
use mir.Syntax.{w32, w64}
use mir.Val.{to_z, of_z}
use Rattle.raster.specs.Grid.{Grid, middle}
use Rattle.raster.proofs.lemmas.Middles.{coordinate-in, last-back, middle-at}
use Rattle.raster.proofs.lemmas.Pixels.{last-row}
use Rattle.raster.proofs.grid.Grid.pixels.Goals as goal
use Rattle.geometry.specs.declared.limits.TheConstants.{CENTRE_LIMIT}

pub invariant_of-result : goal.invariant_of-result
invariant_of-result c =
    let fits-x : FitsSigned w64 c.middle_before.result = search rules in
    let fits-y : FitsSigned w64 c.middle_before-2.result = search rules in
    let fits : FitsSigned w32 c.y.result = search rules in
    let y2 : to_z w64 (of_z w64 c.middle_before-2.result) ≡ middle c.self.inside.origin.y c.self.inside.pitch 0 =
    to_z-of_z w64 c.middle_before-2.result fits-y ∙ c.middle_before-2.ensures.value
    ∙ ap (λ o. middle o c.self.inside.pitch 0) (to_z-of_z w32 c.y.result fits ∙ c.y.ensures.value) in
    record {
      x_in = rw (to_z-of_z w64 c.middle_before.result fits-x) c.middle_before.ensures.within;
      y_in = rw (to_z-of_z w64 c.middle_before-2.result fits-y) c.middle_before-2.ensures.within;
      step_above = c.self.invariant.pitch.0;
      step_in = c.self.invariant.pitch.1;
      columns_in = c.self.invariant.columns_high;
      rows_in = c.self.invariant.rows_high;
      last_in = subst (λ (m : ℤ). (m +ℤ pos (2 * c.self.inside.pitch * c.self.inside.rows)) ≤ℤ pos (CENTRE_LIMIT + 2 * c.self.inside.pitch)) (sym y2)
          (last-row c.self.inside.origin.y c.self.inside.pitch c.self.inside.rows c.self.invariant.rows_low c.self.invariant.last_y);
    }

pub middle_before-requires-clause-start : goal.middle_before-requires-clause-start
middle_before-requires-clause-start c = coordinate-in c.x.result c.x.ensures.within

pub middle_before-requires-clause-step : goal.middle_before-requires-clause-step
middle_before-requires-clause-step c = c.self.invariant.pitch.1

pub middle_before-requires-clause-last : goal.middle_before-requires-clause-last
middle_before-requires-clause-last c =
    last-back c.x.result c.self.inside.origin.x c.self.inside.pitch c.self.inside.columns c.x.ensures.value c.x.ensures.within c.self.invariant.last_x

pub middle_before-requires-2-clause-start : goal.middle_before-requires-2-clause-start
middle_before-requires-2-clause-start c = coordinate-in c.y.result c.y.ensures.within

pub middle_before-requires-2-clause-step : goal.middle_before-requires-2-clause-step
middle_before-requires-2-clause-step c = c.self.invariant.pitch.1

pub middle_before-requires-2-clause-last : goal.middle_before-requires-2-clause-last
middle_before-requires-2-clause-last c =
    last-back c.y.result c.self.inside.origin.y c.self.inside.pitch c.self.inside.rows c.y.ensures.value c.y.ensures.within c.self.invariant.last_y

pub returns-clause-columns : goal.returns-clause-columns
returns-clause-columns c = ap (λ (g : Grid). g.columns) c.self.view_is

pub returns-clause-rows : goal.returns-clause-rows
returns-clause-rows c = ap (λ (g : Grid). g.rows) c.self.view_is

pub returns-clause-step : goal.returns-clause-step
returns-clause-step c = ap (λ (g : Grid). g.pitch) c.self.view_is

pub returns-clause-x2 : goal.returns-clause-x2
returns-clause-x2 c =
    middle-at c.x.result _ c.middle_before.result c.self.inside.pitch 0 c.x.ensures.value c.x.ensures.within c.middle_before.ensures.value c.middle_before.ensures.within
    ∙ ap (λ (g : Grid). middle g.origin.x g.pitch 0) c.self.view_is

pub returns-clause-y2 : goal.returns-clause-y2
returns-clause-y2 c =
    middle-at c.y.result _ c.middle_before-2.result c.self.inside.pitch 0 c.y.ensures.value c.y.ensures.within c.middle_before-2.ensures.value c.middle_before-2.ensures.within
    ∙ ap (λ (g : Grid). middle g.origin.y g.pitch 0) c.self.view_is
