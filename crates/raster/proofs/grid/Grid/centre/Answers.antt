use Rattle.std.proofs.Common.{ap, subst, sym, ◌<◌, ◌∙◌}
use Rattle.std.proofs.lemmas.Bool.{false≢true}
use Rattle.exact_int.specs.Bounds.{IsAtMost}
use Rattle.raster.specs.Grid.{Grid, centre}
use Rattle.raster.proofs.lemmas.Middles.{coordinate-in, height, last-back, middle-at}
use Rattle.raster.proofs.grid.Grid.centre.Goals as goal
use Rattle.geometry.specs.declared.limits.TheConstants.{CENTRE_LIMIT}

pub unreachable-requires : goal.unreachable-requires
unreachable-requires c =
    let x = subst (IsAtMost CENTRE_LIMIT) (sym (height c.middle_before-x2.result c.middle_before-x2.ensures.within)) c.middle_before-x2.ensures.within in
    let y = subst (IsAtMost CENTRE_LIMIT) (sym (height c.middle_before-y2.result c.middle_before-y2.ensures.within)) c.middle_before-y2.ensures.within in
    let z = subst (IsAtMost CENTRE_LIMIT) (sym (height c.middle_before-z2.result c.middle_before-z2.ensures.within)) c.middle_before-z2.ensures.within in
    false≢true (c.in-None.ensures.some.1 (x, y, z))

pub returns : goal.returns
returns c =
    let s = c.self.inside in
    let x = middle-at c.x.result _ c.middle_before-x2.result s.pitch c.args.i c.x.ensures.value c.x.ensures.within
    c.middle_before-x2.ensures.value c.middle_before-x2.ensures.within in
    let y = middle-at c.y.result _ c.middle_before-y2.result s.pitch c.args.j c.y.ensures.value c.y.ensures.within
    c.middle_before-y2.ensures.value c.middle_before-y2.ensures.within in
    let z = middle-at c.z.result _ c.middle_before-z2.result s.layer_height c.args.k c.z.ensures.value c.z.ensures.within
    c.middle_before-z2.ensures.value c.middle_before-z2.ensures.within in
    c.in-Some.ensures.value
    ∙ (λ i. record { x = x i; y = y i; z = z i })
    ∙ ap (λ (g : Grid). centre g c.args.i c.args.j c.args.k) c.self.view_is

pub middle_before-x2-requires-clause-start : goal.middle_before-x2-requires-clause-start
middle_before-x2-requires-clause-start c = coordinate-in c.x.result c.x.ensures.within

pub middle_before-x2-requires-clause-step : goal.middle_before-x2-requires-clause-step
middle_before-x2-requires-clause-step c = c.self.invariant.pitch.1

pub middle_before-x2-requires-clause-number : goal.middle_before-x2-requires-clause-number
middle_before-x2-requires-clause-number c = subst (λ (g : Grid). c.args.i < g.columns) (sym c.self.view_is) c.requires.column

pub middle_before-x2-requires-clause-last : goal.middle_before-x2-requires-clause-last
middle_before-x2-requires-clause-last c =
    last-back c.x.result c.self.inside.origin.x c.self.inside.pitch c.self.inside.columns c.x.ensures.value c.x.ensures.within c.self.invariant.last_x

pub middle_before-y2-requires-clause-start : goal.middle_before-y2-requires-clause-start
middle_before-y2-requires-clause-start c = coordinate-in c.y.result c.y.ensures.within

pub middle_before-y2-requires-clause-step : goal.middle_before-y2-requires-clause-step
middle_before-y2-requires-clause-step c = c.self.invariant.pitch.1

pub middle_before-y2-requires-clause-number : goal.middle_before-y2-requires-clause-number
middle_before-y2-requires-clause-number c = subst (λ (g : Grid). c.args.j < g.rows) (sym c.self.view_is) c.requires.row

pub middle_before-y2-requires-clause-last : goal.middle_before-y2-requires-clause-last
middle_before-y2-requires-clause-last c =
    last-back c.y.result c.self.inside.origin.y c.self.inside.pitch c.self.inside.rows c.y.ensures.value c.y.ensures.within c.self.invariant.last_y

pub middle_before-z2-requires-clause-start : goal.middle_before-z2-requires-clause-start
middle_before-z2-requires-clause-start c = coordinate-in c.z.result c.z.ensures.within

pub middle_before-z2-requires-clause-step : goal.middle_before-z2-requires-clause-step
middle_before-z2-requires-clause-step c = c.self.invariant.layer_height.1

pub middle_before-z2-requires-clause-number : goal.middle_before-z2-requires-clause-number
middle_before-z2-requires-clause-number c = subst (λ (g : Grid). c.args.k < g.layers) (sym c.self.view_is) c.requires.layer

pub middle_before-z2-requires-clause-last : goal.middle_before-z2-requires-clause-last
middle_before-z2-requires-clause-last c =
    last-back c.z.result c.self.inside.origin.z c.self.inside.layer_height c.self.inside.layers c.z.ensures.value c.z.ensures.within c.self.invariant.last_z
