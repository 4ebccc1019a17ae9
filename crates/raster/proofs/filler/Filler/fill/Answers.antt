use Rattle.std.proofs.Common.{ap, subst, sym, ◌∙◌, arith}
use Rattle.std.specs.Prelude.{ℤ}
use mir.Syntax.{w64}
use mir.Val.{of_z, to_z}
use Rattle.std.proofs.lemmas.Result.{IfOk-weaker, err_from_is_err_and}
use Rattle.mesh_weld.proofs.lemmas.Sums.{winds_cancel}
use Rattle.exact_cut.specs.Lattice.{row_y}
use Rattle.exact_int.specs.Bounds.{IsAtMost}
use Rattle.geometry.specs.declared.limits.TheConstants.{CENTRE_LIMIT}
use Rattle.plane_segments.specs.Segment.{segments}
use Rattle.raster.proofs.lemmas.Middles.{height}
use Rattle.raster.proofs.lemmas.Pixels.{ArePixels, fill-of, spans-below, spans-swept}
use Rattle.raster.proofs.filler.Filler.fill.Goals as goal

pub fill_rows-requires-clause-balanced : goal.fill_rows-requires-clause-balanced
fill_rows-requires-clause-balanced g c = λ j low.
    c.in_ok-push_facets.ensures.signs j (omega (arith, low, c.rows.ensures.value, c.pixels-pixels.ensures.rows))
    ∙ winds_cancel c.args.s.now.facets c.count-closed.ensures.closed (row_y c.pixels-pixels.result j) _

pub returns : goal.returns
returns g c =
    let same : ArePixels c.args.g.now c.pixels-pixels.result = record { x2 = c.pixels-pixels.ensures.x2; y2 = c.pixels-pixels.ensures.y2; step = c.pixels-pixels.ensures.step; columns = c.pixels-pixels.ensures.columns; rows = c.pixels-pixels.ensures.rows } in
    IfOk-weaker c.copied.result _ _
    (λ spans e. fill-of c.args.s.now.facets c.args.rule c.args.g.now c.args.k c.push_facets.new.out spans.items
    c.count-closed.ensures.closed
    (spans-below c.args.rule c.args.g.now c.pixels-pixels.result c.rows.result c.push_facets.new.out c.fill_rows.new.out.items spans.items
    same c.rows.ensures.value (e ∙ c.as_slice.ensures.value) c.in_ok-push_facets.ensures.within c.in_ok-fill_rows.ensures.spans)
    (λ below. spans-swept c.args.s.now.facets c.args.g.now c.pixels-pixels.result c.args.k (to_z w64 (of_z w64 c.plane.result)) c.args.rule c.push_facets.new.out spans.items
    same (height c.plane.result c.plane.ensures.within ∙ c.plane.ensures.value) c.in_ok-push_facets.ensures.passed below))
    c.copied.ensures

pub invariant_of-self : goal.invariant_of-self
invariant_of-self g c = record { between_rows = c.args.self.now.between_rows }

pub invariant_of-self-in-Break-branch-2 : goal.invariant_of-self-in-Break-branch-2
invariant_of-self-in-Break-branch-2 g c = record { between_rows = c.args.self.now.between_rows }

pub invariant_of-self-2 : goal.invariant_of-self-2
invariant_of-self-2 g c = record { between_rows = c.fill_rows.ensures.between_rows }

pub returns-in_err-start : goal.returns-in_err-start
returns-in_err-start g c =
    let p = err_from_is_err_and c.from_residual.result c.from_residual.ensures.1 in
    rw p.1 tt

pub returns-in_err-push_facets : goal.returns-in_err-push_facets
returns-in_err-push_facets g c =
    let p = err_from_is_err_and c.from_residual-in_err-push_facets.result c.from_residual-in_err-push_facets.ensures.1 in
    rw p.1 tt

pub returns-in_err-fill_rows : goal.returns-in_err-fill_rows
returns-in_err-fill_rows g c =
    let p = err_from_is_err_and c.from_residual-in_err-fill_rows.result c.from_residual-in_err-fill_rows.ensures.1 in
    rw p.1 tt

pub push_facets-requires-clause-height : goal.push_facets-requires-clause-height
push_facets-requires-clause-height g c = subst (IsAtMost CENTRE_LIMIT) (sym (height c.plane.result c.plane.ensures.within)) c.plane.ensures.within

pub push_facets-requires-clause-list : goal.push_facets-requires-clause-list
push_facets-requires-clause-list g c =
    c.requires.list ∙ ap (λ (z : ℤ). segments c.args.s.now.facets z) (sym (height c.plane.result c.plane.ensures.within ∙ c.plane.ensures.value))

pub push_facets-requires-clause-empty : goal.push_facets-requires-clause-empty
push_facets-requires-clause-empty g c = c.in_ok-start.ensures.empty

pub push_facets-requires-clause-rows : goal.push_facets-requires-clause-rows
push_facets-requires-clause-rows g c = c.in_ok-start.ensures.rows

pub fill_rows-requires-clause-rows : goal.fill_rows-requires-clause-rows
fill_rows-requires-clause-rows g c =
    omega (arith, c.rows.ensures.value, c.pixels-pixels.ensures.rows, c.push_facets.ensures.rows, c.in_ok-start.ensures.rows)

pub fill_rows-requires-clause-within : goal.fill_rows-requires-clause-within
fill_rows-requires-clause-within g c = c.in_ok-push_facets.ensures.within

pub fill_rows-requires-clause-between_rows : goal.fill_rows-requires-clause-between_rows
fill_rows-requires-clause-between_rows g c = c.args.self.now.between_rows

pub fill_rows-requires-clause-empty : goal.fill_rows-requires-clause-empty
fill_rows-requires-clause-empty g c = c.clear.ensures.items
