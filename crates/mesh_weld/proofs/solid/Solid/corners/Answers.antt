use Rattle.std.proofs.Common.{◌≡◌, ◌<◌, ◌+◌, ◌∙◌, ℕ, rules, arith, ap, refl, sym, subst, take, fold, get_or, length, List}
use Rattle.std.specs.Prelude.{All, Contains, None, Some, slice_get, flat_map}
use Rattle.std.proofs.lemmas.Option.{slice_get_within, get_or_from_slice_get}
use Rattle.std.proofs.lemmas.List.{take_all}
use Rattle.std.proofs.lemmas.List.Sums.{fold_more}
use Rattle.geometry.specs.BoundingBox.{greatest_of, least_of}
use Rattle.geometry.specs.Facet.{corners}
use Rattle.geometry.specs.Point.{Point}
use Rattle.geometry.proofs.lemmas.Boxes.{box-alike, no-box}
use Rattle.mesh_weld.specs.Solid.{vertices}
use Rattle.mesh_weld.proofs.lemmas.InOrder.{in_order-covers, in_order-within}
use Rattle.mesh_weld.proofs.solid.Solid.corners.Given.{Over}
use Rattle.mesh_weld.proofs.solid.Solid.corners.Goals.{After-as_slice-points}
use Rattle.mesh_weld.proofs.solid.Solid.corners.Goals as goal

points_are : (g : Over) (c : After-as_slice-points g) → c.as_slice-points.result.now ≡ vertices c.args.self.now.facets
points_are g c = rw (← c.self.view_is) (c.as_slice-points.ensures.value ∙ c.self.invariant.0.points_are)

covered : (g : Over) (c : After-as_slice-points g) → All (Contains c.as_slice-points.result.now) (flat_map corners c.args.self.now.facets)
covered g c =
    let cs = flat_map corners c.args.self.now.facets in
    subst (λ (ps : List Point). All (Contains ps) cs) (sym (points_are g c)) (in_order-covers cs)

-- one more item of a fold
next-fold : (f : Point → Point → Point) (start so_far : Point) (ps : List Point) (i : ℕ) (d : Point) → so_far ≡ fold f start (take i ps) → d ≡ get_or ps i d → i < length ps → f so_far d ≡ fold f start (take (i + 1) ps)
next-fold f start so_far ps i d e is low = ap (λ (p : Point). f p d) e ∙ ap (f (fold f start (take i ps))) is ∙ sym (fold_more f start ps i d low)

pub returns-in_err-start : goal.returns-in_err-start
returns-in_err-start g c =
    let at = (goal.at.returns-in_err-start g c).After-as_slice-points in
    let ps = c.as_slice-points.result.now in
    let none : slice_get ps 0 ≡ None = search rules in
    c.from_residual.ensures ∙ sym (no-box ps (flat_map corners c.args.self.now.facets) none (covered g at))

pub returns : goal.returns
returns g c =
    let at = (goal.at.returns g c).After-as_slice-points in
    let ps = c.as_slice-points.result.now in
    let cs = flat_map corners c.args.self.now.facets in
    let start = c.in_ok-start.field-0.now in
    let first : slice_get ps 0 ≡ Some start = sym {a = Some start} c.in_ok-start.ensures.value in
    let within : All (Contains cs) ps = subst (λ (qs : List Point). All (Contains cs) qs) (sym (points_are g at)) (in_order-within cs) in
    let walked : take c.loop-point.point-index ps ≡ ps = take_all c.loop-point.point-index ps (omega (arith, c.loop-point-test.false)) in
    box-alike ps cs start c.loop-point.low c.loop-point.high (0, slice_get_within ps 0 start first, get_or_from_slice_get ps 0 start start first)
    within (covered g at) (c.loop-point.invariant.low_is ∙ ap (fold least_of start) walked) (c.loop-point.invariant.high_is ∙ ap (fold greatest_of start) walked)

pub loop-point-init : goal.loop-point-init
loop-point-init g c = record { low_is = refl; high_is = refl }

pub loop-point-preserved : goal.loop-point-preserved
loop-point-preserved g c =
    let ps = c.as_slice-points.result.now in
    let start = c.in_ok-start.field-0.now in
    let i = c.loop-point.point-index in
    let d = c.point-item.result in
    record {
      low_is = c.lower-low.ensures ∙ next-fold least_of start c.loop-point.low ps i d c.loop-point.invariant.low_is c.point-item.is c.loop-point-test.true;
      high_is = c.higher-high.ensures ∙ next-fold greatest_of start c.loop-point.high ps i d c.loop-point.invariant.high_is c.point-item.is c.loop-point-test.true;
    }
