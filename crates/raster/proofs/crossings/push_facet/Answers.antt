use Rattle.std.proofs.Common.{refl, subst, sym}
use Rattle.std.specs.Prelude.{ℤ}
use Rattle.std.proofs.lemmas.Int.{to_z-of_z}
use Rattle.std.proofs.lemmas.Result.{on_ok_weaker}
use mir.Syntax.{w64}
use Rattle.exact_int.specs.Bounds.{IsAtMost}
use Rattle.exact_int.proofs.lemmas.Sizes.{within}
use Rattle.geometry.specs.Facet.{twice}
use Rattle.exact_cut.specs.Walk.{IsWalkOf}
use Rattle.exact_cut.specs.Lattice.{IsUncrossed}
use Rattle.raster.specs.Crossings.{row_passed, row_signs}
use Rattle.raster.proofs.lemmas.Walks.{columns-few, nothing-more, passed-more, passed-none, signs-more, within-more}
use Rattle.raster.proofs.crossings.push_facet.Goals as goal
use Rattle.geometry.specs.declared.limits.TheConstants.{CENTRE_LIMIT, COLUMN_LIMIT}

pub returns-in-Some-clause-signs : goal.returns-in-Some-clause-signs
returns-in-Some-clause-signs g c =
    let walked = subst (λ (z : ℤ). IsWalkOf (twice c.args.facet.now) z c.args.lattice.now c.in-Some.walk) (to_z-of_z w64 c.args.z2 c.ranges.z2) c.in-Some.ensures in
    on_ok_weaker c.push_walk.result (λ e. signs-more (twice c.args.facet.now) c.args.z2 c.args.lattice.now c.in-Some.walk c.args.out.now c.push_walk.new.out walked e) c.push_walk.ensures.added

pub returns-in-Some-clause-passed : goal.returns-in-Some-clause-passed
returns-in-Some-clause-passed g c =
    let walked = subst (λ (z : ℤ). IsWalkOf (twice c.args.facet.now) z c.args.lattice.now c.in-Some.walk) (to_z-of_z w64 c.args.z2 c.ranges.z2) c.in-Some.ensures in
    on_ok_weaker c.push_walk.result (λ e. passed-more (twice c.args.facet.now) c.args.z2 c.args.lattice.now c.in-Some.walk c.args.out.now c.push_walk.new.out walked e) c.push_walk.ensures.added

pub returns-in-Some-clause-within : goal.returns-in-Some-clause-within
returns-in-Some-clause-within g c = λ k.
    let walked = subst (λ (z : ℤ). IsWalkOf (twice c.args.facet.now) z c.args.lattice.now c.in-Some.walk) (to_z-of_z w64 c.args.z2 c.ranges.z2) c.in-Some.ensures in
    on_ok_weaker c.push_walk.result (λ e. within-more (twice c.args.facet.now) c.args.z2 c.args.lattice.now c.in-Some.walk c.args.out.now c.push_walk.new.out walked e k) c.push_walk.ensures.added

pub returns-in-None-clause-passed : goal.returns-in-None-clause-passed
returns-in-None-clause-passed g c =
    let uncrossed = subst (λ (z : ℤ). IsUncrossed (twice c.args.facet.now) z c.args.lattice.now) (to_z-of_z w64 c.args.z2 c.ranges.z2) c.in-None.ensures in
    λ i j inside low. passed-none (twice c.args.facet.now) c.args.z2 c.args.lattice.now (row_passed c.args.out.now j i) uncrossed i j low

pub start-requires : goal.start-requires
start-requires g c = subst (IsAtMost CENTRE_LIMIT) (sym (to_z-of_z w64 c.args.z2 c.ranges.z2)) c.requires.height

pub push_walk-requires-clause-few_rows : goal.push_walk-requires-clause-few_rows
push_walk-requires-clause-few_rows g c = within _ c.args.lattice.now.rows COLUMN_LIMIT c.in-Some.ensures.in_rows c.args.lattice.now.rows_in

pub push_walk-requires-clause-rows : goal.push_walk-requires-clause-rows
push_walk-requires-clause-rows g c = within _ c.args.lattice.now.rows _ c.in-Some.ensures.in_rows c.requires.rows

pub returns-in-Some-clause-rows : goal.returns-in-Some-clause-rows
returns-in-Some-clause-rows g c = c.push_walk.ensures.rows

pub returns-in-None-clause-rows : goal.returns-in-None-clause-rows
returns-in-None-clause-rows g c = refl

pub returns-in-None-clause-signs : goal.returns-in-None-clause-signs
returns-in-None-clause-signs g c =
    let uncrossed = subst (λ (z : ℤ). IsUncrossed (twice c.args.facet.now) z c.args.lattice.now) (to_z-of_z w64 c.args.z2 c.ranges.z2) c.in-None.ensures in
    λ j low. nothing-more (row_signs c.args.out.now j) _ (uncrossed j low)

pub returns-in-None-clause-within : goal.returns-in-None-clause-within
returns-in-None-clause-within g c = λ h. h

pub push_walk-requires-clause-few_columns : goal.push_walk-requires-clause-few_columns
push_walk-requires-clause-few_columns g c = columns-few _ _ c.args.lattice.now c.in-Some.walk c.in-Some.ensures c.args.lattice.now.columns_in
