use Rattle.std.proofs.Common.{◌≡◌, false, to_z, of_z, w32, w64}
use Rattle.std.specs.Prelude.{pos, ◌*ℤ◌}
use Rattle.std.proofs.lemmas.Int.{to_z-of_z}
use Rattle.geometry.specs.TieRule.{is_above}
use Rattle.contour.proofs.lemmas.Blocks.{block_ended, block_started}
use Rattle.contour.proofs.lemmas.Pushes.{top-read}
use Rattle.contour.proofs.active.pass_block.Given.{Over}
use Rattle.contour.proofs.active.pass_block.Goals.{Then-not-is_above}
use Rattle.contour.proofs.active.pass_block.Goals as goal

under : (g : Over) (c : Then-not-is_above g) → is_above (pos 2 *ℤ c.args.top) c.args.z2 ≡ false
under g c =
    top-read c.args.z2 (to_z w64 (of_z w64 c.args.z2)) c.args.top (to_z w32 (of_z w32 c.args.top)) c.is_above.result false
    (to_z-of_z w64 c.args.z2 c.ranges.z2) (to_z-of_z w32 c.args.top c.ranges.top) c.is_above.ensures c.if-not-is_above.true

pub returns-then-not-is_above-clause-count : goal.returns-then-not-is_above-clause-count
returns-then-not-is_above-clause-count g c =
    block_started c.args.s.now.facets c.args.z2 c.args.top c.args.block.now c.requires.top
    (under g (goal.at.returns-then-not-is_above-clause-count g c).Then-not-is_above)

pub returns-then-not-is_above-clause-active : goal.returns-then-not-is_above-clause-active
returns-then-not-is_above-clause-active g c =
    block_ended c.args.s.now.facets c.args.z2 c.args.top c.args.block.now c.requires.top
    (under g (goal.at.returns-then-not-is_above-clause-active g c).Then-not-is_above) c.args.active.now.items

pub returns-clause-count : goal.returns-clause-count
returns-clause-count g c =
    let same : to_z w64 (of_z w64 c.args.z2) ≡ c.args.z2 = to_z-of_z w64 c.args.z2 c.ranges.z2 in
    rw same at c.in_ok-count.ensures.count

pub returns-clause-active : goal.returns-clause-active
returns-clause-active g c =
    let same : to_z w64 (of_z w64 c.args.z2) ≡ c.args.z2 = to_z-of_z w64 c.args.z2 c.ranges.z2 in
    rw same at c.in_ok-count.ensures.active
