use Rattle.std.proofs.Common.{◌≡◌, ◌∙◌, rules, to_z, of_z, SFits, w64}
use Rattle.std.proofs.lemmas.Int.{to_z-of_z}
use Rattle.contour.proofs.lemmas.Sweeps.{active_in, active_segments}
use Rattle.contour.proofs.sweep.Sweep.segments.Goals as goal

pub segments_in-requires-clause-numbers : goal.segments_in-requires-clause-numbers
segments_in-requires-clause-numbers g c =
    rw (c.as_slice-numbers.ensures.value, c.self.invariant.active_is)
    (active_in c.self.inside.solid.now.facets c.self.inside.height)

pub returns-clause-segments : goal.returns-clause-segments
returns-clause-segments g c =
    let numbers = c.as_slice-numbers.ensures.value ∙ c.self.invariant.active_is in
    let within = c.self.invariant.within in
    let fits : SFits w64 c.self.inside.height = search rules in
    let same : to_z w64 (of_z w64 c.self.inside.height) ≡ c.self.inside.height = to_z-of_z w64 c.self.inside.height fits in
    let found = rw (same, numbers) at c.in_ok-list.ensures.segments in
    rw (← c.self.view_is) (found ∙ active_segments c.self.inside.solid.now.facets c.self.inside.height)
