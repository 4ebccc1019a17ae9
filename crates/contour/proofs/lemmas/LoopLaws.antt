-- The laws of loops: the windings round a cycle cancel, and a plane's loops are one list.
use Rattle.std.proofs.Common.{◌≡◌, List, [], ◌∷◌, inl, inr, refl, sym, ◌∙◌, subst}
use Rattle.std.specs.Prelude.{ℤ, pos}
use Rattle.std.specs.List.{AllByRecursion}
use Rattle.std.proofs.lemmas.List.Elements.{recursion_from_All}
use Rattle.geometry.specs.Facet.{Facet, twice}
use Rattle.geometry.specs.Winding.{total, wind}
use Rattle.plane_segments.specs.declared.segment.Segment.{Segment}
use Rattle.plane_segments.specs.Segment.{segments}
use Rattle.contour.specs.Loops.{AreLoops, IsCycle, loop_facets}
use Rattle.contour.proofs.lemmas.LoopWinds.{cycle_winds-cancel}
use Rattle.contour.proofs.lemmas.Runs.{Runs, segments_run}
use Rattle.contour.proofs.lemmas.Unique.{Has, cycle-has, loops-are}

pub at_member : (P : Segment → Type 0) (list : List Segment) (s : Segment) → AllByRecursion P list → Has s list → P s
at_member P [] s all h = absurd h
at_member P (x ∷ list) s all (inl e) = subst P (sym e) all.0
at_member P (x ∷ list) s all (inr h) = at_member P list s all.1 h

pub at_all : (P : Segment → Type 0) (list : List Segment) → ((s : Segment) → Has s list → P s) → AllByRecursion P list
at_all P [] each = tt
at_all P (x ∷ list) each = (each x (inl refl), at_all P list (λ s h. each s (inr h)))

pub loop_winds-cancel : (facets : List Facet) (loop : List Segment) (y z : ℤ) → IsCycle (segments facets z) loop
    → total (λ t. wind (twice t) y z) (loop_facets facets loop) ≡ pos 0
loop_winds-cancel facets loop y z closes =
    let list = segments facets z in
    let runs : AllByRecursion (Runs facets z) loop =
    at_all (Runs facets z) loop (λ s h. at_member (Runs facets z) list s (recursion_from_All (Runs facets z) list (segments_run facets z)) (cycle-has list loop s closes h)) in
    cycle_winds-cancel facets y z list loop runs closes

pub loops-are_one : (facets : List Facet) (z : ℤ) (a b : List (List Segment)) → AreLoops (segments facets z) a → AreLoops (segments facets z) b → a ≡ b
loops-are_one facets z a b h k =
    let list = segments facets z in
    loops-are facets list (z, refl) a h ∙ sym (loops-are facets list (z, refl) b k)
