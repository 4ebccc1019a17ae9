-- A task and an input have one outcome.
use Rattle.std.proofs.Common.{◌≡◌, ◌∙◌, ◌⊎◌, ℕ, Bool, true, false, List, ap, inl, inr, refl, subst, sym}
use Rattle.std.specs.Prelude.{Err, Ok, Result}
use Rattle.stl_text.specs.declared.stl_fault.StlFault.{StlFault}
use Rattle.stl_text.specs.Text.{IsFaultOf, Reads}
use Rattle.stl_text.proofs.lemmas.OneReading.{one_reading}
use Rattle.stl_text.proofs.lemmas.OneFault.{not_both, one_fault}
use Rattle.stl_text.proofs.lemmas.Either.{outcome}
use Rattle.geometry.specs.Facet.{Facet}
use Rattle.geometry.specs.declared.limits.TheConstants.{FACET_LIMIT}
use Rattle.mesh_weld.specs.Balance.{HasOpenEdge, IsBalanced, IsLeastOpen}
use Rattle.mesh_weld.specs.Solid.{Solid, solid_of}
use Rattle.mesh_weld.proofs.lemmas.LeastOpen.{closed_not_open, closed_or_open, one_open}
use Rattle.task_words.specs.declared.task.Task.{Task}
use Rattle.task_words.specs.declared.task.Task.TheVariants as task
use Rattle.stlslice.specs.declared.run_fault.RunFault.{RunFault}
use Rattle.stlslice.specs.declared.run_fault.RunFault.TheVariants as fault
use Rattle.stlslice.specs.SlicedText.{output_of}
use Rattle.stlslice.specs.declared.write.Output.TheVariants as output
use Rattle.stlslice.specs.Outcome.{IsMade, IsOutcome, box_text, boxed, closed, is_box, misread, open_mesh, probe_result, sliced, unit_of}

one_made : (t : Task) (solid : Solid) (answer other : Result (List ℕ) RunFault) → IsMade t solid answer → IsMade t solid other → answer ≡ other
one_made (task.Box unit) solid answer other h k = absurd h
one_made (task.Slice unit pitch layer rule workers report grid) solid answer other h k = h ∙ sym k
one_made (task.Png unit pitch layer rule workers grid depth mirrors) solid answer other h k = h ∙ sym k
one_made (task.Probe unit pitch layer grid i j k) solid answer other h l = h ∙ sym l

-- the same reading, where two are known
same_reading : (t : Task) (bytes : List ℕ) (facets others : List Facet) → Reads FACET_LIMIT (unit_of t) bytes facets
    → Reads FACET_LIMIT (unit_of t) bytes others → facets ≡ others
same_reading t bytes facets others h k = one_reading FACET_LIMIT (unit_of t) bytes facets others h k

unreadable : (t : Task) (bytes : List ℕ) (facets : List Facet) (cause : StlFault) → Reads FACET_LIMIT (unit_of t) bytes facets
    → IsFaultOf FACET_LIMIT (unit_of t) bytes cause → ⊥
unreadable t bytes facets cause h k = not_both FACET_LIMIT (unit_of t) bytes facets cause h k

-- no two outcomes
pub one_outcome : (t : Task) (bytes : List ℕ) (answer other : Result (List ℕ) RunFault) → IsOutcome t bytes answer → IsOutcome t bytes other
    → answer ≡ other
one_outcome t bytes answer other (misread c f is) (misread d g js) =
    let same : c ≡ d = one_fault FACET_LIMIT (unit_of t) bytes c d f g in
    is ∙ ap (λ (x : StlFault). Err (fault.Stl x)) same ∙ sym js
one_outcome t bytes answer other (misread c f is) (boxed fs r b js) = absurd (unreadable t bytes fs c r f)
one_outcome t bytes answer other (misread c f is) (open_mesh fs r b from to there back o js) = absurd (unreadable t bytes fs c r f)
one_outcome t bytes answer other (misread c f is) (closed fs r b e m) = absurd (unreadable t bytes fs c r f)
one_outcome t bytes answer other (boxed fs r b is) (misread c f js) = absurd (unreadable t bytes fs c r f)
one_outcome t bytes answer other (boxed fs r b is) (boxed gs q c js) =
    is ∙ ap (λ (x : List Facet). Ok (box_text x)) (same_reading t bytes fs gs r q) ∙ sym js
one_outcome t bytes answer other (boxed fs r b is) (open_mesh gs q c from to there back o js) = absurd (cc)
one_outcome t bytes answer other (boxed fs r b is) (closed gs q c e m) = absurd (cc)
one_outcome t bytes answer other (open_mesh fs r b from to there back o is) (misread c f js) = absurd (unreadable t bytes fs c r f)
one_outcome t bytes answer other (open_mesh fs r b from to there back o is) (boxed gs q c js) = absurd (cc)
one_outcome t bytes answer other (open_mesh fs r b from to there back o is) (open_mesh gs q c from2 to2 there2 back2 p js) =
    let moved : IsLeastOpen fs from2 to2 there2 back2 =
    subst (λ (x : List Facet). IsLeastOpen x from2 to2 there2 back2) (sym (same_reading t bytes fs gs r q)) p in
    let same = one_open fs from to from2 to2 there back there2 back2 o moved in
    let is0 = same.0 in
    let is1 = same.1 in
    let is2 = same.2 in
    let is3 = same.3 in
    cc
one_outcome t bytes answer other (open_mesh fs r b from to there back o is) (closed gs q c e m) =
    absurd (closed_not_open gs from to there back e
    (subst (λ (x : List Facet). IsLeastOpen x from to there back) (same_reading t bytes fs gs r q) o))
one_outcome t bytes answer other (closed fs r b e m) (misread c f js) = absurd (unreadable t bytes fs c r f)
one_outcome t bytes answer other (closed fs r b e m) (boxed gs q c js) = absurd (cc)
one_outcome t bytes answer other (closed fs r b e m) (open_mesh gs q c from to there back o js) =
    absurd (closed_not_open gs from to there back (subst (λ (x : List Facet). IsBalanced x) (same_reading t bytes fs gs r q) e) o)
one_outcome t bytes answer other (closed fs r b e m) (closed gs q c f n) =
    one_made t (solid_of gs) answer other
    (subst (λ (x : List Facet). IsMade t (solid_of x) answer) (same_reading t bytes fs gs r q) m) n

-- some outcome

a_made : (t : Task) (solid : Solid) → is_box t ≡ false → (answer : Result (List ℕ) RunFault) × IsMade t solid answer
a_made (task.Box unit) solid h = cc
a_made (task.Slice unit pitch layer rule workers report grid) solid h = (sliced grid pitch layer rule (output_of report) solid.facets, refl)
a_made (task.Png unit pitch layer rule workers grid depth mirrors) solid h =
    (sliced grid pitch layer rule (output.Pngs depth mirrors) solid.facets, refl)
a_made (task.Probe unit pitch layer grid i j k) solid h = (probe_result grid pitch layer i j k solid.facets, refl)

pub an_outcome : (t : Task) (bytes : List ℕ) → (answer : Result (List ℕ) RunFault) × IsOutcome t bytes answer
an_outcome t bytes = by_text (outcome FACET_LIMIT (unit_of t) bytes)
  where
    An : Type 0
    An = (answer : Result (List ℕ) RunFault) × IsOutcome t bytes answer

    by_mesh : (facets : List Facet) → Reads FACET_LIMIT (unit_of t) bytes facets → is_box t ≡ false
        → IsBalanced facets ⊎ HasOpenEdge facets → An
    by_mesh facets reads other (inl balanced) =
        let made = a_made t (solid_of facets) other in
        (made.0, closed facets reads other balanced made.1)
    by_mesh facets reads other (inr o) =
        (Err (fault.Open o.0 o.1 o.2 o.3), open_mesh facets reads other o.0 o.1 o.2 o.3 o.4 refl)

    by_task : (facets : List Facet) → Reads FACET_LIMIT (unit_of t) bytes facets → (b : Bool) → is_box t ≡ b → An
    by_task facets reads true h = (Ok (box_text facets), boxed facets reads h refl)
    by_task facets reads false h = by_mesh facets reads h (closed_or_open facets)

    by_text : ((facets : List Facet) × Reads FACET_LIMIT (unit_of t) bytes facets)
        ⊎ ((cause : StlFault) × IsFaultOf FACET_LIMIT (unit_of t) bytes cause) → An
    by_text (inl h) = by_task h.0 h.1 (is_box t) refl
    by_text (inr h) = (Err (fault.Stl h.0), misread h.0 h.1 refl)
