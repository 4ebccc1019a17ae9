use Rattle.std.proofs.Common.{◌≡◌, Decides, false, sym, ap, ◌∙◌}
use Rattle.std.proofs.lemmas.Slice.Eq.{slice_eq-Decides, bytes_eq-Decides}
use Rattle.mesh_weld.specs.Solid.{Solid, facets_by, triples, vertices}
use Rattle.mesh_weld.proofs.lemmas.Order.{points_decide}
use Rattle.mesh_weld.proofs.solid.Solid.has_facets_of.Given.{Over}
use Rattle.mesh_weld.proofs.solid.Solid.has_facets_of.Goals.{After-eq}
use Rattle.mesh_weld.proofs.solid.Solid.has_facets_of.Goals as goal

points_decided : (g : Over) (c : After-eq g) → Decides c.eq.result (c.self.inside.numbering.points.items ≡ c.other.inside.numbering.points.items)
points_decided g c =
    let d : Decides c.eq.result (c.as_slice.result.now ≡ c.as_slice-2.result.now) = slice_eq-Decides points_decide _ _ c.eq.result c.eq.ensures in
    (λ t. sym c.as_slice.ensures.value ∙ d.0 t ∙ c.as_slice-2.ensures.value, λ e. d.1 (c.as_slice.ensures.value ∙ e ∙ sym c.as_slice-2.ensures.value))

-- what is stored, if the facets are equal
stored : (g : Over) (c : After-eq g) → c.args.self.now.facets ≡ c.args.other.now.facets
    → facets_by c.self.inside.numbering.points.items c.self.inside.numbering.numbers.items ≡ facets_by c.other.inside.numbering.points.items c.other.inside.numbering.numbers.items
stored g c e = ap (λ (s : Solid). s.facets) c.self.view_is ∙ e ∙ sym (ap (λ (s : Solid). s.facets) c.other.view_is)

pub returns-then-eq : goal.returns-then-eq
returns-then-eq g c =
    let at = goal.at.returns-then-eq g c in
    let numbers : Decides c.eq-then-eq.result (c.as_slice-then-eq.result.now ≡ c.as_slice-then-eq-2.result.now) = slice_eq-Decides bytes_eq-Decides _ _ c.eq-then-eq.result c.eq-then-eq.ensures in (
      λ t.
          let same_points = (points_decided g at.After-eq).0 c.if-eq.true in
          let same_numbers = sym c.as_slice-then-eq.ensures.value ∙ numbers.0 t ∙ c.as_slice-then-eq-2.ensures.value in
          sym (ap (λ (s : Solid). s.facets) c.self.view_is) ∙ (λ i. facets_by (same_points i) (same_numbers i)) ∙ ap (λ (s : Solid). s.facets) c.other.view_is,
      λ e.
          numbers.1
          (c.as_slice-then-eq.ensures.value ∙ c.self.invariant.0.numbers_are ∙ ap triples (stored g at.After-eq e) ∙ sym c.other.invariant.0.numbers_are
          ∙ sym c.as_slice-then-eq-2.ensures.value),
    )

pub returns-else-eq : goal.returns-else-eq
returns-else-eq g c =
    let at = (goal.at.returns-else-eq g c).After-eq in (
      λ t. let not : c.eq.result ≡ false = c.if-eq.false in cc,
      λ e. (points_decided g at).1 (c.self.invariant.0.points_are ∙ ap vertices (stored g at e) ∙ sym c.other.invariant.0.points_are),
    )
