use Rattle.std.proofs.Common.{◌≡◌, ◌≤◌, length, map, ap, ◌∙◌, subst, arith}
use Rattle.std.proofs.lemmas.List.{length-map}
use Rattle.std.proofs.lemmas.Result.{err_from_is_err_and}
use Rattle.geometry.specs.Facet.{corners}
use Rattle.geometry.specs.Winding.{ray}
use Rattle.geometry.specs.declared.limits.TheConstants.{FACET_LIMIT}
use Rattle.mesh_weld.specs.Balance.{IsBalanced}
use Rattle.mesh_weld.specs.Welder.{Welder}
use Rattle.mesh_weld.specs.Solid.{facet_by, facets_by, number_of, solid_of, vertices}
use Rattle.mesh_weld.specs.Welding.{IsKeptFault}
use Rattle.mesh_weld.proofs.lemmas.Degenerate.{balanced_by_kept, kept_ray}
use Rattle.mesh_weld.proofs.lemmas.FacetNumbers.{numbered_again}
use Rattle.mesh_weld.proofs.lemmas.Welds.{degenerate_count, kept_weld_fault}
use Rattle.mesh_weld.proofs.welder.NamedFacets.into_solid.Given.{Over}
use Rattle.mesh_weld.proofs.welder.NamedFacets.into_solid.Goals.{In_ok-numbering}
use Rattle.mesh_weld.proofs.welder.NamedFacets.into_solid.Goals as goal

pub returns-in_err-numbering : goal.returns-in_err-numbering
returns-in_err-numbering g c =
    let p = err_from_is_err_and c.from_residual.result c.from_residual.ensures.1 in
    rw (p.1, p.2)
    (kept_weld_fault (facets_by c.args.self.points.items c.args.self.ids.items) c.args.self.degenerate.items c.in_err-numbering.field-0.0
    (subst (λ l. IsKeptFault (facets_by c.args.self.points.items c.args.self.ids.items) l c.in_err-numbering.field-0.0) c.as_slice.ensures.value c.in_err-numbering.ensures.open))

-- the numbers lead to the facets that the ids name
facets_again : (g : Over) (c : In_ok-numbering g)
    → facets_by c.in_ok-numbering.numbering.points.items c.in_ok-numbering.numbering.numbers.items ≡ facets_by c.args.self.points.items c.args.self.ids.items
facets_again g c =
    let n = c.in_ok-numbering.ensures.numbering in
    numbered_again (facets_by c.args.self.points.items c.args.self.ids.items) c.in_ok-numbering.numbering.points.items c.in_ok-numbering.numbering.numbers.items n.points_are n.numbers_are

few : (g : Over) (c : In_ok-numbering g) → length c.in_ok-numbering.numbering.numbers.items ≤ FACET_LIMIT
few g c =
    omega (arith, ap length c.in_ok-numbering.ensures.numbering.numbers_are, length-map (facets_by c.args.self.points.items c.args.self.ids.items) (λ t. map (number_of (vertices (facets_by c.args.self.points.items c.args.self.ids.items))) (corners t)), length-map c.args.self.ids.items (facet_by c.args.self.points.items), c.requires.few)

pub invariant_of-result : goal.invariant_of-result
invariant_of-result g c =
    let at = goal.at.invariant_of-result g c in
    let again = facets_again g at.In_ok-numbering in
    (rw again c.in_ok-numbering.ensures.numbering, few g at.In_ok-numbering, rw again c.requires.named.distinct)

pub returns : goal.returns
returns g c =
    let again = facets_again g (goal.at.returns g c).In_ok-numbering in
    record {
      kept = λ facets e.
          let count : c.len-dropped.result ≡ (solid_of facets).dropped =
          omega (arith, ap (λ (p : Welder). length p.degenerate) e, degenerate_count facets, c.args.self.degenerate.ok.0) in
          λ i. record { facets = (again ∙ ap (λ (p : Welder). p.kept) e) i; dropped = count i };
      closed = λ facets e. balanced_by_kept facets (subst IsBalanced (ap (λ (p : Welder). p.kept) e) c.in_ok-numbering.ensures.numbering.closed);
      ray = λ facets e place. ap (λ l. ray l place) (again ∙ ap (λ (p : Welder). p.kept) e) ∙ kept_ray facets place;
      «open» = λ facets e. tt;
      only = λ facets e balanced. tt;
    }
