-- There is a build of each closed mesh: the loops of each plane close, and its filled pixels are those of some spans.
use Rattle.std.proofs.Common.{◌≡◌, ℕ, zero, suc, ◌+◌, List, [], ◌∷◌, length, refl, ap}
use Rattle.geometry.specs.Facet.{Facet}
use Rattle.mesh_weld.specs.Balance.{IsBalanced}
use Rattle.mesh_weld.specs.Solid.{kept_facets}
use Rattle.mesh_weld.proofs.lemmas.Degenerate.{kept_balanced}
use Rattle.plane_segments.specs.Segment.{segments}
use Rattle.contour.specs.Loops.{loops}
use Rattle.contour.proofs.lemmas.LoopsClose.{closed_loops}
use Rattle.raster.specs.declared.rule.Rule.{Rule}
use Rattle.raster.specs.Grid.{Grid, centre, plane}
use Rattle.raster.specs.Filler.{area_of, is_filled}
use Rattle.build_book.specs.Layer.{Layer, IsLawful, AreLawfulFrom}
use Rattle.build_book.specs.Build.{IsComplete}
use Rattle.build_book.specs.Promise.{job_of}
use Rattle.build_book.proofs.lemmas.SomeSpans.{some_spans}

some_layer : (facets : List Facet) (grid : Grid) (rule : Rule) → IsBalanced facets
    → (k : ℕ) → (layer : Layer) × IsLawful (job_of facets grid rule) k layer
some_layer facets grid rule balanced k =
    let found = some_spans (λ i j. is_filled rule (kept_facets facets) (centre grid i j k)) grid.columns grid.rows in (
      record {
        number = k;
        loops = loops (segments (kept_facets facets) (plane grid k));
        spans = found.0;
        area = area_of grid rule (kept_facets facets) k;
      },
      record {
        number = refl;
        loops_are = refl;
        closed = closed_loops (kept_facets facets) (kept_balanced facets balanced) (plane grid k);
        spans = found.1;
        filled = found.2;
        area = refl;
      },
    )

some_layers : (facets : List Facet) (grid : Grid) (rule : Rule) → IsBalanced facets
    → (from n : ℕ) → (layers : List Layer) × (length layers ≡ n) × AreLawfulFrom (job_of facets grid rule) from layers
some_layers facets grid rule balanced from zero = ([], refl, tt)
some_layers facets grid rule balanced from (suc n) =
    let first : (layer : Layer) × IsLawful (job_of facets grid rule) from layer = some_layer facets grid rule balanced from in
    let rest : (layers : List Layer) × (length layers ≡ n) × AreLawfulFrom (job_of facets grid rule) (from + 1) layers =
    some_layers facets grid rule balanced (from + 1) n in
    (first.0 ∷ rest.0, ap suc rest.1, (first.1, rest.2))

pub some_build : (facets : List Facet) (grid : Grid) (rule : Rule) → IsBalanced facets
    → (layers : List Layer) × IsComplete (job_of facets grid rule) layers
some_build facets grid rule balanced =
    let all : (layers : List Layer) × (length layers ≡ grid.layers) × AreLawfulFrom (job_of facets grid rule) 0 layers =
    some_layers facets grid rule balanced 0 grid.layers in
    (all.0, record { whole = all.1; lawful = all.2 })
