-- A lawful layer is as promised, and no other layer is. A job has one complete build at most.
use Rattle.std.proofs.Common.{◌≡◌, ℕ, zero, suc, ◌+◌, ◌<◌, List, [], ◌∷◌, length, refl, sym, ◌∙◌, ap, subst, arith, Some, slice_get}
use Rattle.std.specs.List.{AllByRecursion}
use Rattle.std.proofs.lemmas.Bool.Decides.{Decides-at, same_from_decides}
use Rattle.geometry.specs.Facet.{Facet}
use Rattle.geometry.specs.Winding.{ray}
use Rattle.mesh_weld.specs.Solid.{kept_facets}
use Rattle.mesh_weld.proofs.lemmas.Degenerate.{kept_ray}
use Rattle.plane_segments.specs.declared.segment.Segment.{Segment}
use Rattle.plane_segments.specs.Segment.{segments}
use Rattle.plane_segments.proofs.lemmas.Nodes.{node-is}
use Rattle.contour.specs.Loops.{Closes, IsCycle, follower}
use Rattle.contour.proofs.lemmas.LoopWinds.{at_node}
use Rattle.contour.proofs.lemmas.Unique.{loops-are}
use Rattle.raster.specs.declared.rule.Rule.{Rule}
use Rattle.raster.specs.declared.span.Span.{Span}
use Rattle.raster.specs.Grid.{Grid, centre, plane}
use Rattle.raster.specs.Rule.{is_inside}
use Rattle.raster.proofs.lemmas.Rules.{inside_decides}
use Rattle.raster.specs.Span.{covers}
use Rattle.build_book.specs.Job.{Job}
use Rattle.build_book.specs.Layer.{Layer, IsLawful, AreLawfulFrom}
use Rattle.build_book.specs.Build.{IsComplete}
use Rattle.build_book.specs.Promise.{IsClosed, IsPromised, LeadsTo, job_of, pixel_count}
use Rattle.build_book.proofs.lemmas.OneLayer.{one_layer, one_list}
use Rattle.build_book.proofs.lemmas.Areas.{span_area-is, spans_sum}

-- ---- loops

follower-starts : (list : List Segment) (s t : Segment) → follower list s ≡ Some t → s.to ≡ t.from
follower-starts list s t h = sym (node-is t.from s.to (at_node list s t h))

ends_at : (list : List Segment) (first : Segment) (loop : List Segment) → Closes list first loop → LeadsTo first.from loop
ends_at list first [] h = h
ends_at list first (s ∷ []) h = follower-starts list s first h
ends_at list first (s ∷ t ∷ rest) h = (follower-starts list s t h.0, ends_at list first (t ∷ rest) h.1)

cycle-closed : (list loop : List Segment) → IsCycle list loop → IsClosed loop
cycle-closed list [] h = h
cycle-closed list (s ∷ rest) h = ends_at list s (s ∷ rest) h

pub cycles-closed : (list : List Segment) (found : List (List Segment)) → AllByRecursion (IsCycle list) found → AllByRecursion IsClosed found
cycles-closed list [] h = tt
cycles-closed list (loop ∷ found) h = (cycle-closed list loop h.0, cycles-closed list found h.1)

-- ---- one layer

pub lawful_promised : (facets : List Facet) (grid : Grid) (rule : Rule) (k : ℕ) (layer : Layer)
    → IsLawful (job_of facets grid rule) k layer → IsPromised facets grid rule k layer
lawful_promised facets grid rule k layer lawful = record {
  number = lawful.number;
  closed = cycles-closed (segments (kept_facets facets) (plane grid k)) layer.loops lawful.closed.cycles;
  loops = lawful.closed;
  spans = lawful.spans;
  filled = λ i j x y. Decides-at _ _ (lawful.filled i j x y ∙ ap (is_inside rule) (kept_ray facets (centre grid i j k)))
      (inside_decides rule (ray facets (centre grid i j k)));
  area = lawful.area
      ∙ sym (span_area-is grid rule (kept_facets facets) k layer.spans lawful.spans lawful.filled)
      ∙ sym (spans_sum grid.columns grid.rows layer.spans lawful.spans.within lawful.spans.apart);
}

pub promised_once : (facets : List Facet) (grid : Grid) (rule : Rule) (k : ℕ) (a b : Layer)
    → IsPromised facets grid rule k a → IsPromised facets grid rule k b → a ≡ b
promised_once facets grid rule k a b p q =
    let list : List Segment = segments (kept_facets facets) (plane grid k) in
    let loops_are : a.loops ≡ b.loops =
    loops-are (kept_facets facets) list (plane grid k, refl) a.loops p.loops
    ∙ sym (loops-are (kept_facets facets) list (plane grid k, refl) b.loops q.loops) in
    let spans_are : a.spans ≡ b.spans =
    one_list grid.columns grid.rows a.spans b.spans p.spans q.spans
    (λ i j x y. same_from_decides _ _ (p.filled i j x y) (q.filled i j x y)) in
    λ i. record {
      number = (p.number ∙ sym q.number) i;
      loops = loops_are i;
      spans = spans_are i;
      area = (p.area ∙ ap (λ (spans : List Span). pixel_count grid (covers spans)) spans_are ∙ sym q.area) i;
    }

-- ---- all layers

pub lawful_at : (job : Job) (from : ℕ) (layers : List Layer) → AreLawfulFrom job from layers
    → (k : ℕ) (layer : Layer) → slice_get layers k ≡ Some layer → IsLawful job (from + k) layer
lawful_at job from [] all k layer h = cc
lawful_at job from (first ∷ layers) all zero layer h =
    let same : first ≡ layer = cc in
    subst (λ n. IsLawful job n layer) (omega arith) (subst (IsLawful job from) same all.0)
lawful_at job from (first ∷ layers) all (suc k) layer h =
    subst (λ n. IsLawful job n layer) (omega arith) (lawful_at job (from + 1) layers all.1 k layer h)

pub one_build : (job : Job) (from : ℕ) (xs ys : List Layer) → length xs ≡ length ys
    → AreLawfulFrom job from xs → AreLawfulFrom job from ys → xs ≡ ys
one_build job from [] [] long all all' = refl
one_build job from [] (y ∷ ys) long all all' = absurd (omega (arith, long))
one_build job from (x ∷ xs) [] long all all' = absurd (omega (arith, long))
one_build job from (x ∷ xs) (y ∷ ys) long all all' =
    let first : x ≡ y = one_layer job from x y all.0 all'.0 in
    let rest : xs ≡ ys = one_build job (from + 1) xs ys (omega (arith, long)) all.1 all'.1 in
    λ i. first i ∷ rest i

pub layer_stands : (layers : List Layer) (k : ℕ) → k < length layers → (layer : Layer) × (slice_get layers k ≡ Some layer)
layer_stands [] k low = absurd (omega (arith, low))
layer_stands (layer ∷ layers) zero low = (layer, refl)
layer_stands (layer ∷ layers) (suc k) low = layer_stands layers k (omega (arith, low))

pub build_promised : (facets : List Facet) (grid : Grid) (rule : Rule) (layers : List Layer) → IsComplete (job_of facets grid rule) layers
    → (k : ℕ) (layer : Layer) → slice_get layers k ≡ Some layer → IsPromised facets grid rule k layer
build_promised facets grid rule layers complete k layer h =
    lawful_promised facets grid rule k layer
    (subst (λ n. IsLawful (job_of facets grid rule) n layer) (omega arith) (lawful_at (job_of facets grid rule) 0 layers complete.lawful k layer h))
