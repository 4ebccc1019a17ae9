-- What slicing writes follows the loops of all planes and the rays of all facets that were read.
use Rattle.std.proofs.Common.{◌≡◌, ◌∙◌, ◌++◌, ℕ, Bool, List, Option, Some, ap, length, refl, subst, sym}
use Rattle.std.specs.List.{AllByRecursion}
use Rattle.std.specs.Prelude.{◌↔◌, Err, IsTrue, Ok, Result, flat_map, sum_by}
use Rattle.std.specs.Io.KnownBytes.{Appends}
use Rattle.std.proofs.lemmas.Bool.Decides.{Decides-at, same_from_decides}
use Rattle.micro_num.specs.declared.unit.Unit.{Unit as LengthUnit}
use Rattle.stl_text.specs.Text.{Reads}
use Rattle.geometry.specs.Facet.{Facet}
use Rattle.geometry.specs.Winding.{ray}
use Rattle.geometry.specs.declared.limits.TheConstants.{FACET_LIMIT}
use Rattle.mesh_weld.specs.Balance.{IsBalanced}
use Rattle.mesh_weld.specs.Solid.{kept_facets}
use Rattle.mesh_weld.proofs.lemmas.Degenerate.{kept_balanced, kept_ray}
use Rattle.plane_segments.specs.declared.segment.Segment.{Segment}
use Rattle.plane_segments.specs.Segment.{segments}
use Rattle.contour.specs.Loops.{AreLoops, loops}
use Rattle.contour.proofs.lemmas.LoopsClose.{closed_loops}
use Rattle.contour.proofs.lemmas.Unique.{loops-are}
use Rattle.raster.specs.Filler.{below, is_filled}
use Rattle.raster.specs.Grid.{Grid, centre, plane}
use Rattle.raster.specs.Image.{image_of_pixels}
use Rattle.raster.specs.Rule.{IsInside, is_inside}
use Rattle.raster.specs.declared.grid.GridFault.{GridFault}
use Rattle.raster.specs.declared.rule.Rule.{Rule}
use Rattle.raster.proofs.lemmas.Rules.{inside_decides}
use Rattle.layer_png.specs.Text.{png_of_pixels}
use Rattle.build_book.specs.Promise.{IsClosed, pixel_count}
use Rattle.build_book.proofs.lemmas.Promise.{cycles-closed}
use Rattle.devices.specs.Transcript.{Transcript}
use Rattle.task_words.specs.declared.task.Given.{Given}
use Rattle.task_words.specs.declared.task.Task.{Task}
use Rattle.stlslice.specs.Run.{IsRun, OfInput}
use Rattle.stlslice.specs.Outcome.{IsOutcome, grid_for, sliced, slicing, with_grid}
use Rattle.stlslice.specs.SlicedText.{line_of_layer, sliced_text, total_line}
use Rattle.stlslice.proofs.lemmas.Pngs.{placed_size, pngs_read}
use Rattle.stlslice.proofs.lemmas.Slicing.{of_outcome, outcome_there}
use Rattle.stlslice.specs.WrittenPixels.{IsSlicedFrom, text_of_pixels}
use Rattle.stlslice.specs.declared.write.Output.{Output}
use Rattle.stlslice.specs.declared.write.Output.TheVariants as output

-- a voxel that the kept facets fill is one whose ray is inside, where all facets count
filled_decides : (facets : List Facet) (grid : Grid) (rule : Rule) (i j k : ℕ)
    → IsTrue (is_filled rule (kept_facets facets) (centre grid i j k)) ↔ IsInside rule (ray facets (centre grid i j k))
filled_decides facets grid rule i j k =
    Decides-at _ _ (ap (is_inside rule) (kept_ray facets (centre grid i j k))) (inside_decides rule (ray facets (centre grid i j k)))

-- the segments of layer k, in a mesh without its degenerate facets
abbrev layer_segments : List Facet → Grid → ℕ → List Segment
layer_segments facets grid k = segments (kept_facets facets) (plane grid k)

-- layer k of a closed mesh has closed loops, in which all its segments are
loops_of_layer : (facets : List Facet) (grid : Grid) (k : ℕ) → IsBalanced facets
    → AllByRecursion IsClosed (loops (layer_segments facets grid k)) × AreLoops (layer_segments facets grid k) (loops (layer_segments facets grid k))
loops_of_layer facets grid k balanced =
    let list : List Segment = layer_segments facets grid k in
    let are : AreLoops list (loops list) = closed_loops (kept_facets facets) (kept_balanced facets balanced) (plane grid k) in
    (cycles-closed list (loops list) are.cycles, are)

-- the text of the loops of all planes, and of pixels that are the filled voxels
same_text : (out : Output) (facets : List Facet) (grid : Grid) (rule : Rule) (found : ℕ → List (List Segment)) (pixel : ℕ → ℕ → ℕ → Bool)
    → ((k : ℕ) → found k ≡ loops (segments facets (plane grid k)))
    → ((i j k : ℕ) → pixel k i j ≡ is_filled rule facets (centre grid i j k))
    → text_of_pixels out grid found pixel ≡ sliced_text out grid rule facets
same_text output.Images facets grid rule found pixel same_loops same =
    λ n. flat_map (λ k. image_of_pixels grid.columns grid.rows (λ i j. same i j k n)) (below grid.layers)
same_text output.Report facets grid rule found pixel same_loops same =
    λ n. flat_map (λ k. line_of_layer k (length (same_loops k n)) (pixel_count grid (λ i j. same i j k n))) (below grid.layers)
    ++ total_line (sum_by (λ k. pixel_count grid (λ i j. same i j k n)) (below grid.layers))
same_text (output.Pngs depth mirrors) facets grid rule found pixel same_loops same =
    λ n. flat_map (λ k. png_of_pixels grid depth mirrors (λ i j. same i j k n)) (below grid.layers)

pub sliced_from : (unit : LengthUnit) (pitch layer : ℕ) (rule : Rule) (workers : ℕ) (given : Option Given) (out : Output) (input text : List ℕ)
    → IsOutcome (slicing unit pitch layer rule workers given out) input (Ok text)
    → IsSlicedFrom unit pitch layer rule out given input text
sliced_from unit pitch layer rule workers given out input text h =
    let from = of_outcome unit pitch layer rule workers given out input text h in
    by_grid from.0 from.1 from.2 (grid_for given pitch layer (kept_facets from.0)) refl from.3
  where
    by_grid : (facets : List Facet) → Reads FACET_LIMIT unit input facets → IsBalanced facets → (r : Result Grid GridFault)
        → grid_for given pitch layer (kept_facets facets) ≡ r
        → Ok text ≡ with_grid (λ g. Ok (sliced_text out g rule (kept_facets facets))) r
        → IsSlicedFrom unit pitch layer rule out given input text
    by_grid facets reads balanced (Err cause) placed is = cc
    by_grid facets reads balanced (Ok grid) placed is =
        let text_is : text ≡ sliced_text out grid rule (kept_facets facets) = cc in
        let pixel : ℕ → ℕ → ℕ → Bool = λ k i j. is_filled rule (kept_facets facets) (centre grid i j k) in
        record {
          facets = facets;
          grid = grid;
          loops = λ k. loops (layer_segments facets grid k);
          pixel = pixel;
          reads = reads;
          closed = balanced;
          placed = placed;
          closed_loops = λ k. (loops_of_layer facets grid k balanced).0;
          all_segments = λ k. (loops_of_layer facets grid k balanced).1;
          filled = filled_decides facets grid rule;
          written = text_is
              ∙ sym (same_text out (kept_facets facets) grid rule (λ k. loops (layer_segments facets grid k)) pixel (λ k. refl) (λ i j k. refl));
          pngs = pngs_read out grid pixel (placed_size given pitch layer (kept_facets facets) grid placed);
        }

pub slices_from : (unit : LengthUnit) (pitch layer : ℕ) (rule : Rule) (workers : ℕ) (given : Option Given) (out : Output) (input text : List ℕ)
    → IsSlicedFrom unit pitch layer rule out given input text
    → IsOutcome (slicing unit pitch layer rule workers given out) input (Ok text)
slices_from unit pitch layer rule workers given out input text from =
    let kept : List Facet = kept_facets from.facets in
    let same : (i j k : ℕ) → from.pixel k i j ≡ is_filled rule kept (centre from.grid i j k) =
    λ i j k. same_from_decides _ _ (from.filled i j k) (filled_decides from.facets from.grid rule i j k) in
    let same_loops : (k : ℕ) → from.loops k ≡ loops (segments kept (plane from.grid k)) =
    λ k. loops-are kept (segments kept (plane from.grid k)) (plane from.grid k, refl) (from.loops k) (from.all_segments k) in
    let text_is : text ≡ sliced_text out from.grid rule kept =
    from.written ∙ same_text out kept from.grid rule from.loops from.pixel same_loops same in
    let made : Ok text ≡ sliced given pitch layer rule out kept = rw from.placed (ap Ok text_is) in
    outcome_there unit pitch layer rule workers given out input from.facets (Ok text) from.reads from.closed made

-- a run that succeeds appended such a text
pub run_sliced : (unit : LengthUnit) (pitch layer : ℕ) (rule : Rule) (workers : ℕ) (given : Option Given) (out : Output) (input : List ℕ)
    (source sink : Transcript) (is_settled : Bool)
    → IsRun {T = Unit {0}} (slicing unit pitch layer rule workers given out) (Ok tt) source sink is_settled → source.old ≡ Some input
    → (text : List ℕ) × IsSlicedFrom unit pitch layer rule out given input text × Appends sink.old sink.new text
run_sliced unit pitch layer rule workers given out input source sink is_settled ran known =
    let t : Task = slicing unit pitch layer rule workers given out in
    let whole : OfInput (Some input) (λ bytes. (text : List ℕ) × IsOutcome t bytes (Ok text) × Appends sink.old sink.new text) =
    subst (λ old. OfInput old (λ bytes. (text : List ℕ) × IsOutcome t bytes (Ok text) × Appends sink.old sink.new text)) known ran.ok in
    let written : (text : List ℕ) × IsOutcome t input (Ok text) × Appends sink.old sink.new text =
    subst (λ bytes. (text : List ℕ) × IsOutcome t bytes (Ok text) × Appends sink.old sink.new text) whole.1 whole.2 in
    (written.0, sliced_from unit pitch layer rule workers given out input written.0 written.1, written.2)
