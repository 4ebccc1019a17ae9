-- The text of slicing, layer by layer.
use Rattle.std.proofs.Common.{◌≡◌, ℕ, suc, ◌+◌, ◌-◌, ◌<◌, ◌≤◌, List, [], ◌∷◌, ◌++◌, Option, length, ap, sym, subst, ◌∙◌, arith, slice_index_or, refl}
use Rattle.std.specs.Prelude.{flat_map, sum_by}
use Rattle.std.specs.List.{range_with_len}
use Rattle.std.proofs.lemmas.List.Concat.{flat_map-cons}
use Rattle.std.proofs.lemmas.List.Sums.{sum_by-cons}
use Rattle.plane_segments.specs.Segment.{segments}
use Rattle.plane_segments.specs.declared.segment.Segment.{Segment}
use Rattle.contour.specs.Loops.{loops}
use Rattle.raster.specs.Filler.{area_of, below}
use Rattle.raster.specs.Grid.{Grid, plane}
use Rattle.raster.specs.Image.{image_of_pixels, images, layer_image}
use Rattle.raster.specs.Span.{covers}
use Rattle.raster.specs.declared.span.Span.{Span}
use Rattle.raster.proofs.lemmas.Written.{IsUnderWay, begun, taken-on}
use Rattle.build_book.specs.Layer.{AreLawfulFrom, IsLawful, Layer, layers_area}
use Rattle.build_book.specs.Build.{IsComplete}
use Rattle.build_book.specs.Job.{Job}
use Rattle.build_book.proofs.lemmas.Images.{image_of_layer, lawful_at, part_more}
use Rattle.stlslice.specs.SlicedText.{layer_line, line_of_layer, report_text, total_line}

-- the image of the pixels that lie in the spans
abbrev pub image : Grid → List Span → List ℕ
image g spans = image_of_pixels g.columns g.rows (covers spans)

-- the layer in a place of a complete build is the lawful one of that number

pub layer_at : (job : Job) (xs : List Layer) (i : ℕ) (x : Layer) → IsComplete job xs → i < length xs
    → x ≡ slice_index_or xs i x → IsLawful job i x
layer_at job xs i x complete h is =
    subst (λ (n : ℕ). IsLawful job n x) (omega arith) (lawful_at job 0 xs i x complete.lawful h is)

-- the image of its spans is that of its filled voxels
pub image_at : (job : Job) (xs : List Layer) (i : ℕ) (x : Layer) → IsComplete job xs → i < length xs
    → x ≡ slice_index_or xs i x → image job.grid x.spans ≡ layer_image job.grid job.rule job.solid.facets i
image_at job xs i x complete h is = image_of_layer job i x (layer_at job xs i x complete h is)

pub line_at : (job : Job) (xs : List Layer) (i : ℕ) (x : Layer) → IsComplete job xs → i < length xs
    → x ≡ slice_index_or xs i x
    → line_of_layer x.number (length x.loops) x.area ≡ layer_line job.grid job.rule job.solid.facets i
line_at job xs i x complete h is =
    let lawful : IsLawful job i x = layer_at job xs i x complete h is in
    ap (λ (n : ℕ). line_of_layer n (length x.loops) x.area) lawful.number
    ∙ ap (λ (found : List (List Segment)). line_of_layer i (length found) x.area) lawful.loops_are
    ∙ ap (λ (area : ℕ). line_of_layer i (length (loops (segments job.solid.facets (plane job.grid i)))) area) lawful.area

areas_from : (job : Job) (k : ℕ) (xs : List Layer) → AreLawfulFrom job k xs
    → layers_area xs ≡ sum_by (area_of job.grid job.rule job.solid.facets) (range_with_len k (length xs))
areas_from job k [] lawful = refl
areas_from job k (x ∷ xs) lawful =
    let rest : layers_area xs ≡ sum_by (area_of job.grid job.rule job.solid.facets) (range_with_len (k + 1) (length xs)) =
    areas_from job (k + 1) xs lawful.1 in
    simp sum_by-cons (omega (arith, lawful.0.area, rest))

-- the areas of a complete build
pub areas_of : (job : Job) (xs : List Layer) → IsComplete job xs
    → layers_area xs ≡ sum_by (area_of job.grid job.rule job.solid.facets) (below job.grid.layers)
areas_of job xs complete =
    areas_from job 0 xs complete.lawful ∙ ap (λ (n : ℕ). sum_by (area_of job.grid job.rule job.solid.facets) (below n)) complete.whole

-- the part of a number, which follows the parts of all before it
one_more : (f : ℕ → List ℕ) (n : ℕ) → flat_map f (below (n + 1)) ≡ flat_map f (below n) ++ f n
one_more f n = part_more f 0 n n (omega arith)

pub line_more : (f : ℕ → List ℕ) (n : ℕ) (old new line : List ℕ) → old ≡ flat_map f (below n) → new ≡ old ++ line → line ≡ f n
    → new ≡ flat_map f (below (n + 1))
line_more f n old new line before added is = rw (added, before, is) (sym (one_more f n))

-- the lines of all layers, and the last one
pub all_lines : (job : Job) (n total : ℕ) (old new : List ℕ)
    → old ≡ flat_map (layer_line job.grid job.rule job.solid.facets) (below n) → n ≡ job.grid.layers
    → new ≡ old ++ total_line total → total ≡ sum_by (area_of job.grid job.rule job.solid.facets) (below job.grid.layers)
    → new ≡ report_text job.grid job.rule job.solid.facets
all_lines job n total old new before all added sum = rw (added, before, all, sum) refl

-- the images of the layers from a number on
abbrev pub images_from : Job → ℕ → List ℕ
images_from job k = flat_map (layer_image job.grid job.rule job.solid.facets) (range_with_len k (job.grid.layers - k))

-- the first of them
image_next : (job : Job) (k : ℕ) → k < job.grid.layers
    → images_from job k ≡ layer_image job.grid job.rule job.solid.facets k ++ images_from job (k + 1)
image_next job k h =
    let image : ℕ → List ℕ = layer_image job.grid job.rule job.solid.facets in
    let more : job.grid.layers - k ≡ suc (job.grid.layers - (k + 1)) = omega (arith, h) in
    ap (λ (n : ℕ). flat_map image (range_with_len k n)) more
    ∙ flat_map-cons image k (range_with_len (k + 1) (job.grid.layers - (k + 1)))

-- nothing is out, and all images are to go
pub images-begun : (job : Job) (now : Option (List ℕ)) → IsUnderWay now now (images job.grid job.rule job.solid.facets) 0 0 [] (images_from job 0)
images-begun job now =
    let all : List ℕ = images job.grid job.rule job.solid.facets in
    let size : job.grid.layers ≡ job.grid.layers - 0 = omega arith in
    let same : all ≡ images_from job 0 =
    ap (λ (n : ℕ). flat_map (layer_image job.grid job.rule job.solid.facets) (range_with_len 0 n)) size in
    subst (λ (l : List ℕ). IsUnderWay now now all 0 0 [] l) same (begun now 0 [] all)

-- after the last layer
none_left : (job : Job) (k : ℕ) → job.grid.layers ≤ k → images_from job k ≡ []
none_left job k h =
    let none : job.grid.layers - k ≡ 0 = omega (arith, h) in
    ap (λ (n : ℕ). flat_map (layer_image job.grid job.rule job.solid.facets) (range_with_len k n)) none

-- what is held is then the rest of all images
pub last_held : (job : Job) (old now : Option (List ℕ)) (sent k : ℕ) (held : List ℕ) → job.grid.layers ≤ k
    → IsUnderWay old now (images job.grid job.rule job.solid.facets) 0 sent held (images_from job k)
    → IsUnderWay old now (images job.grid job.rule job.solid.facets) 0 sent held []
last_held job old now sent k held end text =
    subst (λ (left : List ℕ). IsUnderWay old now (images job.grid job.rule job.solid.facets) 0 sent held left) (none_left job k end) text

-- the image of a layer, by the build's grid and layers as they were handed out

pub image_there : (job held : Job) (grid : Grid) (spans : List Span) (layers xs : List Layer) (i : ℕ) (x : Layer) → held ≡ job
    → grid ≡ held.grid → spans ≡ x.spans → xs ≡ layers → IsComplete job layers → i < length xs → x ≡ slice_index_or xs i x
    → image grid spans ≡ layer_image job.grid job.rule job.solid.facets i
image_there job held grid spans layers xs i x same of spans-are same_layers complete h is =
    ap (λ (g : Grid). image g spans) (of ∙ ap (λ (j : Job). j.grid) same)
    ∙ ap (λ (s : List Span). image job.grid s) spans-are
    ∙ image_at job xs i x (subst (λ (l : List Layer). IsComplete job l) (sym same_layers) complete) h is

pub layer_below : (job : Job) (layers xs : List Layer) (i : ℕ) → xs ≡ layers → IsComplete job layers → i < length xs → i < job.grid.layers
layer_below job layers xs i same complete h =
    subst (λ (n : ℕ). i < n) (ap (λ (l : List Layer). length l) same ∙ complete.whole) h

-- a writer's bytes with the image of the next layer, which it is to add
pub with_image : (job held : Job) (grid : Grid) (spans : List Span) (layers xs : List Layer) (k : ℕ) (x : Layer) (old now : Option (List ℕ)) (sent : ℕ)
    (chunk : List ℕ) → held ≡ job → grid ≡ held.grid → spans ≡ x.spans → xs ≡ layers → IsComplete job layers → k < length xs → x ≡ slice_index_or xs k x
    → IsUnderWay old now (images job.grid job.rule job.solid.facets) 0 sent chunk (images_from job k)
    → IsUnderWay old now (images job.grid job.rule job.solid.facets) 0 sent (chunk ++ image grid spans) (images_from job (k + 1))
with_image job held grid spans layers xs k x old now sent chunk same of spans-are same_layers complete h is text =
    let here = image_there job held grid spans layers xs k x same of spans-are same_layers complete h is in
    taken-on old now (images job.grid job.rule job.solid.facets) 0 sent chunk (chunk ++ image grid spans)
    (layer_image job.grid job.rule job.solid.facets k) (images_from job (k + 1)) (images_from job k)
    text (image_next job k (layer_below job layers xs k same_layers complete h)) (ap (λ (l : List ℕ). chunk ++ l) here)

pub layers_end : (job : Job) (layers xs : List Layer) (i : ℕ) → xs ≡ layers → IsComplete job layers → length xs ≤ i → job.grid.layers ≤ i
layers_end job layers xs i same complete h =
    subst (λ (n : ℕ). n ≤ i) (ap (λ (l : List Layer). length l) same ∙ complete.whole) h

-- a layer of a number that the grid has is there
pub layer_among : (job : Job) (layers xs : List Layer) (i end : ℕ) → xs ≡ layers → IsComplete job layers → i < end → end ≤ job.grid.layers → i < length xs
layer_among job layers xs i end same complete h within =
    subst (λ (n : ℕ). i < n) (sym (ap (λ (l : List Layer). length l) same ∙ complete.whole)) (omega (arith, h, within))
