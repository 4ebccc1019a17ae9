-- The PNGs of layers: their pixels, their size, and how they go out.
use Rattle.std.proofs.Common.{◌≡◌, ◌∙◌, ℕ, inl, inr, zero, suc, ◌+◌, ◌*◌, ◌-◌, ◌^◌, ◌<◌, ◌≤◌, ◌⊎◌, Bool, true, false, List, [], ◌∷◌, ◌++◌, Option, Some, None, max, length, length-append, ap, arith, refl, slice_index_or, subst, sym}
use Rattle.std.specs.Prelude.{Err, Ok, Result, flat_map, if◌then◌else◌}
use Rattle.std.specs.List.{range_with_len}
use Rattle.std.proofs.lemmas.List.Concat.{flat_map-cons}
use Rattle.geometry.specs.BoundingBox.{Bounds, bounds}
use Rattle.geometry.specs.Facet.{Facet}
use Rattle.geometry.specs.declared.limits.TheConstants.{COLUMN_LIMIT, LAYER_LIMIT}
use Rattle.devices.specs.Devices.{greatest_count}
use Rattle.raster.specs.Filler.{is_filled}
use Rattle.raster.specs.Grid.{Grid, IsGrid, centre, grid_with, has_no_cells, is_too_large, reaches_too_far}
use Rattle.raster.specs.Grid as grids
use Rattle.raster.specs.declared.grid.GridFault.{GridFault}
use Rattle.raster.specs.declared.grid.GridFault.TheVariants.{FarCentre, NoCells}
use Rattle.raster.specs.declared.span.Span.{Span}
use Rattle.layer_png.specs.Depth.{bits}
use Rattle.layer_png.specs.Layer.{column_at, row_at, shown}
use Rattle.layer_png.specs.Text.{layer_png, most_png_bytes, png_text}
use Rattle.layer_png.specs.declared.depth.Depth.{Depth}
use Rattle.layer_png.specs.declared.mirrors.Mirrors.{Mirrors}
use Rattle.layer_png.proofs.lemmas.Pixels.{file-limit, layer-read, same-file}
use Rattle.build_book.specs.Job.{Job}
use Rattle.build_book.specs.Layer.{IsLawful, Layer}
use Rattle.build_book.specs.Build.{IsComplete}
use Rattle.task_words.specs.declared.task.Given.{Given}
use Rattle.stlslice.specs.Outcome.{grid_for}
use Rattle.stlslice.specs.Pngs.{HasPngRoom, pngs_of}
use Rattle.stlslice.specs.WrittenPixels.{ArePngs}
use Rattle.stlslice.specs.declared.write.Output.{Output}
use Rattle.stlslice.specs.declared.write.Output.TheVariants as output
use Rattle.stlslice.proofs.lemmas.Stream.{layer_at, layer_below}

-- ---- the size of an image

pub record IsImageSize (g : Grid) : Type 0 where
  pub wide : 1 ≤ g.columns
  pub narrow : g.columns ≤ COLUMN_LIMIT
  pub high : 1 ≤ g.rows
  pub low : g.rows ≤ COLUMN_LIMIT

within : (g : Grid) → is_too_large g ≡ false → (g.columns ≤ COLUMN_LIMIT) × (g.rows ≤ COLUMN_LIMIT)
within g h = grind arith

some_cells : (g : Grid) → has_no_cells g ≡ false → (1 ≤ g.columns) × (1 ≤ g.rows)
some_cells g h = grind arith

-- a grid that was handed in
given_size : (g h : Grid) (none large far : Bool) → has_no_cells g ≡ none → is_too_large g ≡ large
    → ◌≡◌ {A = Result Grid GridFault} (if none then Err NoCells else (if large then Err (grids.too_large g) else (if far then Err FarCentre else Ok g))) (Ok h)
    → IsImageSize h
given_size g h true large far none-is large-is is = cc
given_size g h false true far none-is large-is is = cc
given_size g h false false true none-is large-is is = cc
given_size g h false false false none-is large-is is =
    let same : g ≡ h = cc in
    let some = some_cells g none-is in
    let few = within g large-is in
    subst IsImageSize same (record { wide = some.0; narrow = few.0; high = some.1; low = few.1 })

-- a grid that fits a box
fitted_size : (g h : Grid) (large : Bool) → 1 ≤ g.columns → 1 ≤ g.rows → is_too_large g ≡ large
    → ◌≡◌ {A = Result Grid GridFault} (if large then Err (grids.too_large g) else Ok g) (Ok h) → IsImageSize h
fitted_size g h true wide high large-is is = cc
fitted_size g h false wide high large-is is =
    let same : g ≡ h = cc in
    let few = within g large-is in
    subst IsImageSize same (record { wide = wide; narrow = few.0; high = high; low = few.1 })

box_size : (box : Option Bounds) (pitch layer : ℕ) (h : Grid) → grids.grid_of_box box pitch layer ≡ Ok h → IsImageSize h
box_size None pitch layer h is = cc
box_size (Some b) pitch layer h is =
    let g : Grid = record {
      origin = b.low;
      pitch = pitch;
      layer_height = layer;
      columns = grids.cell_count b.low.x b.high.x pitch;
      rows = grids.cell_count b.low.y b.high.y pitch;
      layers = grids.cell_count b.low.z b.high.z layer;
    } in
    fitted_size g h (is_too_large g) (omega arith) (omega arith) refl is

-- each grid of a task has the size of an image
pub placed_size : (given : Option Given) (pitch layer : ℕ) (facets : List Facet) (g : Grid) → grid_for given pitch layer facets ≡ Ok g → IsImageSize g
placed_size None pitch layer facets g is = box_size (bounds facets) pitch layer g is
placed_size (Some given) pitch layer facets g is =
    let from : Grid = grid_with given.origin pitch layer given.columns given.rows given.layers in
    given_size from g (has_no_cells from) (is_too_large from) (reaches_too_far from) refl refl is

-- a reader finds the pixels in the PNGs
pub pngs_read : (out : Output) (grid : Grid) (pixel : ℕ → ℕ → ℕ → Bool) → IsImageSize grid → ArePngs out grid pixel
pngs_read output.Images grid pixel size = tt
pngs_read output.Report grid pixel size = tt
pngs_read (output.Pngs depth mirrors) grid pixel size = λ k h.
    layer-read depth grid.columns grid.rows (λ x y. pixel k (column_at mirrors grid.columns x) (row_at mirrors grid.rows y))
    size.wide size.narrow size.high size.low

-- ---- the pixels of a layer

turned : (b : Bool) (n x : ℕ) → x < n → (if b then n - 1 - x else x) < n
turned true n x h = omega (arith, h)
turned false n x h = h

kept : (b : Bool) (n y : ℕ) → y < n → (if b then y else n - 1 - y) < n
kept true n y h = h
kept false n y h = omega (arith, h)

-- the PNG of a lawful layer's spans is that of its filled voxels
png_of_layer : (job : Job) (depth : Depth) (mirrors : Mirrors) (k : ℕ) (x : Layer) → IsLawful job k x
    → png_text (bits depth) job.grid.columns job.grid.rows (shown mirrors job.grid.columns job.grid.rows x.spans)
    ≡ layer_png job.grid job.rule job.solid.facets depth mirrors k
png_of_layer job depth mirrors k x lawful =
    same-file (bits depth) job.grid.columns job.grid.rows (shown mirrors job.grid.columns job.grid.rows x.spans)
    (λ m n. is_filled job.rule job.solid.facets (centre job.grid (column_at mirrors job.grid.columns m) (row_at mirrors job.grid.rows n) k))
    (λ m n inside low. lawful.filled (column_at mirrors job.grid.columns m) (row_at mirrors job.grid.rows n)
    (turned mirrors.x job.grid.columns m inside) (kept mirrors.y job.grid.rows n low))

-- ---- how many bytes there are

parts_limit : (f : ℕ → List ℕ) (limit a n : ℕ) → ((k : ℕ) → length (f k) ≤ limit) → length (flat_map f (range_with_len a n)) ≤ n * limit
parts_limit f limit a zero each = omega arith
parts_limit f limit a (suc n) each =
    let both : length (flat_map f (a ∷ range_with_len (a + 1) n)) ≡ length (f a) + length (flat_map f (range_with_len (a + 1) n)) =
    ap (λ (l : List ℕ). length l) (flat_map-cons f a (range_with_len (a + 1) n))
    ∙ length-append (f a) (flat_map f (range_with_len (a + 1) n)) in
    omega (arith, both, each a, parts_limit f limit (a + 1) n each)

-- more bytes than the PNGs of all layers have
abbrev pub pngs_limit : ℕ
pngs_limit = LAYER_LIMIT * 2 ^ 32

few_pngs : (job : Job) (depth : Depth) (mirrors : Mirrors) → job.grid.columns ≤ COLUMN_LIMIT → job.grid.rows ≤ COLUMN_LIMIT
    → job.grid.layers ≤ LAYER_LIMIT → length (pngs_of job depth mirrors) ≤ pngs_limit
few_pngs job depth mirrors narrow low few =
    omega (
      arith,
      few,
      parts_limit (layer_png job.grid job.rule job.solid.facets depth mirrors) (2 ^ 32) 0 job.grid.layers
          (λ k. file-limit depth job.grid.columns job.grid.rows
          (λ m n. is_filled job.rule job.solid.facets (centre job.grid (column_at mirrors job.grid.columns m) (row_at mirrors job.grid.rows n) k)) narrow low),
    )

-- the same, by the counts as they were handed out
pub pngs_counted : (job held : Job) (grid : Grid) (depth : Depth) (mirrors : Mirrors) → held ≡ job → grid ≡ held.grid → IsGrid grid
    → length (pngs_of job depth mirrors) ≤ pngs_limit
pngs_counted job held grid depth mirrors same of given =
    let limits : IsGrid job.grid = subst IsGrid (of ∙ ap (λ (j : Job). j.grid) same) given in
    few_pngs job depth mirrors limits.columns_high limits.rows_high limits.layers_high

-- ---- the PNGs that are still to go out

abbrev pub pngs_from : Job → Depth → Mirrors → ℕ → List ℕ
pngs_from job depth mirrors k = flat_map (layer_png job.grid job.rule job.solid.facets depth mirrors) (range_with_len k (job.grid.layers - k))

-- the first of them
png_next : (job : Job) (depth : Depth) (mirrors : Mirrors) (k : ℕ) → k < job.grid.layers
    → pngs_from job depth mirrors k ≡ layer_png job.grid job.rule job.solid.facets depth mirrors k ++ pngs_from job depth mirrors (k + 1)
png_next job depth mirrors k h =
    let more : job.grid.layers - k ≡ suc (job.grid.layers - (k + 1)) = omega (arith, h) in
    ap (λ (n : ℕ). flat_map (layer_png job.grid job.rule job.solid.facets depth mirrors) (range_with_len k n)) more
    ∙ flat_map-cons (layer_png job.grid job.rule job.solid.facets depth mirrors) k (range_with_len (k + 1) (job.grid.layers - (k + 1)))

-- the same, by the build's grid and layers as they were handed out
pub png_there : (job held : Job) (grid : Grid) (spans : List Span) (layers xs : List Layer) (i : ℕ) (x : Layer) (depth : Depth) (mirrors : Mirrors)
    → held ≡ job → grid ≡ held.grid → spans ≡ x.spans → xs ≡ layers → IsComplete job layers → i < length xs → x ≡ slice_index_or xs i x
    → png_text (bits depth) grid.columns grid.rows (shown mirrors grid.columns grid.rows spans)
    ≡ layer_png job.grid job.rule job.solid.facets depth mirrors i
png_there job held grid spans layers xs i x depth mirrors same of spans-are same_layers complete h is =
    ap (λ (g : Grid). png_text (bits depth) g.columns g.rows (shown mirrors g.columns g.rows spans)) (of ∙ ap (λ (j : Job). j.grid) same)
    ∙ ap (λ (s : List Span). png_text (bits depth) job.grid.columns job.grid.rows (shown mirrors job.grid.columns job.grid.rows s)) spans-are
    ∙ png_of_layer job depth mirrors i x (layer_at job xs i x (subst (λ (l : List Layer). IsComplete job l) (sym same_layers) complete) h is)

-- a part that is written next is the first of those that are still to go out
pub png_ahead : (job held : Job) (grid : Grid) (spans : List Span) (layers xs : List Layer) (i : ℕ) (x : Layer) (depth : Depth) (mirrors : Mirrors)
    (part : List ℕ) → part ≡ png_text (bits depth) grid.columns grid.rows (shown mirrors grid.columns grid.rows spans)
    → held ≡ job → grid ≡ held.grid → spans ≡ x.spans → xs ≡ layers → IsComplete job layers → i < length xs → x ≡ slice_index_or xs i x
    → pngs_from job depth mirrors i ≡ part ++ pngs_from job depth mirrors (i + 1)
png_ahead job held grid spans layers xs i x depth mirrors part made same of spans-are same_layers complete h is =
    png_next job depth mirrors i (layer_below job layers xs i same_layers complete h)
    ∙ ap (λ (l : List ℕ). l ++ pngs_from job depth mirrors (i + 1))
    (sym (made ∙ png_there job held grid spans layers xs i x depth mirrors same of spans-are same_layers complete h is))

-- after the last layer
pub no_pngs : (job : Job) (depth : Depth) (mirrors : Mirrors) (k : ℕ) → job.grid.layers ≤ k → pngs_from job depth mirrors k ≡ []
no_pngs job depth mirrors k h =
    let none : job.grid.layers - k ≡ 0 = omega (arith, h) in
    ap (λ (n : ℕ). flat_map (layer_png job.grid job.rule job.solid.facets depth mirrors) (range_with_len k n)) none

-- the bytes of all PNGs can be counted
pub pngs_countable : (n : ℕ) → n ≤ pngs_limit → n ≤ greatest_count
pngs_countable n few = omega (arith, few)

-- ---- the room for each

pub at_most : (a m v r : ℕ) → r ≡ max m v → (a ≤ m) ⊎ (a ≡ v) → a ≤ r
at_most a m v r is (inl h) = omega (arith, is, h)
at_most a m v r is (inr h) = omega (arith, is, h)

pub last_or_before : (k n : ℕ) → k < n + 1 → (k < n) ⊎ (k ≡ n)
last_or_before k n h = grind arith

-- an element does not depend on what stands for one beyond the end
pub same_place : (xs : List Layer) (i : ℕ) (d x : Layer) → i < length xs → x ≡ slice_index_or xs i x → slice_index_or xs i d ≡ x
same_place [] i d x h is = absurd (omega (arith, h))
same_place (y ∷ ys) zero d x h is = sym is
same_place (y ∷ ys) (suc i) d x h is = same_place ys i d x (omega (arith, h)) is

-- a layer's PNG has the room that is enough for each
pub room_at : (grid taken : Grid) (depth : Depth) (layers xs : List Layer) (i : ℕ) (x : Layer) (spans : List Span) (room : ℕ) → taken ≡ grid
    → xs ≡ layers → spans ≡ x.spans → i < length xs → x ≡ slice_index_or xs i x → HasPngRoom grid depth layers room
    → most_png_bytes (bits depth) taken.columns taken.rows (length spans) ≤ room
room_at grid taken depth layers xs i x spans room of same spans-are low is h =
    let most : Grid → List Span → ℕ = λ g s. most_png_bytes (bits depth) g.columns g.rows (length s) in
    let there : most grid (slice_index_or xs i x).spans ≤ room = subst (λ (l : List Layer). HasPngRoom grid depth l room) (sym same) h i x low in
    let here : most taken spans ≡ most grid (slice_index_or xs i x).spans =
    ap (λ (g : Grid). most g spans) of ∙ ap (λ (s : List Span). most grid s) (spans-are ∙ ap (λ (y : Layer). y.spans) is) in
    omega (arith, there, here)
