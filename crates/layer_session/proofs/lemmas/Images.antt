-- The image that spans show, and images that are drawn one after the other.
use Rattle.std.proofs.Common.{◌≡◌, ◌∙◌, ℕ, suc, ◌+◌, ◌-◌, ◌<◌, ◌≤◌, List, [], ◌++◌, ℤ, ◌≤ℤ◌, ap, append_assoc, length, length-append, refl, sym, arith}
use Rattle.std.specs.Prelude.{flat_map}
use Rattle.std.specs.List.{range_with_len}
use Rattle.std.proofs.lemmas.Int.{ints}
use Rattle.std.proofs.lemmas.List.{append-nil}
use Rattle.std.proofs.lemmas.List.Concat.{flat_map-cons}
use Rattle.raster.specs.declared.span.Span.{Span}
use Rattle.raster.specs.Filler.{IsFillOf, is_filled}
use Rattle.raster.specs.Grid.{Grid, centre, plane}
use Rattle.raster.specs.Image.{image_of_pixels}
use Rattle.raster.specs.Span.{covers}
use Rattle.raster.proofs.lemmas.Images.{same-image}
use Rattle.build_book.specs.Job.{Job, stripe_length, stripe_start}
use Rattle.build_book.proofs.lemmas.Stripes.{higher_plane}
use Rattle.layer_session.specs.Answers.{image_of, images_between, stripe_images}

-- the filled pixels of a layer show its image
pub shown-image : (job : Job) (k : ℕ) (grid : Grid) (spans : List Span) → grid ≡ job.grid → IsFillOf job.grid job.rule job.solid.facets k spans
    → image_of_pixels grid.columns grid.rows (covers spans) ≡ image_of job k
shown-image job k grid spans same fill =
    ap (λ (g : Grid). image_of_pixels g.columns g.rows (covers spans)) same
    ∙ same-image job.grid.columns job.grid.rows (covers spans) (λ i j. is_filled job.rule job.solid.facets (centre job.grid i j k)) fill.filled

-- the first of some images
images-first : (job : Job) (k end : ℕ) → k < end → images_between job k end ≡ image_of job k ++ images_between job (k + 1) end
images-first job k end h =
    let more : end - k ≡ suc (end - (k + 1)) = omega (arith, h) in
    ap (λ (n : ℕ). flat_map (image_of job) (range_with_len k n)) more
    ∙ flat_map-cons (image_of job) k (range_with_len (k + 1) (end - (k + 1)))

no-images : (job : Job) (k end : ℕ) → end ≤ k → images_between job k end ≡ []
no-images job k end h =
    let none : end - k ≡ 0 = omega (arith, h) in
    ap (λ (n : ℕ). flat_map (image_of job) (range_with_len k n)) none

-- the next image fits where all fit
pub next-fits : (job : Job) (k end room : ℕ) (bytes text : List ℕ) → k < end → bytes ++ images_between job k end ≡ text → length text ≤ room
    → length bytes + length (image_of job k) ≤ room
next-fits job k end room bytes text h is fits =
    omega (
      arith,
      fits,
      ap (λ (l : List ℕ). length l) is,
      length-append bytes (images_between job k end),
      ap (λ (l : List ℕ). length l) (images-first job k end h),
      length-append (image_of job k) (images_between job (k + 1) end),
    )

-- the next image is drawn
pub next-drawn : (job : Job) (k end : ℕ) (bytes new text : List ℕ) → k < end → new ≡ bytes ++ image_of job k
    → bytes ++ images_between job k end ≡ text → new ++ images_between job (k + 1) end ≡ text
next-drawn job k end bytes new text h added is =
    ap (λ (l : List ℕ). l ++ images_between job (k + 1) end) added
    ∙ append_assoc bytes (image_of job k) (images_between job (k + 1) end)
    ∙ ap (λ (l : List ℕ). bytes ++ l) (sym (images-first job k end h))
    ∙ is

-- all images are drawn
pub all-drawn : (job : Job) (k end : ℕ) (bytes text : List ℕ) → end ≤ k → bytes ++ images_between job k end ≡ text → bytes ≡ text
all-drawn job k end bytes text h is =
    sym (append-nil bytes)
    ∙ ap (λ (l : List ℕ). bytes ++ l) (sym (no-images job k end h))
    ∙ is

-- the images of a stripe's layers
pub images-of-stripe : (job : Job) (s first end : ℕ) → first ≡ stripe_start s → end ≡ stripe_start s + stripe_length job.grid s
    → images_between job first end ≡ stripe_images job s
images-of-stripe job s first end at last =
    ap (λ (n : ℕ). flat_map (image_of job) (range_with_len first n)) (count first end (stripe_start s) (stripe_length job.grid s) at last)
    ∙ ap (λ (n : ℕ). flat_map (image_of job) (range_with_len n (stripe_length job.grid s))) at
  where
    count : (first end start n : ℕ) → first ≡ start → end ≡ start + n → end - first ≡ n
    count first end start n at last = omega (arith, at, last)

-- the plane of the next layer is not lower
pub next-plane : (g : Grid) (k : ℕ) (height : ℤ) → height ≡ plane g k → height ≤ℤ plane g (k + 1)
next-plane g k height is =
    let at : k ≡ k + 1 - 1 = omega arith in
    higher_plane g (k + 1) height (plane g (k + 1)) (is ∙ ap (λ (n : ℕ). plane g n) at) refl

-- a height that is another is not above it
pub as-high : (low high : ℤ) → low ≡ high → low ≤ℤ high
as-high low high same = omega (arith, ints, same)
