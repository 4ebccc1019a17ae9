-- Lengths of images, and of images one after the other.
use Rattle.std.proofs.Common.{◌≡◌, ◌∙◌, ℕ, Bool, List, [], ◌∷◌, ◌*◌, ◌-◌, ap, length, sym, arith}
use Rattle.std.specs.Prelude.{flat_map}
use Rattle.std.specs.List.{range_with_len, sum_by}
use Rattle.std.proofs.lemmas.List.Concat.{length-flat_map}
use Rattle.std.proofs.lemmas.List.FromFn.{length-range_with_len}
use Rattle.std.proofs.lemmas.List.Sums.{sum_by-cons}
use Rattle.raster.specs.Filler.{is_filled}
use Rattle.raster.specs.Grid.{Grid, centre}
use Rattle.raster.specs.Image.{image_of_pixels}
use Rattle.build_book.specs.Job.{Job}
use Rattle.layer_session.specs.Answers.{image_of, images_between}

sum-same : (f : ℕ → ℕ) (m : ℕ) → ((k : ℕ) → f k ≡ m) → (xs : List ℕ) → sum_by f xs ≡ length xs * m
sum-same f m same [] = omega arith
sum-same f m same (x ∷ xs) =
    let one : f x ≡ m = same x in
    let more : sum_by f xs ≡ length xs * m = sum-same f m same xs in
    sum_by-cons f x xs ∙ omega (arith, one, more)

-- texts of one length
pub length-same : (f : ℕ → List ℕ) (m : ℕ) → ((k : ℕ) → length (f k) ≡ m) → (xs : List ℕ) → length (flat_map f xs) ≡ length xs * m
length-same f m same xs = length-flat_map f xs ∙ sum-same (λ k. length (f k)) m same xs

-- a layer's image has the length of any image of the grid
pub length-image : (job : Job) (k m : ℕ) (grid : Grid) → grid ≡ job.grid
    → ((pixel : ℕ → ℕ → Bool) → length (image_of_pixels grid.columns grid.rows pixel) ≡ m) → length (image_of job k) ≡ m
length-image job k m grid same each =
    let pixel : ℕ → ℕ → Bool = λ i j. is_filled job.rule job.solid.facets (centre job.grid i j k) in
    ap (λ (g : Grid). length (image_of_pixels g.columns g.rows pixel)) (sym same) ∙ each pixel

pub length-between : (job : Job) (from to m : ℕ) → ((k : ℕ) → length (image_of job k) ≡ m) → length (images_between job from to) ≡ (to - from) * m
length-between job from to m each =
    length-same (image_of job) m each (range_with_len from (to - from))
    ∙ ap (λ (n : ℕ). n * m) (length-range_with_len from (to - from))
