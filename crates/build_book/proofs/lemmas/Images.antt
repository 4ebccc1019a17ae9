-- The layers in a list of lawful layers, and their images, one after the other.
use Rattle.std.proofs.Common.{◌≡◌, ℕ, zero, suc, ◌+◌, ◌<◌, List, [], ◌∷◌, ◌++◌, length, ap, sym, subst, ◌∙◌, arith, slice_index_or}
use Rattle.std.specs.Prelude.{flat_map, map}
use Rattle.std.specs.List.{range_with_len}
use Rattle.std.proofs.lemmas.List.{flat_map_more}
use Rattle.std.proofs.lemmas.List.Folds.{flat_map-map}
use Rattle.std.proofs.lemmas.List.FromFn.{map-range_with_len_more}
use Rattle.raster.specs.Filler.{is_filled}
use Rattle.raster.specs.Grid.{centre}
use Rattle.raster.specs.Image.{image_of_pixels, layer_image}
use Rattle.raster.specs.Span.{covers}
use Rattle.raster.proofs.lemmas.Images.{same-image}
use Rattle.build_book.specs.Job.{Job}
use Rattle.build_book.specs.Layer.{AreLawfulFrom, IsLawful, Layer}

-- the layer in a place of a list from layer k on is the lawful one of that number
pub lawful_at : (job : Job) (k : ℕ) (xs : List Layer) (i : ℕ) (x : Layer) → AreLawfulFrom job k xs → i < length xs
    → x ≡ slice_index_or xs i x → IsLawful job (k + i) x
lawful_at job k [] i x lawful h is = absurd (omega arith)
lawful_at job k (y ∷ ys) zero x lawful h is =
    subst (λ (z : Layer). IsLawful job (k + 0) z) (sym is) (subst (λ (n : ℕ). IsLawful job n y) (omega arith) lawful.0)
lawful_at job k (y ∷ ys) (suc i) x lawful h is =
    subst (λ (n : ℕ). IsLawful job n x) (omega arith) (lawful_at job (k + 1) ys i x lawful.1 (omega arith) is)

-- the image of a lawful layer's spans is that of its filled voxels
pub image_of_layer : (job : Job) (k : ℕ) (x : Layer) → IsLawful job k x
    → image_of_pixels job.grid.columns job.grid.rows (covers x.spans) ≡ layer_image job.grid job.rule job.solid.facets k
image_of_layer job k x lawful =
    same-image job.grid.columns job.grid.rows (covers x.spans)
    (λ m n. is_filled job.rule job.solid.facets (centre job.grid m n k)) lawful.filled

-- the part of k comes after the parts of the numbers from `a` on
pub part_more : (f : ℕ → List ℕ) (a n k : ℕ) → a + n ≡ k
    → flat_map f (range_with_len a (n + 1)) ≡ flat_map f (range_with_len a n) ++ f k
part_more f a n k at =
    sym (flat_map-map f (λ (m : ℕ). m) (range_with_len a (n + 1)))
    ∙ ap (λ (l : List ℕ). flat_map f l) (map-range_with_len_more (λ (m : ℕ). m) a n k at)
    ∙ sym (flat_map_more f [] (map (λ (m : ℕ). m) (range_with_len a n)) k)
    ∙ ap (λ (l : List ℕ). l ++ f k) (flat_map-map f (λ (m : ℕ). m) (range_with_len a n))
