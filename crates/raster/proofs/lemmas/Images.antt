-- Lengths of images, and images of the same pixels.
use Rattle.std.proofs.Common.{◌≡◌, ℕ, zero, suc, ◌+◌, ◌*◌, ◌/◌, ◌<◌, ◌≤◌, Bool, List, ◌∷◌, ◌++◌, length, length-append, true, false, ap, ◌∙◌, arith, refl, sym}
use Rattle.std.specs.Prelude.{Option, codes, decimal, flat_map, map, nat_lt, ◌&&◌}
use Rattle.std.specs.Int.{div_ceil}
use Rattle.std.specs.List.{range_with_len}
use Rattle.std.proofs.lemmas.List.Concat.{flat_map-cons}
use Rattle.std.proofs.Math.Nat.{mul-le-mul_left}
use Rattle.std.proofs.Math.Path.{fun_ext}
use Rattle.std.proofs.lemmas.Bool.{leb-true}
use Rattle.geometry.specs.declared.limits.TheConstants.{COLUMN_LIMIT, LAYER_LIMIT}
use Rattle.geometry.specs.Facet.{Facet}
use Rattle.raster.specs.declared.rule.Rule.{Rule}
use Rattle.raster.specs.Filler.{below, is_filled}
use Rattle.raster.specs.Grid.{Grid, centre}
use Rattle.raster.specs.Image.{header, image_limit, image_of_pixels, images, images_limit, layer_image, packed_byte, row_bytes}
use Rattle.raster.proofs.lemmas.Decimals.{length-five}
use Rattle.raster.proofs.lemmas.Written.{IsUnderWay, all-counted, length-row, lower_rows, rows-step}

pub length-rows : (width n : ℕ) (pixel : ℕ → ℕ → Bool) → length (lower_rows width pixel n) ≡ n * div_ceil width 8
length-rows width zero pixel = omega arith
length-rows width (suc n) pixel =
    let one : length (row_bytes width (λ i. pixel i n)) ≡ div_ceil width 8 = length-row width (λ i. pixel i n) in
    let more : length (lower_rows width pixel n) ≡ n * div_ceil width 8 = length-rows width n pixel in
    ap (λ (l : List ℕ). length l) (rows-step width pixel n)
    ∙ length-append (row_bytes width (λ i. pixel i n)) (lower_rows width pixel n)
    ∙ omega (arith, one, more)

length-header : (width height : ℕ) → length (header width height) ≡ 5 + length (decimal width) + length (decimal height)
length-header width height =
    let a = length-append (codes "P4\n") (decimal width) in
    let b = length-append (codes "P4\n" ++ decimal width) (codes " ") in
    let c = length-append (codes "P4\n" ++ decimal width ++ codes " ") (decimal height) in
    let d = length-append (codes "P4\n" ++ decimal width ++ codes " " ++ decimal height) (codes "\n") in
    omega (arith, a, b, c, d)

pub length-image : (width height : ℕ) (pixel : ℕ → ℕ → Bool)
    → length (image_of_pixels width height pixel) ≡ 5 + length (decimal width) + length (decimal height) + height * div_ceil width 8
length-image width height pixel =
    length-append (header width height) (lower_rows width pixel height)
    ∙ omega (arith, length-header width height, length-rows width height pixel)

small-image : (width height : ℕ) (pixel : ℕ → ℕ → Bool) → width ≤ COLUMN_LIMIT → height ≤ COLUMN_LIMIT
    → length (image_of_pixels width height pixel) ≤ image_limit
small-image width height pixel narrow low =
    let row : div_ceil width 8 ≤ COLUMN_LIMIT / 8 = omega arith in
    omega (arith, length-image width height pixel, length-five width narrow, length-five height low, mul-le-mul_left height row)

-- of a chunk and an image, what is out and held is at most the chunk and the largest image
pub held-few : (old now : Option (List ℕ)) (first : List ℕ) (columns rows : ℕ) (pixel : ℕ → ℕ → Bool) (before written : ℕ) (chunk rest : List ℕ) → columns ≤ COLUMN_LIMIT → rows ≤ COLUMN_LIMIT → IsUnderWay old now (first ++ image_of_pixels columns rows pixel) before written chunk rest → written + length chunk ≤ before + length first + image_limit
held-few old now first columns rows pixel before written chunk rest narrow low h =
    omega (
      arith,
      small-image columns rows pixel narrow low,
      length-append first (image_of_pixels columns rows pixel),
      all-counted old now (first ++ image_of_pixels columns rows pixel) before written chunk rest h,
    )

small-parts : (f : ℕ → List ℕ) (a n : ℕ) → ((k : ℕ) → length (f k) ≤ image_limit) → length (flat_map f (range_with_len a n)) ≤ n * image_limit
small-parts f a zero small = omega arith
small-parts f a (suc n) small =
    let both : length (flat_map f (a ∷ range_with_len (a + 1) n)) ≡ length (f a) + length (flat_map f (range_with_len (a + 1) n)) =
    ap (λ (l : List ℕ). length l) (flat_map-cons f a (range_with_len (a + 1) n))
    ∙ length-append (f a) (flat_map f (range_with_len (a + 1) n)) in
    omega (arith, both, small a, small-parts f (a + 1) n small)

pub small-images : (g : Grid) (rule : Rule) (facets : List Facet) → g.columns ≤ COLUMN_LIMIT → g.rows ≤ COLUMN_LIMIT → g.layers ≤ LAYER_LIMIT
    → length (images g rule facets) ≤ images_limit
small-images g rule facets narrow low few =
    omega (
      arith,
      few,
      small-parts (layer_image g rule facets) 0 g.layers
          (λ k. small-image g.columns g.rows (λ i j. is_filled rule facets (centre g i j k)) narrow low),
    )

-- pixels outside an image do not count

same-row : (width : ℕ) (p q : ℕ → Bool) → ((i : ℕ) → i < width → p i ≡ q i) → row_bytes width p ≡ row_bytes width q
same-row width p q same =
    ap (λ (pixel : ℕ → Bool). map (packed_byte pixel) (below (div_ceil width 8))) (fun_ext guarded)
  where
    guarded : (i : ℕ) → (nat_lt i width && p i) ≡ (nat_lt i width && q i)
    guarded i = by_test (nat_lt i width) refl
      where
        by_test : (b : Bool) → nat_lt i width ≡ b → (b && p i) ≡ (b && q i)
        by_test true e = same i (leb-true _ _ e)
        by_test false e = refl

same-rows : (width n : ℕ) (p q : ℕ → ℕ → Bool) → ((i j : ℕ) → i < width → j < n → p i j ≡ q i j)
    → lower_rows width p n ≡ lower_rows width q n
same-rows width zero p q same = refl
same-rows width (suc n) p q same =
    let one : row_bytes width (λ i. p i n) ≡ row_bytes width (λ i. q i n) =
    same-row width (λ i. p i n) (λ i. q i n) (λ i x. same i n x (omega arith)) in
    let more : lower_rows width p n ≡ lower_rows width q n = same-rows width n p q (λ i j x y. same i j x (omega (arith, y))) in
    rows-step width p n
    ∙ ap (λ (l : List ℕ). l ++ lower_rows width p n) one
    ∙ ap (λ (l : List ℕ). row_bytes width (λ i. q i n) ++ l) more
    ∙ sym (rows-step width q n)

pub same-image : (width height : ℕ) (p q : ℕ → ℕ → Bool) → ((i j : ℕ) → i < width → j < height → p i j ≡ q i j)
    → image_of_pixels width height p ≡ image_of_pixels width height q
same-image width height p q same = ap (λ (l : List ℕ). header width height ++ l) (same-rows width height p q same)
