-- Worked rules, cells and bytes of images.
use Rattle.std.proofs.Common.{◌≡◌, ◌==◌, ◌∷◌, [], refl, true, false}
use Rattle.std.specs.Prelude.{pos, negsuc}
use Rattle.raster.specs.Grid.{cell_count, exceeds, middle}
use Rattle.raster.specs.Image.{packed_byte, row_bytes}
use Rattle.raster.specs.Rule.{is_inside}
use Rattle.raster.specs.declared.rule.Rule.TheVariants.{NonZero, Positive}

facing_inward : is_inside NonZero (negsuc 0) ≡ true
facing_inward = refl

not_above_zero : is_inside Positive (negsuc 0) ≡ false
not_above_zero = refl

begun_cell : cell_count (pos 0) (pos 101) 50 ≡ 3
begun_cell = refl

flat : cell_count (pos 7) (pos 7) 50 ≡ 1
flat = refl

third_cell : middle (pos 10) 50 2 ≡ pos 270
third_cell = refl

widest : exceeds 16384 16384 65535 ≡ false
widest = refl

leftmost_pixel : packed_byte (λ i. i == 0) 0 ≡ 128
leftmost_pixel = refl

nine_pixels : row_bytes 9 (λ i. true) ≡ 255 ∷ 128 ∷ []
nine_pixels = refl
