-- A row is known by the bits of its pixels.
use Rattle.std.proofs.Common.{◌≡◌, ℕ, zero, suc, ◌+◌, ◌-◌, ◌*◌, ◌/◌, ◌%◌, ◌<◌, Bool, true, false, cond, List, length, get_or, replicate, refl, arith, ap, sym, ◌∙◌, ◌&&◌}
use Rattle.std.specs.Prelude.{nat_lt}
use Rattle.std.specs.Int.{bit_at, div_ceil}
use Rattle.std.proofs.lemmas.List.FromFn.{fill_by_all}
use Rattle.raster.specs.Bits.{pixel_bit}
use Rattle.raster.specs.Image.{packed_byte, row_bytes}

-- bytes without pixels
pub blank-at : (n k : ℕ) → get_or {A = ℕ} (replicate n 0) k 0 ≡ 0
blank-at zero k = refl
blank-at (suc n) zero = refl
blank-at (suc n) (suc k) = blank-at n k

abbrev pub indicator : Bool → ℕ
indicator b = cond b 1 0

weighed : (b : Bool) (v w : ℕ) → v ≡ indicator b → cond b w 0 ≡ w * v
weighed true v w h = omega (arith, ap (λ (n : ℕ). w * n) h)
weighed false v w h = omega (arith, ap (λ (n : ℕ). w * n) h)

-- a byte as the sum of its bits
by_bits : (n : ℕ) → n < 256 → 0 + 128 * (n / 128 % 2) + 64 * (n / 64 % 2) + 32 * (n / 32 % 2) + 16 * (n / 16 % 2) + 8 * (n / 8 % 2) + 4 * (n / 4 % 2) + 2 * (n / 2 % 2) + 1 * (n / 1 % 2) ≡ n
by_bits n small = omega arith

byte-is : (n m : ℕ) (pixel : ℕ → Bool) → n < 256 → ((b : ℕ) → b < 8 → bit_at n (7 - b) ≡ indicator (pixel (8 * m + b))) → n ≡ packed_byte pixel m
byte-is n m pixel small h =
    omega (arith, by_bits n small, weighed (pixel (8 * m + 0)) (n / 128 % 2) 128 (h 0 (omega arith)), weighed (pixel (8 * m + 1)) (n / 64 % 2) 64 (h 1 (omega arith)), weighed (pixel (8 * m + 2)) (n / 32 % 2) 32 (h 2 (omega arith)), weighed (pixel (8 * m + 3)) (n / 16 % 2) 16 (h 3 (omega arith)), weighed (pixel (8 * m + 4)) (n / 8 % 2) 8 (h 4 (omega arith)), weighed (pixel (8 * m + 5)) (n / 4 % 2) 4 (h 5 (omega arith)), weighed (pixel (8 * m + 6)) (n / 2 % 2) 2 (h 6 (omega arith)), weighed (pixel (8 * m + 7)) (n / 1 % 2) 1 (h 7 (omega arith)))

bit-of : (row : List ℕ) (k b : ℕ) → b < 8 → pixel_bit row (8 * k + b) ≡ bit_at (get_or row k 0) (7 - b)
bit-of row k b low =
    let byte : (8 * k + b) / 8 ≡ k = omega arith in
    let place : (8 * k + b) % 8 ≡ b = omega arith in
    ap (λ (n : ℕ). bit_at (get_or row n 0) (7 - (8 * k + b) % 8)) byte ∙ ap (λ (n : ℕ). bit_at (get_or row k 0) (7 - n)) place

-- a row of bytes is the image of its pixels
pub row-is : (width : ℕ) (row : List ℕ) (pixel : ℕ → Bool) → length row ≡ div_ceil width 8 → ((k : ℕ) → get_or row k 0 < 256) → ((i : ℕ) → pixel_bit row i ≡ indicator (nat_lt i width && pixel i)) → row ≡ row_bytes width pixel
row-is width row pixel size small h =
    fill_by_all (packed_byte (λ i. nat_lt i width && pixel i)) row (div_ceil width 8) 0 size
    (λ k _. byte-is (get_or row k 0) k (λ i. nat_lt i width && pixel i) (small k) (λ b low. sym (bit-of row k b low) ∙ h (8 * k + b)))
