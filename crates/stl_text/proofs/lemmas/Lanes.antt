-- Bytes that are looked at together, as the lanes of a vector.
use Rattle.std.proofs.Common.{◌≡◌, ℕ, zero, suc, ◌+◌, ◌%◌, ◌^◌, ◌<◌, ◌≤◌, leb, cond, Bool, true, false, not, List, [], ◌∷◌, map, take, length, replicate, w8, refl, sym, ap, ◌∙◌, subst, arith}
use Rattle.std.proofs.lemmas.Bool.{leb-false}
use Rattle.std.proofs.lemmas.Simd.{bitmask_splat, leading_from_mask_l, length-chunk, trailing_mask_l}
use Rattle.std.proofs.lemmas.List.Sums.{prefix_len-le-length}
use Rattle.std.specs.List.{list_all, prefix_len}
use lib.Count.{count_trailing_zeros}
use lib.Lanes.{mask_l, top, zip2}
use Rattle.stl_text.specs.Text.{is_white}
use Rattle.stl_text.proofs.lemmas.Fronts.{above_clear}

abbrev is_low : ℕ → Bool
is_low byte = leb byte 32

abbrev high_len : List ℕ → ℕ
high_len bytes = prefix_len (λ byte. not (is_low byte)) (take 16 bytes)

high_clear : (k : ℕ) (bytes : List ℕ) → list_all (λ byte. not (is_white byte)) (take (prefix_len (λ byte. not (is_low byte)) (take k bytes)) bytes) ≡ true
high_clear zero bytes = refl
high_clear (suc k) [] = refl
high_clear (suc k) (byte ∷ bytes) = by_test (is_low byte) refl (high_clear k bytes)
  where
    by_test : (b : Bool) → is_low byte ≡ b
        → list_all (λ byte. not (is_white byte)) (take (prefix_len (λ byte. not (is_low byte)) (take k bytes)) bytes) ≡ true
        → list_all (λ byte. not (is_white byte)) (take (prefix_len (λ byte. not (is_low byte)) (take (suc k) (byte ∷ bytes))) (byte ∷ bytes)) ≡ true
    by_test true is rest = rw is refl
    by_test false is rest =
        let len : prefix_len (λ byte. not (is_low byte)) (take (suc k) (byte ∷ bytes)) ≡ 1 + prefix_len (λ byte. not (is_low byte)) (take k bytes) = rw is refl in
        let more : prefix_len (λ byte. not (is_low byte)) (take (suc k) (byte ∷ bytes)) ≡ suc (prefix_len (λ byte. not (is_low byte)) (take k bytes)) = omega (arith, len) in
        subst (λ n. list_all (λ byte. not (is_white byte)) (take n (byte ∷ bytes)) ≡ true) (sym more)
        (rw (above_clear byte (leb-false byte 32 is)) rest)

-- the bits of the lanes up to 32
abbrev pub low_mask : List ℕ → ℕ
low_mask bytes = mask_l (map (top 7) (zip2 (λ a b. cond (leb a b) 255 0) (take 16 bytes) (replicate 16 32))) % 2 ^ 64

module _ (bytes : List ℕ) (room : 16 ≤ length bytes) where
  long : length (take 16 bytes) ≡ 16
  long = length-chunk 0 16 bytes room

  mask_is : low_mask bytes ≡ mask_l (map is_low (take 16 bytes))
  mask_is = bitmask_splat w8 leb (take 16 bytes) 16 32 long (omega arith)

  pub none_count : low_mask bytes ≡ 0 → high_len bytes ≡ 16
  none_count none = leading_from_mask_l is_low (take 16 bytes) (sym mask_is ∙ none) ∙ long

  pub lowest : 0 < low_mask bytes → count_trailing_zeros 64 (low_mask bytes) ≡ high_len bytes
  lowest some =
      ap (count_trailing_zeros 64) mask_is
      ∙ trailing_mask_l is_low 64 (take 16 bytes) (omega (arith, long)) (subst (λ m. 0 < m) mask_is some)

  pub count_clear : (n : ℕ) → n ≡ high_len bytes → list_all (λ byte. not (is_white byte)) (take n bytes) ≡ true
  count_clear n is = subst (λ k. list_all (λ byte. not (is_white byte)) (take k bytes) ≡ true) (sym is) (high_clear 16 bytes)

  pub count_within : (n : ℕ) → n ≡ high_len bytes → n ≤ 16
  count_within n is = omega (arith, is, long, prefix_len-le-length (λ byte. not (is_low byte)) (take 16 bytes))
