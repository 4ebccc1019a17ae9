-- The bits of one byte under a mask.
use Rattle.std.proofs.Common.{◌≡◌, ℕ, zero, suc, refl, ◌+◌, ◌*◌, ◌^◌, ◌-◌, ◌/◌, ◌%◌, ◌<◌, ◌≤◌, max, List, length, get_or, subst, sym, arith, take, drop, length-drop, ap, ◌++◌, ◌∙◌}
use Rattle.std.specs.Prelude.{bit_and}
use Rattle.std.specs.Int.{bit_at, to_be_bytes, w64}
use Rattle.std.proofs.lemmas.Nat.{shr-shr}
use Rattle.std.proofs.lemmas.Nat.Bits.{bit_at_and, bit_at-lt, bit_at_cat_low, bit_at_ones}
use Rattle.std.proofs.Math.ListN.{replicate}
use borrow.Rule.Slice.PartMut.{put_mid}
use Rattle.std.proofs.lemmas.List.{get_or-append_right, get_or_append_left, get_or-drop, get_or-replicate, get_or-take, length-take-le}
use Rattle.std.proofs.lemmas.Slice.{drop-put_mid}
use Rattle.raster.specs.Bits.{pixel_bit}

-- both masks have the bit
pub bit_at-both : (a b t : ℕ) → bit_at a t ≡ 1 → bit_at b t ≡ 1 → bit_at (bit_and a b) t ≡ 1
bit_at-both a b t h k = omega (arith, bit_at_and a b t)

-- one of the masks lacks it
pub bit_at-first : (a b t : ℕ) → bit_at a t ≡ 0 → bit_at (bit_and a b) t ≡ 0
bit_at-first a b t h = omega (arith, bit_at_and a b t)

pub bit_at-second : (a b t : ℕ) → bit_at b t ≡ 0 → bit_at (bit_and a b) t ≡ 0
bit_at-second a b t h = omega (arith, bit_at_and a b t)

pub max-one : (n m t : ℕ) → bit_at m t ≡ 1 → max (bit_at n t) (bit_at m t) ≡ 1
max-one n m t h = omega (arith, bit_at-lt n t)

pub max-none : (n m t : ℕ) → bit_at m t ≡ 0 → max (bit_at n t) (bit_at m t) ≡ bit_at n t
max-none n m t h = omega (arith, bit_at-lt n t)

-- a bit under the bit of a mask
pub max-set : (n t m : ℕ) → m ≡ 1 → max (bit_at n t) m ≡ 1
max-set n t m h = omega (arith, bit_at-lt n t)

pub max-kept : (n t m : ℕ) → m ≡ 0 → max (bit_at n t) m ≡ bit_at n t
max-kept n t m h = omega (arith, bit_at-lt n t)

-- a byte of a part that was written over
at-part : (row part : List ℕ) (a k m : ℕ) → length part ≡ k → a + k ≤ length row → a ≤ m → m < a + k → get_or (put_mid a k row part) m 0 ≡ get_or part (m - a) 0
at-part row part a k m size room low high =
    let front : length (take a row) ≡ a = length-take-le a row (omega arith) in
    get_or-append_right (take a row) (part ++ drop k (drop a row)) a m 0 front low ∙ get_or_append_left part (drop k (drop a row)) 0 (m - a) (omega arith)

at-black : (row part : List ℕ) (a k m : ℕ) → part ≡ replicate (length part) 255 → length part ≡ k → a + k ≤ length row → a ≤ m → m < a + k → get_or (put_mid a k row part) m 0 ≡ 255
at-black row part a k m black size room low high =
    at-part row part a k m size room low high ∙ ap (λ (l : List ℕ). get_or l (m - a) 0) black ∙ get_or-replicate (length part) (m - a) 255 0 (omega arith)

-- a pixel of bytes that are all black
pub black-inside : (row part : List ℕ) (a k i : ℕ) → part ≡ replicate (length part) 255 → length part ≡ k → a + k ≤ length row → a ≤ i / 8 → i / 8 < a + k → pixel_bit (put_mid a k row part) i ≡ 1
black-inside row part a k i black size room low high =
    subst (λ (n : ℕ). bit_at n (7 - i % 8) ≡ 1) (sym (at-black row part a k (i / 8) black size room low high)) (bit_at_ones 8 (7 - i % 8) (omega arith))

pub part-length : (row : List ℕ) (a b : ℕ) → a ≤ b → b ≤ length row → length (take (b - a) (drop a row)) ≡ b - a
part-length row a b order room = length-take-le (b - a) (drop a row) (omega (arith, length-drop a row))

-- byte k of a word, the first byte the highest
byte-of : (word k : ℕ) → k < 8 → get_or (to_be_bytes w64 word) k 0 ≡ word / 2 ^ (56 - 8 * k) % 256
byte-of word zero h = refl
byte-of word (suc zero) h = refl
byte-of word (suc (suc zero)) h = refl
byte-of word (suc (suc (suc zero))) h = refl
byte-of word (suc (suc (suc (suc zero)))) h = refl
byte-of word (suc (suc (suc (suc (suc zero))))) h = refl
byte-of word (suc (suc (suc (suc (suc (suc zero)))))) h = refl
byte-of word (suc (suc (suc (suc (suc (suc (suc zero))))))) h = omega arith
byte-of word (suc (suc (suc (suc (suc (suc (suc (suc k)))))))) h = absurd (omega arith)

-- the bits of byte k of a word
pub bit_at-byte : (word k b : ℕ) → k < 8 → b < 8 → bit_at (get_or (to_be_bytes w64 word) k 0) (7 - b) ≡ bit_at word (63 - (8 * k + b))
bit_at-byte word k b small low =
    let n = word / 2 ^ (56 - 8 * k) in
    let place : (56 - 8 * k) + (7 - b) ≡ 63 - (8 * k + b) = omega arith in
    let cut : (n / 2 ^ 8) * 2 ^ 8 + n % 256 ≡ n = omega arith in
    let low_bits : bit_at (n % 256) (7 - b) ≡ bit_at n (7 - b) = sym (bit_at_cat_low (n / 2 ^ 8) 8 (n % 256) (7 - b) (omega arith)) ∙ ap (λ (m : ℕ). bit_at m (7 - b)) cut in
    ap (λ (m : ℕ). bit_at m (7 - b)) (byte-of word k small) ∙ low_bits ∙ ap (λ (m : ℕ). m % 2) (shr-shr word (56 - 8 * k) (7 - b)) ∙ ap (λ (m : ℕ). bit_at word m) place

-- a byte of a part that is read
pub at-read : (row : List ℕ) (a k m : ℕ) → a ≤ m → m < a + k → get_or (take k (drop a row)) (m - a) 0 ≡ get_or row m 0
at-read row a k m low high =
    let same : a + (m - a) ≡ m = omega arith in
    get_or-take k (drop a row) (m - a) 0 (omega arith) ∙ get_or-drop a row (m - a) 0 ∙ ap (λ (n : ℕ). get_or row n 0) same

-- a pixel of a part that was written over
pub pixel_bit-part : (row part : List ℕ) (a k i : ℕ) → length part ≡ k → a + k ≤ length row → a ≤ i / 8 → i / 8 < a + k → pixel_bit (put_mid a k row part) i ≡ bit_at (get_or part (i / 8 - a) 0) (7 - i % 8)
pixel_bit-part row part a k i size room low high = ap (λ (n : ℕ). bit_at n (7 - i % 8)) (at-part row part a k (i / 8) size room low high)

-- a pixel before or behind such a part
pub pixel_bit-before : (row part : List ℕ) (a k i : ℕ) → a ≤ length row → i / 8 < a → pixel_bit (put_mid a k row part) i ≡ pixel_bit row i
pixel_bit-before row part a k i inside low =
    ap (λ (n : ℕ). bit_at n (7 - i % 8))
    (get_or_append_left (take a row) (part ++ drop k (drop a row)) 0 (i / 8) (omega (arith, length-take-le a row inside)) ∙ get_or-take a row (i / 8) 0 low)

pub pixel_bit-behind : (row part : List ℕ) (a k i : ℕ) → length part ≡ k → a + k ≤ length row → a + k ≤ i / 8 → pixel_bit (put_mid a k row part) i ≡ pixel_bit row i
pixel_bit-behind row part a k i size room high =
    let place : (a + k) + (i / 8 - (a + k)) ≡ i / 8 = omega arith in
    ap (λ (n : ℕ). bit_at n (7 - i % 8))
    (ap (λ (m : ℕ). get_or (put_mid a k row part) m 0) (sym place)
    ∙ sym (get_or-drop (a + k) (put_mid a k row part) (i / 8 - (a + k)) 0)
    ∙ ap (λ (l : List ℕ). get_or l (i / 8 - (a + k)) 0) (drop-put_mid a k row part (a + k) (omega arith) (omega arith) size)
    ∙ get_or-drop (a + k) row (i / 8 - (a + k)) 0
    ∙ ap (λ (m : ℕ). get_or row m 0) place)
