-- How a stream of files, one behind another, is cut into them. Of images in raw PBM (pbm(5)), a reader takes a header, and then as
-- many bytes as it tells.
use Rattle.std.specs.Prelude.{◌≡◌, ℕ, zero, suc, ◌+◌, ◌-◌, ◌*◌, ◌^◌, ◌<◌, Bool, true, false, ◌||◌, leb, ◌==◌, List, [], ◌∷◌, ◌++◌, length, take, drop, codes, Option, Some, None}
use Rattle.std.specs.Char.{is_ascii_digit}
use Rattle.std.specs.Int.{div_ceil}
use Rattle.raster.specs.Image.{header}

-- ---- any files

-- bytes without these, with which they begin
abbrev pub behind : List ℕ → List ℕ → Option (List ℕ)
behind [] bytes = Some bytes
behind (a ∷ front) [] = None
behind (a ∷ front) (b ∷ bytes) = elim (a == b) [ true ↦ behind front bytes | false ↦ None ]

-- a file before those behind it, if these could be cut
abbrev pub with_file : List ℕ → Option (List (List ℕ)) → Option (List (List ℕ))
with_file file None = None
with_file file (Some files) = Some (file ∷ files)

-- At most `left` files, with nothing behind the last. `rest_of` reads one file: it returns the bytes behind it, or none if bytes
-- do not begin with such a file.
unfoldable pub cut_at_most : (List ℕ → Option (List ℕ)) → ℕ → List ℕ → Option (List (List ℕ))
cut_at_most rest_of left [] = Some []
cut_at_most rest_of zero (byte ∷ bytes) = None
cut_at_most rest_of (suc left) (byte ∷ bytes) = elim (rest_of (byte ∷ bytes)) [
  | None ↦ None
  | Some rest ↦ with_file (take (length (byte ∷ bytes) - length rest) (byte ∷ bytes)) (cut_at_most rest_of left rest)
]

-- all files of a stream
abbrev pub cut : (List ℕ → Option (List ℕ)) → List ℕ → Option (List (List ℕ))
cut rest_of bytes = cut_at_most rest_of (length bytes) bytes

-- ---- images in raw PBM

-- what is read, and the bytes behind it; then the next thing
abbrev pub and_then : {A B : Type 0} → Option A → (A → Option B) → Option B
and_then None next = None
and_then (Some read) next = next read

-- a blank, a tab, a line feed or a carriage return
abbrev pub is_white : ℕ → Bool
is_white byte = (byte == 32) || ((byte == 9) || ((byte == 10) || (byte == 13)))

-- the bytes behind one such byte
abbrev pub behind_white : List ℕ → Option (List ℕ)
behind_white [] = None
behind_white (byte ∷ bytes) = elim (is_white byte) [ true ↦ Some bytes | false ↦ None ]

-- the number of the digits read, which make `n`, and of those that follow; and the bytes behind them
abbrev pub number_from : ℕ → List ℕ → ℕ × List ℕ
number_from n [] = (n, [])
number_from n (byte ∷ bytes) = elim (is_ascii_digit byte) [ true ↦ number_from (n * 10 + (byte - 48)) bytes | false ↦ (n, byte ∷ bytes) ]

-- a number of at least one digit
abbrev pub number : List ℕ → Option (ℕ × List ℕ)
number [] = None
number (byte ∷ bytes) = elim (is_ascii_digit byte) [ true ↦ Some (number_from 0 (byte ∷ bytes)) | false ↦ None ]

-- the bytes behind this many
abbrev pub behind_count : ℕ → List ℕ → Option (List ℕ)
behind_count n bytes = elim (leb n (length bytes)) [ true ↦ Some (drop n bytes) | false ↦ None ]

-- The bytes behind an image: P4, the width, the height, each behind one byte of white space, one more, and rows of whole bytes.
-- Narrower than pbm(5), which also allows more white space, and comments.
unfoldable pub behind_image : List ℕ → Option (List ℕ)
behind_image bytes =
    and_then (behind (codes "P4") bytes) (λ a. and_then (behind_white a) (λ b. and_then (number b) (λ width.
    and_then (behind_white width.1) (λ c. and_then (number c) (λ height. and_then (behind_white height.1) (λ rows.
    behind_count (height.0 * div_ceil width.0 8) rows))))))

-- these bytes are a header and as many bytes as it tells
pub record IsImage (bytes : List ℕ) : Type 0 where
  pub width : ℕ
  pub height : ℕ
  pub rows : List ℕ
  pub wide : width < 2 ^ 64
  pub high : height < 2 ^ 64
  pub size : length rows ≡ height * div_ceil width 8
  pub text : bytes ≡ header width height ++ rows
