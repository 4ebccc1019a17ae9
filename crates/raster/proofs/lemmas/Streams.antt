-- Files that are read one after another are what a stream of them is cut into.
use Rattle.std.proofs.Common.{◌≡◌, ℕ, zero, suc, ◌+◌, ◌-◌, ◌*◌, ◌^◌, ◌<◌, ◌≤◌, Bool, true, false, List, [], ◌∷◌, ◌++◌, length, take, drop, length-append, append_assoc, Option, Some, None, refl, sym, ◌∙◌, ap, arith}
use Rattle.std.specs.Prelude.{decimal}
use Rattle.std.specs.Char.{is_ascii_digit}
use Rattle.std.specs.Int.{div_ceil}
use Rattle.std.specs.Int.{IsInRange}
use Rattle.std.specs.List.{All, AllByRecursion, concat}
use Rattle.std.specs.Str.{all_ascii_digits}
use Rattle.std.proofs.lemmas.Bool.{and_from, and_parts, le-leb}
use Rattle.std.proofs.lemmas.Fmt.{decimal_nonempty, digits_decimal, digits_value-decimal}
use Rattle.std.proofs.lemmas.List.{take_at, drop_at}
use Rattle.std.proofs.lemmas.List.Elements.{All-from_recursion, recursion_from_All}
use Rattle.std.proofs.lemmas.Str.Parse.{IsNumeralModel, numerals_by_fold, tells_all_ascii_digits}
use Rattle.raster.specs.Image.{header}
use Rattle.raster.specs.Stream.{IsImage, and_then, behind_count, behind_image, behind_white, cut, cut_at_most, number, number_from, with_file}

-- ---- any files

-- one file is read, whatever follows it
pub record IsRead (rest_of : List ℕ → Option (List ℕ)) (file : List ℕ) : Type 0 where
  pub some : 0 < length file
  pub read : (rest : List ℕ) → rest_of (file ++ rest) ≡ Some rest

module _ (rest_of : List ℕ → Option (List ℕ)) where
  cut-first : (left : ℕ) (file rest : List ℕ) → 0 < length file → rest_of (file ++ rest) ≡ Some rest
      → cut_at_most rest_of (suc left) (file ++ rest) ≡ with_file file (cut_at_most rest_of left rest)
  unfolding cut_at_most
  cut-first left [] rest some read = absurd (omega arith)
  cut-first left (byte ∷ bytes) rest some read =
      let size : length (byte ∷ bytes) ≡ length (byte ∷ (bytes ++ rest)) - length rest = omega (arith, length-append (byte ∷ bytes) rest) in
      ap (λ (o : Option (List ℕ)). elim o as (λ _. Option (List (List ℕ))) [
        | None ↦ None
        | Some r ↦ with_file (take (length (byte ∷ (bytes ++ rest)) - length r) (byte ∷ (bytes ++ rest))) (cut_at_most rest_of left r)
      ]) read
      ∙ ap (λ (file : List ℕ). with_file file (cut_at_most rest_of left rest)) (take_at (byte ∷ bytes) rest (length (byte ∷ (bytes ++ rest)) - length rest) size)

  nothing-left : (left : ℕ) → cut_at_most rest_of left [] ≡ Some []
  unfolding cut_at_most
  nothing-left zero = refl
  nothing-left (suc left) = refl

  cut-files : (files : List (List ℕ)) → AllByRecursion (IsRead rest_of) files → (left : ℕ) → length (concat files) ≤ left → cut_at_most rest_of left (concat files) ≡ Some files
  cut-files [] h left fits = nothing-left left
  cut-files (file ∷ files) h zero fits = absurd (omega (arith, h.0.some, length-append file (concat files)))
  cut-files (file ∷ files) h (suc left) fits =
      cut-first left file (concat files) h.0.some (h.0.read (concat files))
      ∙ ap (λ (o : Option (List (List ℕ))). with_file file o) (cut-files files h.1 left (omega (arith, fits, h.0.some, length-append file (concat files))))

  pub stream-cut : (files : List (List ℕ)) → AllByRecursion (IsRead rest_of) files → cut rest_of (concat files) ≡ Some files
  stream-cut files h = cut-files files h (length (concat files)) (omega arith)

  pub one-cut : (files others : List (List ℕ)) → AllByRecursion (IsRead rest_of) files → AllByRecursion (IsRead rest_of) others → concat files ≡ concat others → files ≡ others
  one-cut files others h k e = some-same (sym (stream-cut files h) ∙ ap (λ (bytes : List ℕ). cut rest_of bytes) e ∙ stream-cut others k)
    where
      the-files : Option (List (List ℕ)) → List (List ℕ)
      the-files None = []
      the-files (Some files) = files

      some-same : {a b : List (List ℕ)} → Some a ≡ Some b → a ≡ b
      some-same e = ap the-files e

-- ---- numbers in decimal

abbrev value_from : ℕ → List ℕ → ℕ
value_from n digits = (number_from n digits).0

next-digit : (n byte : ℕ) (bytes : List ℕ) → is_ascii_digit byte ≡ true → number_from n (byte ∷ bytes) ≡ number_from (n * 10 + (byte - 48)) bytes
next-digit n byte bytes e =
    ap (λ (b : Bool). elim b as (λ _. ℕ × List ℕ) [ true ↦ number_from (n * 10 + (byte - 48)) bytes | false ↦ (n, byte ∷ bytes) ]) e

no-digit : (n byte : ℕ) (bytes : List ℕ) → is_ascii_digit byte ≡ false → number_from n (byte ∷ bytes) ≡ (n, byte ∷ bytes)
no-digit n byte bytes e =
    ap (λ (b : Bool). elim b as (λ _. ℕ × List ℕ) [ true ↦ number_from (n * 10 + (byte - 48)) bytes | false ↦ (n, byte ∷ bytes) ]) e

is-digit : (byte : ℕ) → IsInRange 48 57 byte → is_ascii_digit byte ≡ true
is-digit byte h = and_from _ _ (le-leb 48 byte h.0) (le-leb byte 57 h.1)

own : IsNumeralModel (λ ds. all_ascii_digits ds ≡ true) (value_from 0)
own = numerals_by_fold _ tells_all_ascii_digits value_from (record { empty = λ n. refl; more = λ n c cs h. ap (λ (read : ℕ × List ℕ). read.0) (next-digit n c cs (is-digit c h)) })

digits-read : (n byte : ℕ) (ds rest : List ℕ) → all_ascii_digits ds ≡ true → is_ascii_digit byte ≡ false → number_from n (ds ++ byte ∷ rest) ≡ (value_from n ds, byte ∷ rest)
digits-read n byte [] rest are other = no-digit n byte rest other
digits-read n byte (c ∷ ds) rest are other =
    let both = and_parts (is_ascii_digit c) (all_ascii_digits ds) are in
    next-digit n c (ds ++ byte ∷ rest) both.0
    ∙ digits-read (n * 10 + (c - 48)) byte ds rest both.1 other
    ∙ ap (λ (k : ℕ). (k, byte ∷ rest)) (ap (λ (read : ℕ × List ℕ). read.0) (sym (next-digit n c ds both.0)))

number-read : (byte : ℕ) (ds rest : List ℕ) → 0 < length ds → all_ascii_digits ds ≡ true → is_ascii_digit byte ≡ false → number (ds ++ byte ∷ rest) ≡ Some (value_from 0 ds, byte ∷ rest)
number-read byte [] rest some are other = absurd (omega arith)
number-read byte (c ∷ ds) rest some are other =
    ap (λ (b : Bool). elim b as (λ _. Option (ℕ × List ℕ)) [ true ↦ Some (number_from 0 (c ∷ (ds ++ byte ∷ rest))) | false ↦ None ]) (and_parts (is_ascii_digit c) (all_ascii_digits ds) are).0
    ∙ ap (λ (read : ℕ × List ℕ). Some read) (digits-read 0 byte (c ∷ ds) rest are other)

decimal-read : (n byte : ℕ) (rest : List ℕ) → n < 2 ^ 64 → is_ascii_digit byte ≡ false → number (decimal n ++ byte ∷ rest) ≡ Some (n, byte ∷ rest)
decimal-read n byte rest small other =
    number-read byte (decimal n) rest (decimal_nonempty n small) (digits_decimal own n small) other
    ∙ ap (λ (k : ℕ). Some (k, byte ∷ rest)) (digits_value-decimal own n small)

-- ---- images

counted : (n : ℕ) (rows rest : List ℕ) → length rows ≡ n → behind_count n (rows ++ rest) ≡ Some rest
counted n rows rest size =
    ap (λ (b : Bool). elim b as (λ _. Option (List ℕ)) [ true ↦ Some (drop n (rows ++ rest)) | false ↦ None ]) (le-leb n (length (rows ++ rest)) (omega (arith, length-append rows rest, size)))
    ∙ ap (λ (l : List ℕ). Some l) (drop_at rows rest n size)

header-joined : (width height : ℕ) (rows rest : List ℕ)
    → (header width height ++ rows) ++ rest ≡ 80 ∷ 52 ∷ 10 ∷ (decimal width ++ 32 ∷ (decimal height ++ 10 ∷ (rows ++ rest)))
header-joined width height rows rest = simp append_assoc refl

image-read : (width height : ℕ) (rows rest : List ℕ) → width < 2 ^ 64 → height < 2 ^ 64 → length rows ≡ height * div_ceil width 8
    → behind_image ((header width height ++ rows) ++ rest) ≡ Some rest
unfolding behind_image
image-read width height rows rest wide high size =
    ap behind_image (header-joined width height rows rest)
    ∙ ap (λ (o : Option (ℕ × List ℕ)). and_then o (λ w. and_then (behind_white w.1) (λ c. and_then (number c) (λ h. and_then (behind_white h.1) (λ r. behind_count (h.0 * div_ceil w.0 8) r)))))
    (decimal-read width 32 (decimal height ++ 10 ∷ (rows ++ rest)) wide refl)
    ∙ ap (λ (o : Option (ℕ × List ℕ)). and_then o (λ h. and_then (behind_white h.1) (λ r. behind_count (h.0 * div_ceil width 8) r))) (decimal-read height 10 (rows ++ rest) high refl)
    ∙ counted (height * div_ceil width 8) rows rest size

pub image-is-read : (bytes : List ℕ) → IsImage bytes → IsRead behind_image bytes
image-is-read bytes is =
    rw is.text (record { some = omega arith; read = λ rest. image-read is.width is.height is.rows rest is.wide is.high is.size })

images-are-read : (images : List (List ℕ)) → All IsImage images → AllByRecursion (IsRead behind_image) images
images-are-read [] h = tt
images-are-read (image ∷ images) h = let are = recursion_from_All IsImage (image ∷ images) h in (image-is-read image are.0, images-are-read images (All-from_recursion IsImage images are.1))

pub images-cut : (images : List (List ℕ)) → All IsImage images → cut behind_image (concat images) ≡ Some images
images-cut images h = stream-cut behind_image images (images-are-read images h)

pub one-list-of-images : (images others : List (List ℕ)) → All IsImage images → All IsImage others → concat images ≡ concat others → images ≡ others
one-list-of-images images others h k e = one-cut behind_image images others (images-are-read images h) (images-are-read others k) e
