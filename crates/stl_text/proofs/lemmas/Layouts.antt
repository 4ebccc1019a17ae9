-- A facet in a layout: separators and what comes between them.
use Rattle.std.proofs.Common.{◌≡◌, ℕ, ◌+◌, ◌-◌, ◌<◌, ◌≤◌, Bool, true, false, List, [], ◌∷◌, ◌++◌, length, take, drop, refl, sym, ◌∙◌, ap, subst, arith, length-drop}
use Rattle.std.specs.Prelude.{Option, Some, None, nat_lt, if◌then◌else◌}
use Rattle.std.proofs.lemmas.List.{drop-append-le, drop-drop, take-append-drop}
use Rattle.micro_num.specs.declared.unit.Unit.{Unit as LengthUnit}
use Rattle.geometry.specs.Facet.{Facet, facet_with}
use Rattle.geometry.specs.Point.{Point}
use Rattle.stl_text.specs.declared.grammar.Separator.TheVariants as separator
use Rattle.stl_text.specs.Layout.{IsClosing, IsSeparator, Skips, separator_tokens}
use Rattle.stl_text.specs.declared.grammar.Separator.{Separator}
use Rattle.stl_text.specs.FacetRun.{IsRestOf}
use Rattle.stl_text.specs.Reader.{Reader, Spells, facet_tail, reader_at_start}
use Rattle.std.specs.List.{before_first}
use Rattle.micro_num.specs.Numeral.{from_first}
use Rattle.stl_text.specs.Text.{Token, keyword, normal_word, coordinate, rest_of_line, after_space, after_word, facet_keyword, facet_tokens, first_word, is_keyword, is_read_as, is_white, rest_after}
use Rattle.stl_text.proofs.lemmas.Locality.{space-over, tokens-on}
use Rattle.stl_text.proofs.lemmas.FacetRuns.{rest_after-rest, same_rest}
use Rattle.stl_text.proofs.lemmas.Either.{after_word-lt, rest-le}
use Rattle.stl_text.proofs.lemmas.Steps.{spelled-append, spells_then}

-- two lists of the same length are equal if their first n elements are, and their last n, which meet or overlap
pub ends-equal : (xs ys : List ℕ) (n : ℕ) → length xs ≡ length ys → n ≤ length ys → length ys ≤ n + n
    → take n xs ≡ take n ys → drop (length xs - n) xs ≡ drop (length ys - n) ys → xs ≡ ys
ends-equal xs ys n same some most first last =
    sym (take-append-drop n xs) ∙ (λ i. first i ++ rest i) ∙ take-append-drop n ys
  where
    k : ℕ
    k = length ys - n

    rest : drop n xs ≡ drop n ys
    rest =
        let up : n ≡ k + (n - k) = omega (arith, some, most) in
        ap (λ m. drop m xs) up ∙ sym (drop-drop (n - k) k xs) ∙ ap (λ m. drop (n - k) (drop (m - n) xs)) (sym same)
        ∙ ap (drop (n - k)) last ∙ drop-drop (n - k) k ys ∙ ap (λ m. drop m ys) (sym up)

-- whether a token is a word, and no rest of a line
abbrev is_word_token : Token → Bool
is_word_token (keyword kind text) = true
is_word_token normal_word = true
is_word_token (coordinate z) = true
is_word_token rest_of_line = false

-- words are read after the white space at the front
word-space : (unit : LengthUnit) (t : Token) (tokens : List Token) (xs ys : List ℕ) → is_word_token t ≡ true → after_space xs ≡ after_space ys
    → rest_after unit (t ∷ tokens) xs ≡ rest_after unit (t ∷ tokens) ys
word-space unit (keyword kind text) tokens xs ys is same =
    ap (λ front. if is_keyword text (before_first is_white front) then rest_after unit tokens (from_first is_white front) else None) same
word-space unit normal_word tokens xs ys is same =
    ap (λ front. if nat_lt 0 (length (before_first is_white front)) then rest_after unit tokens (from_first is_white front) else None) same
word-space unit (coordinate z) tokens xs ys is same =
    ap (λ front. if is_read_as z (before_first is_white front) unit then rest_after unit tokens (from_first is_white front) else None) same
word-space unit rest_of_line tokens xs ys is same = cc

-- what follows a separator stands for words as if nothing but the keywords were before it
skips_then : (ps : List Token) (t : Token) (tokens : List Token) {old mid new : Reader} → is_word_token t ≡ true → Skips ps old mid → Spells (t ∷ tokens) mid new
    → Spells (ps ++ t ∷ tokens) old new
skips_then ps t tokens {old} {mid} {new} is first last =
    let on : rest_after old.unit (t ∷ tokens) first.after ≡ Some new.rest =
    word-space old.unit t tokens first.after mid.rest is first.space
    ∙ subst (λ u. rest_after u (t ∷ tokens) mid.rest ≡ Some new.rest) first.same_unit last.spelled in
    record {
      spelled = spelled-append old.unit ps (t ∷ tokens) old.rest first.after new.rest first.spelled on;
      same_unit = last.same_unit ∙ first.same_unit;
    }

pub separated : (tokens : List Token) (bytes rest : List ℕ) (old new : Reader) → IsSeparator tokens bytes → old.rest ≡ bytes ++ rest
    → new.rest ≡ rest → new.unit ≡ old.unit → Skips tokens old new
separated tokens bytes rest old new is at after unit = record {
  after = is.after ++ rest;
  spelled = ap (rest_after old.unit tokens) at ∙ tokens-on old.unit tokens bytes rest is.after (is.spelled old.unit) is.some;
  space = space-over is.after rest is.white ∙ ap after_space (sym after);
  same_unit = unit;
}

-- words at the front of bytes with which the text goes on
pub closed : (n : ℕ) (bytes rest : List ℕ) (old new : Reader) → IsClosing n bytes → old.rest ≡ bytes ++ rest → new.rest ≡ drop n old.rest
    → new.unit ≡ old.unit → Spells (separator_tokens separator.Closing) old new
closed n bytes rest old new is at after unit =
    let some : 0 < length (drop n bytes) = omega (arith, length-drop n bytes, is.some) in
    let rest_is : drop n bytes ++ rest ≡ new.rest =
    sym (drop-append-le n bytes rest (omega (arith, is.some))) ∙ ap (drop n) (sym at) ∙ sym after in
    record {
      spelled = ap (rest_after old.unit (separator_tokens separator.Closing)) at
          ∙ tokens-on old.unit (separator_tokens separator.Closing) bytes rest (drop n bytes) (is.spelled old.unit) some
          ∙ ap {B = Option (List ℕ)} Some rest_is;
      same_unit = unit;
    }

-- no separator has a number, so the unit does not matter
any_unit : (p : Separator) (u v : LengthUnit) (bytes : List ℕ) → rest_after u (separator_tokens p) bytes ≡ rest_after v (separator_tokens p) bytes
any_unit separator.Opening u v bytes = refl
any_unit separator.First u v bytes = refl
any_unit separator.Next u v bytes = refl
any_unit separator.Closing u v bytes = refl

-- a facet by its separators, and by the numbers between them
abbrev place_tokens : Point → List Token
place_tokens p = coordinate p.x ∷ coordinate p.y ∷ coordinate p.z ∷ []

abbrev normal_words : List Token
normal_words = normal_word ∷ normal_word ∷ normal_word ∷ []

pub by_words : (a b c : Point) {r0 r1 r2 r3 r4 r5 r6 r7 r8 r9 : Reader} → Spells (separator_tokens separator.Opening) r0 r1
    → Spells normal_words r1 r2 → Spells (separator_tokens separator.First) r2 r3 → Spells (place_tokens a) r3 r4
    → Spells (separator_tokens separator.Next) r4 r5 → Spells (place_tokens b) r5 r6 → Spells (separator_tokens separator.Next) r6 r7
    → Spells (place_tokens c) r7 r8 → Spells (separator_tokens separator.Closing) r8 r9 → Spells (facet_tokens (facet_with a b c)) r0 r9
by_words a b c opening parts first at_a next at_b last at_c closing =
    let end = spells_then (place_tokens c) (separator_tokens separator.Closing) at_c closing in
    let from_b = spells_then (place_tokens b) _ at_b (spells_then (separator_tokens separator.Next) _ last end) in
    let from_a = spells_then (place_tokens a) _ at_a (spells_then (separator_tokens separator.Next) _ next from_b) in
    let from_parts = spells_then normal_words _ parts (spells_then (separator_tokens separator.First) _ first from_a) in
    spells_then (separator_tokens separator.Opening) _ opening from_parts

pub in_layout : (a b c : Point) {r0 r1 r2 r3 r4 r5 r6 r7 r8 r9 : Reader} → Skips (separator_tokens separator.Opening) r0 r1 → Spells normal_words r1 r2
    → Skips (separator_tokens separator.First) r2 r3 → Spells (place_tokens a) r3 r4 → Skips (separator_tokens separator.Next) r4 r5 → Spells (place_tokens b) r5 r6
    → Skips (separator_tokens separator.Next) r6 r7 → Spells (place_tokens c) r7 r8 → Spells (separator_tokens separator.Closing) r8 r9
    → Spells (facet_tokens (facet_with a b c)) r0 r9
in_layout a b c opening parts first at_a next at_b last at_c closing =
    let end = spells_then (place_tokens c) (separator_tokens separator.Closing) at_c closing in
    let from_b = spells_then (place_tokens b) _ at_b (skips_then (separator_tokens separator.Next) _ _ refl last end) in
    let from_a = spells_then (place_tokens a) _ at_a (skips_then (separator_tokens separator.Next) _ _ refl next from_b) in
    let from_parts = spells_then normal_words _ parts (skips_then (separator_tokens separator.First) _ _ refl first from_a) in
    skips_then (separator_tokens separator.Opening) _ _ refl opening from_parts

-- what a reader at the start of a text has read
pub read_from : (tokens : List Token) (u : LengthUnit) (bytes rest : List ℕ) {old new : Reader} → old ≡ reader_at_start u bytes → Spells tokens old new
    → new.rest ≡ rest → rest_after u tokens bytes ≡ Some rest
read_from tokens u bytes rest {old} {new} begins read after =
    subst (λ r. rest_after r.unit tokens r.rest ≡ Some new.rest) begins read.spelled ∙ ap {B = Option (List ℕ)} Some after

pub read_within : (tokens : List Token) (u : LengthUnit) (bytes rest : List ℕ) {old new : Reader} → old ≡ reader_at_start u bytes → Spells tokens old new
    → new.rest ≡ rest → length rest ≤ length bytes
read_within tokens u bytes rest begins read after = rest-le u tokens bytes rest (read_from tokens u bytes rest begins read after)

pub separates : (p : Separator) (u : LengthUnit) (bytes : List ℕ) {old new : Reader} → old ≡ reader_at_start u bytes → Spells (separator_tokens p) old new
    → 0 < length new.rest → after_space new.rest ≡ [] → IsSeparator (separator_tokens p) bytes
separates p u bytes {old} {new} begins read some white = record {
  after = new.rest;
  spelled = λ v. any_unit p v u bytes ∙ read_from (separator_tokens p) u bytes new.rest begins read refl;
  some = some;
  white = white;
}

pub closes : (u : LengthUnit) (bytes rest : List ℕ) {old new : Reader} → old ≡ reader_at_start u bytes → Spells (separator_tokens separator.Closing) old new
    → new.rest ≡ rest → 0 < length rest → IsClosing (length bytes - length rest) bytes
closes u bytes rest {old} {new} begins read after some =
    let spelled : rest_after u (separator_tokens separator.Closing) bytes ≡ Some rest = read_from (separator_tokens separator.Closing) u bytes rest begins read after in
    let is : IsRestOf bytes rest = rest_after-rest u (separator_tokens separator.Closing) bytes rest spelled in
    let n : ℕ = length bytes - length rest in
    let len : length rest ≡ length bytes - is.skipped = ap length is.rest_is ∙ length-drop is.skipped bytes in
    let other : IsRestOf bytes (drop n bytes) = record { skipped = n; rest_is = refl } in
    let same : rest ≡ drop n bytes = same_rest bytes rest (drop n bytes) is other (omega (arith, length-drop n bytes, len)) in
    record {
      some = omega (arith, some, len);
      spelled = λ v. any_unit separator.Closing v u bytes ∙ spelled ∙ ap {B = Option (List ℕ)} Some same;
    }

-- the text of a facet is never empty
pub facet-some : (t : Facet) (u : LengthUnit) (bytes rest : List ℕ) → rest_after u (facet_tokens t) bytes ≡ Some rest → length rest < length bytes
facet-some t u bytes rest read = by_test (is_keyword facet_keyword (first_word bytes)) refl read
  where
    some_word : (w : List ℕ) → is_keyword facet_keyword w ≡ true → 0 < length w
    some_word [] h = cc
    some_word (b ∷ bs) h = omega arith

    by_test : (b : Bool) → is_keyword facet_keyword (first_word bytes) ≡ b → (if b then rest_after u (facet_tail t) (after_word bytes) else None) ≡ Some rest
        → length rest < length bytes
    by_test true is h =
        omega (arith, after_word-lt bytes (some_word (first_word bytes) is), rest-le u (facet_tail t) (after_word bytes) rest h)
    by_test false is h = cc
