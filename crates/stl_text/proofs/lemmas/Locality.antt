-- What is at the front of a text with something after it is there too if the text goes on.
use Rattle.std.proofs.Common.{◌≡◌, ℕ, ◌+◌, ◌-◌, ◌<◌, Bool, true, false, cond, not, List, [], ◌∷◌, ◌++◌, length, take, drop, refl, sym, ◌∙◌, ap, arith, length-drop}
use Rattle.std.specs.Prelude.{Option, Some, None, nat_lt, if◌then◌else◌}
use Rattle.std.specs.List.{list_all, before_first, position_or_len, prefix_len}
use Rattle.std.proofs.lemmas.Bool.{and_parts, eq-eqb, ne_eqb}
use Rattle.std.proofs.lemmas.List.{drop-append-le, take-append-le}
use Rattle.std.proofs.lemmas.List.Folds.{prefix_len-append}
use Rattle.std.proofs.lemmas.List.Sums.{prefix_len-le-length}
use Rattle.std.proofs.Math.Seq.{drop-append-add}
use Rattle.micro_num.specs.declared.unit.Unit.{Unit as LengthUnit}
use Rattle.micro_num.specs.Numeral.{from_first}
use Rattle.micro_num.proofs.lemmas.Grammar.{Starts, before-is, from-is}
use Rattle.stl_text.specs.Text.{Token, keyword, normal_word, coordinate, rest_of_line, begins_with, after_token, rest_after, first_word, after_space, after_word, after_line, is_keyword, is_read_as, is_white, is_line_end}
use Rattle.stl_text.specs.declared.word.Word.{Word}
use Rattle.stl_text.proofs.lemmas.Either.{rest-le}

module _ (p : ℕ → Bool) (xs ys : List ℕ) where
  -- after a front that passes and has an end
  stays : 0 < length (drop (prefix_len p xs) xs) → prefix_len p (xs ++ ys) ≡ prefix_len p xs
  stays some =
      let left : length (drop (prefix_len p xs) xs) ≡ length xs - prefix_len p xs = length-drop (prefix_len p xs) xs in
      prefix_len-append p xs ys
      ∙ ap (λ b. cond b (length xs + prefix_len p ys) (prefix_len p xs)) (ne_eqb (prefix_len p xs) (length xs) (λ e. omega (arith, left, some, e)))

  pub drop-on : 0 < length (drop (prefix_len p xs) xs) → drop (prefix_len p (xs ++ ys)) (xs ++ ys) ≡ drop (prefix_len p xs) xs ++ ys
  drop-on some = ap (λ n. drop n (xs ++ ys)) (stays some) ∙ drop-append-le (prefix_len p xs) xs ys (prefix_len-le-length p xs)

  pub take-on : 0 < length (drop (prefix_len p xs) xs) → take (prefix_len p (xs ++ ys)) (xs ++ ys) ≡ take (prefix_len p xs) xs
  take-on some = ap (λ n. take n (xs ++ ys)) (stays some) ∙ take-append-le (prefix_len p xs) xs ys (prefix_len-le-length p xs)

  -- if the whole front passes
  pub drop-over : drop (prefix_len p xs) xs ≡ [] → drop (prefix_len p (xs ++ ys)) (xs ++ ys) ≡ drop (prefix_len p ys) ys
  drop-over none =
      let left : length (drop (prefix_len p xs) xs) ≡ length xs - prefix_len p xs = length-drop (prefix_len p xs) xs in
      let zero_left : length (drop (prefix_len p xs) xs) ≡ 0 = ap length none in
      let all : prefix_len p xs ≡ length xs = omega (arith, left, zero_left, prefix_len-le-length p xs) in
      ap (λ n. drop n (xs ++ ys))
      (prefix_len-append p xs ys
      ∙ ap (λ b. cond b (length xs + prefix_len p ys) (prefix_len p xs)) (eq-eqb (prefix_len p xs) (length xs) all))
      ∙ drop-append-add xs ys (prefix_len p ys)

-- White space.

pub space-on : (xs ys : List ℕ) → 0 < length (after_space xs) → after_space (xs ++ ys) ≡ after_space xs ++ ys
space-on xs ys some = drop-on is_white xs ys some

pub space-over : (xs ys : List ℕ) → after_space xs ≡ [] → after_space (xs ++ ys) ≡ after_space ys
space-over xs ys none = drop-over is_white xs ys none

-- The rest of a line.

pub line-on : (xs ys : List ℕ) → 0 < length (after_line xs) → after_line (xs ++ ys) ≡ after_line xs ++ ys
line-on xs ys some = drop-on (λ x. not (is_line_end x)) xs ys some

pub line-over : (xs ys : List ℕ) → after_line xs ≡ [] → after_line (xs ++ ys) ≡ after_line ys
line-over xs ys none = drop-over (λ x. not (is_line_end x)) xs ys none

-- A word, with something after it.

space-some : (xs : List ℕ) → 0 < length (after_word xs) → 0 < length (after_space xs)
space-some xs some =
    let left : length (after_word xs) ≡ length (after_space xs) - position_or_len is_white (after_space xs) =
    length-drop (position_or_len is_white (after_space xs)) (after_space xs) in
    omega (arith, left, some)

word-on : (xs ys : List ℕ) → 0 < length (after_word xs) → first_word (xs ++ ys) ≡ first_word xs
word-on xs ys some =
    ap (before_first is_white) (space-on xs ys (space-some xs some)) ∙ take-on (λ x. not (is_white x)) (after_space xs) ys some

past_word-on : (xs ys : List ℕ) → 0 < length (after_word xs) → after_word (xs ++ ys) ≡ after_word xs ++ ys
past_word-on xs ys some =
    ap (from_first is_white) (space-on xs ys (space-some xs some)) ∙ drop-on (λ x. not (is_white x)) (after_space xs) ys some

-- Tokens, with something after them.

begins-on : (unit : LengthUnit) (t : Token) (xs ys : List ℕ) → 0 < length (after_token t xs) → begins_with unit t (xs ++ ys) ≡ begins_with unit t xs
begins-on unit (keyword kind text) xs ys some = ap (is_keyword text) (word-on xs ys some)
begins-on unit normal_word xs ys some = ap (λ w. nat_lt 0 (length w)) (word-on xs ys some)
begins-on unit (coordinate z) xs ys some = ap (λ w. is_read_as z w unit) (word-on xs ys some)
begins-on unit rest_of_line xs ys some = refl

after-on : (t : Token) (xs ys : List ℕ) → 0 < length (after_token t xs) → after_token t (xs ++ ys) ≡ after_token t xs ++ ys
after-on (keyword kind text) xs ys some = past_word-on xs ys some
after-on normal_word xs ys some = past_word-on xs ys some
after-on (coordinate z) xs ys some = past_word-on xs ys some
after-on rest_of_line xs ys some = line-on xs ys some

-- A text that begins with tokens and goes on after them begins with them whatever follows it.
pub tokens-on : (unit : LengthUnit) (tokens : List Token) (xs ys rest : List ℕ) → rest_after unit tokens xs ≡ Some rest → 0 < length rest
    → rest_after unit tokens (xs ++ ys) ≡ Some (rest ++ ys)
tokens-on unit [] xs ys rest spelled some = let same : xs ≡ rest = cc in ap {B = Option (List ℕ)} (λ r. Some (r ++ ys)) same
tokens-on unit (t ∷ tokens) xs ys rest spelled some =
    by_test (λ e. tokens-on unit tokens (after_token t xs) ys rest e some) (begins_with unit t xs) refl spelled
  where
    by_test : (rest_after unit tokens (after_token t xs) ≡ Some rest → rest_after unit tokens (after_token t xs ++ ys) ≡ Some (rest ++ ys))
        → (b : Bool) → begins_with unit t xs ≡ b → (if b then rest_after unit tokens (after_token t xs) else None) ≡ Some rest
        → rest_after unit (t ∷ tokens) (xs ++ ys) ≡ Some (rest ++ ys)
    by_test on true begins e =
        let left : 0 < length (after_token t xs) = omega (arith, some, rest-le unit tokens (after_token t xs) rest e) in
        rw (begins-on unit t xs ys left, begins)
        (ap (rest_after unit tokens) (after-on t xs ys left) ∙ on e)
    by_test on false begins e = cc

-- A word at the front.

pub word_next : (after word rest : List ℕ) → after_space after ≡ word ++ rest → list_all (λ byte. not (is_white byte)) word ≡ true
    → Starts is_white rest → (first_word after ≡ word) × (after_word after ≡ rest)
word_next after word rest at clear starts = (
  ap (before_first is_white) at ∙ before-is is_white word rest clear starts,
  ap (from_first is_white) at ∙ from-is is_white word rest clear starts,
)

-- a word begins with no white space
pub word-first : (word rest : List ℕ) → 0 < length word → list_all (λ byte. not (is_white byte)) word ≡ true → after_space (word ++ rest) ≡ word ++ rest
word-first [] rest some clear = absurd (omega (arith, some))
word-first (b ∷ bs) rest some clear = by_test (is_white b) refl (and_parts _ _ clear).0
  where
    by_test : (w : Bool) → is_white b ≡ w → not (is_white b) ≡ true → after_space (b ∷ (bs ++ rest)) ≡ b ∷ (bs ++ rest)
    by_test true white clear = let wrong : false ≡ true = sym (ap not white) ∙ clear in cc
    by_test false white clear = rw white refl

-- a text that begins with white space, or is empty, goes on so
pub starts-on : (xs ys : List ℕ) → Starts is_white xs → 0 < length xs → Starts is_white (xs ++ ys)
starts-on [] ys starts some = absurd (omega (arith, some))
starts-on (x ∷ xs) ys starts some = starts

-- Tokens that begin with a keyword see a text after its white space.
pub seen_keyword : (unit : LengthUnit) (kind : Word) (text : List ℕ) (tokens : List Token) (xs ys rest : List ℕ) → after_space xs ≡ after_space ys
    → rest_after unit (keyword kind text ∷ tokens) ys ≡ Some rest → rest_after unit (keyword kind text ∷ tokens) xs ≡ Some rest
seen_keyword unit kind text tokens xs ys rest same spelled =
    ap {B = Option (List ℕ)} (λ front. if is_keyword text (before_first is_white front) then rest_after unit tokens (from_first is_white front) else None) same
    ∙ spelled
