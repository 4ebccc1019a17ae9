-- The first word of a text, found by a cut before white space.
use Rattle.std.proofs.Common.{◌≡◌, ◌⊎◌, inl, inr, ℕ, ◌<◌, ◌≤◌, Bool, true, false, not, ◌&&◌, List, [], ◌∷◌, ◌++◌, zero, suc, take, drop, length, refl, sym, ◌∙◌, ap, subst, arith}
use Rattle.std.specs.Prelude.{Option, Some, None, Ok, Err, ℤ, ◌==◌, nat_lt, nat_le, if◌then◌else◌}
use Rattle.std.specs.Char.{is_ascii_digit, to_ascii_lowercase}
use Rattle.std.specs.Str.{str_to_ascii_lowercase}
use Rattle.std.specs.List.{list_all, before_first, position_or_len}
use Rattle.std.proofs.lemmas.Bool.{and_parts, cases_lt, lt-leb, ne_eqb, not-true, eqb-true}
use Rattle.std.proofs.lemmas.Bool.Decides.{nat_tests}
use Rattle.std.proofs.lemmas.List.{length-map, length-take-le, take-append-drop}
use Rattle.std.proofs.lemmas.List.Sums.{prefix_len-le-length}
use Rattle.std.proofs.lemmas.List.Folds.{list_all-append}
use Rattle.std.proofs.lemmas.Slice.Eq.{bytes_eq-Decides}
use Rattle.std.proofs.lemmas.Str.Ascii.{lowercase_is}
use Rattle.std.proofs.Math.Numerals.{one-add}
use Rattle.micro_num.specs.declared.unit.Unit.{Unit as LengthUnit}
use Rattle.micro_num.specs.declared.num_fault.NumFault.TheVariants.{TooLong}
use Rattle.micro_num.specs.Numeral.{Sign, unsigned, plus, minus, Exponent, Numeral, IsNumeral, is_exponent_mark, is_point, sign_text, fraction_text, exponent_text, numeral_text, fraction_digits, is_exponent, from_first, numeral_of}
use Rattle.micro_num.specs.Micrometres.{coordinate_of, numeral_coordinate}
use Rattle.micro_num.specs.Scan.{IsEnded}
use Rattle.exact_int.proofs.lemmas.Lists.{all-weaker}
use Rattle.micro_num.proofs.lemmas.Grammar.{Starts, before-is, from-is, from_starts, bounds, numeral_of-is}
use Rattle.stl_text.specs.Text.{after_space, is_white, is_keyword, is_line_end}
use Rattle.stl_text.specs.Written.{IsApart}
use Rattle.micro_num.specs.declared.limits.TheConstants.{WORD_LIMIT}

-- a byte of a word
abbrev pub is_clear : ℕ → Bool
is_clear byte = not (is_white byte)

-- a byte that ends a line is white space
pub line_end_white : (b : ℕ) → is_line_end b ≡ true → is_white b ≡ true
line_end_white b h = grind (arith, nat_tests)

module _ (front : List ℕ) (n : ℕ) (clear : list_all (λ byte. not (is_white byte)) (take n front) ≡ true) (apart : IsApart (drop n front)) where
  starts : (xs : List ℕ) → IsApart xs → Starts is_white xs
  starts [] h = h
  starts (x ∷ xs) h = h

  pub word_is : before_first is_white front ≡ take n front
  word_is =
      ap (before_first is_white) (sym (take-append-drop n front))
      ∙ before-is is_white (take n front) (drop n front) clear (starts (drop n front) apart)

  pub rest_is : from_first is_white front ≡ drop n front
  rest_is =
      ap (from_first is_white) (sym (take-append-drop n front))
      ∙ from-is is_white (take n front) (drop n front) clear (starts (drop n front) apart)

-- a byte above 32 is not white
pub above_clear : (c : ℕ) → 32 < c → is_clear c ≡ true
above_clear c h = rw (ne_eqb c 32 (λ e. omega (arith, h, e)), lt-leb c 13 (omega arith)) (last (nat_le 9 c))
  where
    last : (b : Bool) → not (b && false) ≡ true
    last true = refl
    last false = refl

-- Keywords.

white_lower : (c : ℕ) → is_clear (to_ascii_lowercase c) ≡ is_clear c
white_lower c = by_cases (cases_lt c 65) (cases_lt 90 c)
  where
    by_cases : (c < 65) ⊎ (65 ≤ c) → (90 < c) ⊎ (c ≤ 90) → is_clear (to_ascii_lowercase c) ≡ is_clear c
    by_cases (inl low) other = ap is_clear ((lowercase_is c).1 low)
    by_cases (inr some) (inl high) = ap is_clear ((lowercase_is c).2 high)
    by_cases (inr some) (inr few) =
        above_clear (to_ascii_lowercase c) (omega (arith, (lowercase_is c).0 (some, few))) ∙ sym (above_clear c (omega arith))

lower_clear : (word : List ℕ) → list_all is_clear (str_to_ascii_lowercase word) ≡ list_all is_clear word
lower_clear [] = refl
lower_clear (c ∷ cs) = λ i. white_lower c i && lower_clear cs i

pub keyword_clear : (text word : List ℕ) → list_all is_clear text ≡ true → is_keyword text word ≡ true → list_all is_clear word ≡ true
keyword_clear text word clear is =
    sym (lower_clear word) ∙ ap (list_all is_clear) ((bytes_eq-Decides (str_to_ascii_lowercase word) text).0 is) ∙ clear

-- a first word that is a keyword is as long as the keyword
keyword_len : (text front : List ℕ) → is_keyword text (before_first is_white front) ≡ true → position_or_len is_white front ≡ length text
keyword_len text front is =
    let same : str_to_ascii_lowercase (before_first is_white front) ≡ text =
    (bytes_eq-Decides (str_to_ascii_lowercase (before_first is_white front)) text).0 is in
    let whole : length (before_first is_white front) ≡ position_or_len is_white front =
    length-take-le (position_or_len is_white front) front (prefix_len-le-length (λ byte. not (is_white byte)) front) in
    sym whole ∙ sym (length-map (before_first is_white front) to_ascii_lowercase) ∙ ap length same

-- what follows the first word begins with white space
pub word_apart : (front : List ℕ) → IsApart (from_first is_white front)
word_apart front = apart (from_first is_white front) (from_starts is_white front)
  where
    apart : (xs : List ℕ) → Starts is_white xs → IsApart xs
    apart [] h = h
    apart (x ∷ xs) h = h

-- if a text does not begin with a keyword, or the word goes on after it, the first word is another one
pub no_keyword : (text front : List ℕ) → (is_keyword text (take (length text) front) ≡ true → IsApart (drop (length text) front) → ⊥)
    → is_keyword text (before_first is_white front) ≡ false
no_keyword text front other = by_test (is_keyword text (before_first is_white front)) refl
  where
    by_test : (b : Bool) → is_keyword text (before_first is_white front) ≡ b → is_keyword text (before_first is_white front) ≡ false
    by_test true is =
        let len : position_or_len is_white front ≡ length text = keyword_len text front is in
        absurd (other (subst (λ n. is_keyword text (take n front) ≡ true) len is) (subst (λ n. IsApart (drop n front)) len (word_apart front)))
    by_test false is = is

-- Numbers.

pub clear-append : (xs ys : List ℕ) → list_all is_clear xs ≡ true → list_all is_clear ys ≡ true → list_all is_clear (xs ++ ys) ≡ true
clear-append xs ys h k = list_all-append is_clear xs ys ∙ rw h k

digits_clear : (ds : List ℕ) → list_all is_ascii_digit ds ≡ true → list_all is_clear ds ≡ true
digits_clear ds h = all-weaker is_ascii_digit is_clear (λ d is. above_clear d (omega (arith, (bounds d is).0))) ds h

sign_clear : (s : Sign) → list_all is_clear (sign_text s) ≡ true
sign_clear unsigned = refl
sign_clear plus = refl
sign_clear minus = refl

fraction_clear : (fraction : Option (List ℕ)) → list_all is_ascii_digit (fraction_digits fraction) ≡ true → list_all is_clear (fraction_text fraction) ≡ true
fraction_clear None h = refl
fraction_clear (Some ds) h = digits_clear ds h

mark_clear : (mark : ℕ) → is_exponent_mark mark ≡ true → is_clear mark ≡ true
mark_clear mark h = by_tests (mark == 69) (mark == 101) refl refl h
  where
    by_tests : (a b : Bool) → (mark == 69) ≡ a → (mark == 101) ≡ b → is_exponent_mark mark ≡ true → is_clear mark ≡ true
    by_tests true b is other h = above_clear mark (omega (arith, eqb-true mark 69 is))
    by_tests false true other is h = above_clear mark (omega (arith, eqb-true mark 101 is))
    by_tests false false first second h = let h' = rw (first, second) at h in cc

exponent_clear : (exponent : Option Exponent) → is_exponent exponent ≡ true → list_all is_clear (exponent_text exponent) ≡ true
exponent_clear None h = refl
exponent_clear (Some e) h =
    let parts = and_parts _ _ h in
    let digits = and_parts _ _ parts.1 in
    rw (mark_clear e.mark parts.0) (clear-append (sign_text e.sign) e.digits (sign_clear e.sign) (digits_clear e.digits digits.1))

numeral_clear : (n : Numeral) → IsNumeral n → list_all is_clear (numeral_text n) ≡ true
numeral_clear n is =
    let digits = and_parts _ _ is.0 in
    let each = and_parts _ _ (sym (list_all-append is_ascii_digit n.whole (fraction_digits n.fraction)) ∙ digits.1) in
    clear-append (sign_text n.sign ++ n.whole ++ fraction_text n.fraction) (exponent_text n.exponent)
    (clear-append (sign_text n.sign ++ n.whole) (fraction_text n.fraction)
    (clear-append (sign_text n.sign) n.whole (sign_clear n.sign) (digits_clear n.whole each.0)) (fraction_clear n.fraction each.1))
    (exponent_clear n.exponent is.1)

pub coordinate_clear : (unit : LengthUnit) (word : List ℕ) (z : ℤ) → coordinate_of unit word ≡ Ok z → list_all is_clear word ≡ true
coordinate_clear unit word z e = by_length (nat_lt WORD_LIMIT (length word)) e
  where
    by_numeral : (n : Option Numeral) → numeral_of word ≡ n → numeral_coordinate unit n ≡ Ok z → list_all is_clear word ≡ true
    by_numeral None read h = cc
    by_numeral (Some n) read h =
        let is : IsNumeral n × (word ≡ numeral_text n) = numeral_of-is word n read in
        ap (list_all is_clear) is.1 ∙ numeral_clear n is.0

    by_length : (b : Bool) → (if b then Err TooLong else numeral_coordinate unit (numeral_of word)) ≡ Ok z → list_all is_clear word ≡ true
    by_length true h = cc
    by_length false h = by_numeral (numeral_of word) refl h

-- A text that begins with a word has no white space at its front.

pub clear_front : (n : ℕ) (bytes : List ℕ) → 0 < n → list_all is_clear (take n bytes) ≡ true → after_space bytes ≡ bytes
clear_front zero bytes some clear = absurd (omega (arith, some))
clear_front (suc n) [] some clear = refl
clear_front (suc n) (byte ∷ bytes) some clear = rw (not-true (is_white byte) (and_parts (not (is_white byte)) (list_all is_clear (take n bytes)) clear).0) refl

pub coordinate_front : (unit : LengthUnit) (n : ℕ) (bytes : List ℕ) (z : ℤ) → coordinate_of unit (take n bytes) ≡ Ok z → after_space bytes ≡ bytes
coordinate_front unit zero bytes z is = cc
coordinate_front unit (suc n) bytes z is = clear_front (suc n) bytes (omega arith) (coordinate_clear unit (take (suc n) bytes) z is)

-- What follows a word is no more of a number.

not_white : (p : ℕ → Bool) → ((byte : ℕ) → p byte ≡ true → is_clear byte ≡ true) → (byte : ℕ) → is_white byte ≡ true → p byte ≡ false
not_white p clear byte white = by_test (p byte) refl
  where
    by_test : (t : Bool) → p byte ≡ t → p byte ≡ false
    by_test true is = is ∙ sym white ∙ not-true (is_white byte) (clear byte is)
    by_test false is = is

pub number_ended : (rest : List ℕ) → IsApart rest → IsEnded rest
number_ended [] apart = apart
number_ended (byte ∷ rest) white = (
  not_white is_ascii_digit (λ d is. above_clear d (omega (arith, (bounds d is).0))) byte white,
  not_white is_point (λ d is. above_clear d (omega (arith, eqb-true d 46 is))) byte white,
  not_white is_exponent_mark mark_clear byte white,
)

-- a text with a word at its front
pub word_whole : (front : List ℕ) → front ≡ before_first is_white front ++ from_first is_white front
word_whole front = sym (take-append-drop (position_or_len is_white front) front)

abbrev count_of : Option (ℤ × ℕ) → ℕ
count_of None = 0
count_of (Some found) = found.1

pub same_count : (x y : ℤ) (m n : ℕ) → ◌≡◌ {A = Option (ℤ × ℕ)} (Some (x, m)) (Some (y, n)) → m ≡ n
same_count x y m n same = ap count_of same

pub word_end : (front : List ℕ) (n : ℕ) → n ≡ length (before_first is_white front) → IsApart (drop n front)
word_end front n is =
    let len : length (before_first is_white front) ≡ position_or_len is_white front =
    length-take-le (position_or_len is_white front) front (prefix_len-le-length (λ byte. not (is_white byte)) front) in
    subst (λ m. IsApart (drop m front)) (sym (is ∙ len)) (word_apart front)

-- there is no white space after that at the front
pub space_once : (bytes : List ℕ) → after_space (after_space bytes) ≡ after_space bytes
space_once [] = refl
space_once (byte ∷ bytes) = by_test (is_white byte) refl (space_once bytes)
  where
    by_test : (b : Bool) → is_white byte ≡ b → after_space (after_space bytes) ≡ after_space bytes
        → after_space (after_space (byte ∷ bytes)) ≡ after_space (byte ∷ bytes)
    by_test true is rest =
        let over : after_space (byte ∷ bytes) ≡ after_space bytes = rw (is, one-add) refl in
        ap after_space over ∙ rest ∙ sym over
    by_test false is rest =
        let here : after_space (byte ∷ bytes) ≡ byte ∷ bytes = rw is refl in
        ap after_space here
