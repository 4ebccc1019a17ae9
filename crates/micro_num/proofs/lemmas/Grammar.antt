-- A number of the grammar has one spelling, and cutting its text gives its parts.
use Rattle.std.proofs.Common.{◌≡◌, ℕ, suc, ◌<◌, ◌≤◌, Bool, true, false, not, ◌&&◌, ◌||◌, List, [], ◌∷◌, ◌++◌, length, take, drop, refl, sym, ◌∙◌, ap, subst, inl, inr, arith, ◌⊎◌, append_assoc, lit≤}
use Rattle.std.specs.Prelude.{Option, Some, None, ◌==◌, nat_lt, nat_le, if◌then◌else◌}
use Rattle.std.specs.Char.{is_ascii_digit}
use Rattle.std.specs.List.{list_all, before_first, position_or_len}
use Rattle.std.proofs.lemmas.List.{take-append-drop}
use Rattle.std.proofs.lemmas.List.Folds.{list_all-append}
use Rattle.std.proofs.Math.Seq.{take-append_seam, drop-append_seam}
use Rattle.std.proofs.Math.Numerals.{one-add}
use Rattle.std.proofs.lemmas.Bool.{and_parts, eqb-true, leb-true, ne_eqb}
use Rattle.exact_int.proofs.lemmas.Lists.{all-weaker}
use Rattle.micro_num.specs.Numeral.{Sign, unsigned, plus, minus, Exponent, Numeral, is_exponent_mark, is_point, sign_text, fraction_text, exponent_text, numeral_text, fraction_digits, mantissa_digits, are_digits, is_exponent, IsNumeral, sign_of, after_sign, from_first, fraction_of, exponent_of, parts_of, numeral_of}

-- empty, or the first byte passes the test
abbrev pub Starts : (ℕ → Bool) → List ℕ → Type 0
Starts p [] = Unit {0}
Starts p (x ∷ xs) = p x ≡ true

-- the first byte that passes a test is after those that do not
pub place : (p : ℕ → Bool) (xs ys : List ℕ) → list_all (λ x. not (p x)) xs ≡ true → Starts p ys
    → position_or_len p (xs ++ ys) ≡ length xs
place p [] [] clear starts = refl
place p [] (y ∷ ys) clear starts = rw starts refl
place p (x ∷ xs) ys clear starts =
    let parts : (not (p x) ≡ true) × (list_all (λ z. not (p z)) xs ≡ true) = and_parts _ _ clear in
    rw parts.0 (rw one-add (ap suc (place p xs ys parts.1 starts)))

pub before-is : (p : ℕ → Bool) (xs ys : List ℕ) → list_all (λ x. not (p x)) xs ≡ true → Starts p ys
    → before_first p (xs ++ ys) ≡ xs
before-is p xs ys clear starts = ap (λ n. take n (xs ++ ys)) (place p xs ys clear starts) ∙ take-append_seam xs ys

pub from-is : (p : ℕ → Bool) (xs ys : List ℕ) → list_all (λ x. not (p x)) xs ≡ true → Starts p ys
    → from_first p (xs ++ ys) ≡ ys
from-is p xs ys clear starts = ap (λ n. drop n (xs ++ ys)) (place p xs ys clear starts) ∙ drop-append_seam xs ys

pub from_starts : (p : ℕ → Bool) (xs : List ℕ) → Starts p (from_first p xs)
from_starts p [] = tt
from_starts p (x ∷ xs) = at_head (from_starts p xs) (p x) refl
  where
    at_head : Starts p (from_first p xs) → (b : Bool) → p x ≡ b → Starts p (from_first p (x ∷ xs))
    at_head tail true passes = rw passes passes
    at_head tail false fails = rw fails (rw one-add tail)

-- A word is the text of its parts, number or not.

pub sign-text : (word : List ℕ) → sign_text (sign_of word) ++ after_sign word ≡ word
sign-text [] = refl
sign-text (byte ∷ rest) = by_tests (byte == 43) (byte == 45) refl refl
  where
    by_tests : (a b : Bool) → (byte == 43) ≡ a → (byte == 45) ≡ b
        → sign_text (if a then plus else (if b then minus else unsigned)) ++ (if a || b then rest else byte ∷ rest) ≡ byte ∷ rest
    by_tests true b plus_is h = ap (λ x. x ∷ rest) (sym (eqb-true byte 43 plus_is))
    by_tests false true h minus_is = ap (λ x. x ∷ rest) (sym (eqb-true byte 45 minus_is))
    by_tests false false h h' = refl

fraction-text : (bytes : List ℕ) → Starts is_point bytes → fraction_text (fraction_of bytes) ≡ bytes
fraction-text [] h = refl
fraction-text (point ∷ digits) h = ap (λ x. x ∷ digits) (sym (eqb-true point 46 h))

pub exponent-text : (bytes : List ℕ) → exponent_text (exponent_of bytes) ≡ bytes
exponent-text [] = refl
exponent-text (mark ∷ rest) = ap {B = List ℕ} (λ r. mark ∷ r) (sign-text rest)

-- the four parts of a text, grouped from the right
pub regrouped : (s w f e : List ℕ) → s ++ w ++ f ++ e ≡ s ++ (w ++ (f ++ e))
regrouped s w f e = append_assoc (s ++ w) f e ∙ append_assoc s w (f ++ e)

-- two cuts of a text: at the first mark, and before that at the first point
cut-text : (rest : List ℕ)
    → (let mantissa : List ℕ = before_first is_exponent_mark rest in
    before_first is_point mantissa
    ++ (fraction_text (fraction_of (from_first is_point mantissa)) ++ exponent_text (exponent_of (from_first is_exponent_mark rest))))
    ≡ rest
cut-text rest =
    let mantissa : List ℕ = before_first is_exponent_mark rest in
    let point : List ℕ = from_first is_point mantissa in
    let mark : List ℕ = from_first is_exponent_mark rest in
    ap (λ f. before_first is_point mantissa ++ (f ++ exponent_text (exponent_of mark))) (fraction-text point (from_starts is_point mantissa))
    ∙ ap (λ e. before_first is_point mantissa ++ (point ++ e)) (exponent-text mark)
    ∙ sym (append_assoc (before_first is_point mantissa) point mark)
    ∙ ap (λ m. m ++ mark) (take-append-drop (position_or_len is_point mantissa) mantissa)
    ∙ take-append-drop (position_or_len is_exponent_mark rest) rest

numeral_text-parts : (word : List ℕ) → numeral_text (parts_of word) ≡ word
numeral_text-parts word =
    let n : Numeral = parts_of word in
    regrouped (sign_text n.sign) n.whole (fraction_text n.fraction) (exponent_text n.exponent)
    ∙ ap (λ r. sign_text (sign_of word) ++ r) (cut-text (after_sign word))
    ∙ sign-text word

-- a word that is read as a number is the text of that number
pub numeral_of-is : (word : List ℕ) (n : Numeral) → numeral_of word ≡ Some n → IsNumeral n × (word ≡ numeral_text n)
numeral_of-is word n read = by_test (are_digits (mantissa_digits (parts_of word))) (is_exponent (parts_of word).exponent) refl refl read
  where
    by_test : (a b : Bool) → are_digits (mantissa_digits (parts_of word)) ≡ a → is_exponent (parts_of word).exponent ≡ b
        → (if a && b then Some (parts_of word) else None) ≡ Some n → IsNumeral n × (word ≡ numeral_text n)
    by_test true true digits exponent e =
        let is : parts_of word ≡ n = cc in
        subst (λ m. IsNumeral m × (word ≡ numeral_text m)) is ((digits, exponent), sym (numeral_text-parts word))
    by_test true false digits exponent e = cc
    by_test false b digits exponent e = cc

-- The other way: the text of a number is cut into the parts of the number.

-- a digit is no sign, no point and no mark
module _ (d : ℕ) (h : is_ascii_digit d ≡ true) where
  pub bounds : (48 ≤ d) × (d ≤ 57)
  bounds =
      let parts : (nat_le 48 d ≡ true) × (nat_le d 57 ≡ true) = and_parts _ _ h in
      (leb-true 48 d parts.0, leb-true d 57 parts.1)

  other : (k : ℕ) → (k < 48) ⊎ (57 < k) → (d == k) ≡ false
  other k (inl low) = ne_eqb d k (λ e. omega (arith, bounds.0, low, e))
  other k (inr high) = ne_eqb d k (λ e. omega (arith, bounds.1, high, e))

  digit-point : not (is_point d) ≡ true
  digit-point = rw (other 46 (inl (lit≤ tt))) refl

  digit-mark : not (is_exponent_mark d) ≡ true
  digit-mark = rw (other 69 (inr (lit≤ tt)), other 101 (inr (lit≤ tt))) refl

-- empty, or the first byte is no sign
abbrev pub IsUnsigned : List ℕ → Type 0
IsUnsigned [] = Unit {0}
IsUnsigned (byte ∷ rest) = ((byte == 43) ≡ false) × ((byte == 45) ≡ false)

digits_unsigned : (ds : List ℕ) → list_all is_ascii_digit ds ≡ true → IsUnsigned ds
digits_unsigned [] h = tt
digits_unsigned (d ∷ ds) h =
    let parts : (is_ascii_digit d ≡ true) × (list_all is_ascii_digit ds ≡ true) = and_parts _ _ h in
    (other d parts.0 43 (inl (lit≤ tt)), other d parts.0 45 (inl (lit≤ tt)))

pub digits_unsigned_on : (ds rest : List ℕ) → are_digits ds ≡ true → IsUnsigned (ds ++ rest)
digits_unsigned_on [] rest h = cc
digits_unsigned_on (d ∷ ds) rest h = digits_unsigned (d ∷ ds) (and_parts _ _ h).1

pub sign-is : (sign : Sign) (rest : List ℕ) → IsUnsigned rest → sign_of (sign_text sign ++ rest) ≡ sign
sign-is unsigned [] h = refl
sign-is unsigned (byte ∷ rest) h = rw (h.0, h.1) refl
sign-is plus rest h = refl
sign-is minus rest h = refl

pub after_sign-is : (sign : Sign) (rest : List ℕ) → IsUnsigned rest → after_sign (sign_text sign ++ rest) ≡ rest
after_sign-is unsigned [] h = refl
after_sign-is unsigned (byte ∷ rest) h = rw (h.0, h.1) refl
after_sign-is plus rest h = refl
after_sign-is minus rest h = refl

pub exponent-is : (exponent : Option Exponent) → is_exponent exponent ≡ true → exponent_of (exponent_text exponent) ≡ exponent
exponent-is None h = refl
exponent-is (Some e) h =
    let parts : (is_exponent_mark e.mark ≡ true) × (are_digits e.digits ≡ true) = and_parts _ _ h in
    let digits : (nat_lt 0 (length e.digits) ≡ true) × (list_all is_ascii_digit e.digits ≡ true) = and_parts _ _ parts.1 in
    let clear : IsUnsigned e.digits = digits_unsigned e.digits digits.1 in
    λ i. Some (record { mark = e.mark; sign = sign-is e.sign e.digits clear i; digits = after_sign-is e.sign e.digits clear i })

exponent_starts : (exponent : Option Exponent) → is_exponent exponent ≡ true → Starts is_exponent_mark (exponent_text exponent)
exponent_starts None h = tt
exponent_starts (Some e) h = (and_parts _ _ h).0

fraction-is : (fraction : Option (List ℕ)) → fraction_of (fraction_text fraction) ≡ fraction
fraction-is None = refl
fraction-is (Some digits) = refl

fraction_starts : (fraction : Option (List ℕ)) → Starts is_point (fraction_text fraction)
fraction_starts None = tt
fraction_starts (Some digits) = refl

fraction_clear : (fraction : Option (List ℕ)) → list_all is_ascii_digit (fraction_digits fraction) ≡ true
    → list_all (λ x. not (is_exponent_mark x)) (fraction_text fraction) ≡ true
fraction_clear None h = refl
fraction_clear (Some digits) h = all-weaker is_ascii_digit (λ x. not (is_exponent_mark x)) digit-mark digits h

-- the first byte after the sign is a digit or the point
mantissa_unsigned : (whole : List ℕ) (fraction : Option (List ℕ)) (rest : List ℕ) → list_all is_ascii_digit whole ≡ true
    → nat_lt 0 (length (whole ++ fraction_digits fraction)) ≡ true → IsUnsigned (whole ++ (fraction_text fraction ++ rest))
mantissa_unsigned (d ∷ ds) fraction rest h some = digits_unsigned (d ∷ ds) h
mantissa_unsigned [] None rest h some = cc
mantissa_unsigned [] (Some digits) rest h some = (refl, refl)

pub numeral_digits : (n : Numeral) → IsNumeral n → (list_all is_ascii_digit n.whole ≡ true) × (list_all is_ascii_digit (fraction_digits n.fraction) ≡ true)
numeral_digits n is =
    and_parts _ _ (sym (list_all-append is_ascii_digit n.whole (fraction_digits n.fraction)) ∙ (and_parts _ _ is.0).1)

-- a number has no second sign, whatever comes after its digits
pub numeral_unsigned : (n : Numeral) (rest : List ℕ) → IsNumeral n → IsUnsigned (n.whole ++ (fraction_text n.fraction ++ rest))
numeral_unsigned n rest is = mantissa_unsigned n.whole n.fraction rest (numeral_digits n is).0 (and_parts _ _ is.0).0

-- the parts that the text of a number is cut into are those of the number
parts_of-text : (n : Numeral) → IsNumeral n → parts_of (numeral_text n) ≡ n
parts_of-text n (mantissa, exponent) =
    ap parts_of (regrouped (sign_text n.sign) n.whole f e)
    ∙ (λ i. record {
      sign = sign-is n.sign rest clear i;
      whole = before_first is_point (before_first is_exponent_mark (after i));
      fraction = fraction_of (from_first is_point (before_first is_exponent_mark (after i)));
      exponent = exponent_of (from_first is_exponent_mark (after i));
    })
    ∙ (λ i. record {
      sign = n.sign;
      whole = before_first is_point (front i);
      fraction = fraction_of (from_first is_point (front i));
      exponent = exponent_of (back i);
    })
    ∙ (λ i. record {
      sign = n.sign;
      whole = before-is is_point n.whole f whole_clear (fraction_starts n.fraction) i;
      fraction = (ap fraction_of (from-is is_point n.whole f whole_clear (fraction_starts n.fraction)) ∙ fraction-is n.fraction) i;
      exponent = exponent-is n.exponent exponent i;
    })
  where
    f : List ℕ
    f = fraction_text n.fraction

    e : List ℕ
    e = exponent_text n.exponent

    rest : List ℕ
    rest = n.whole ++ (f ++ e)

    each : (list_all is_ascii_digit n.whole ≡ true) × (list_all is_ascii_digit (fraction_digits n.fraction) ≡ true)
    each = numeral_digits n (mantissa, exponent)

    clear : IsUnsigned rest
    clear = numeral_unsigned n e (mantissa, exponent)

    after : after_sign (sign_text n.sign ++ rest) ≡ rest
    after = after_sign-is n.sign rest clear

    whole_clear : list_all (λ x. not (is_point x)) n.whole ≡ true
    whole_clear = all-weaker is_ascii_digit (λ x. not (is_point x)) digit-point n.whole each.0

    mantissa_clear : list_all (λ x. not (is_exponent_mark x)) (n.whole ++ f) ≡ true
    mantissa_clear =
        list_all-append (λ x. not (is_exponent_mark x)) n.whole f
        ∙ rw (all-weaker is_ascii_digit (λ x. not (is_exponent_mark x)) digit-mark n.whole each.0) (fraction_clear n.fraction each.1)

    front : before_first is_exponent_mark rest ≡ n.whole ++ f
    front = ap (before_first is_exponent_mark) (sym (append_assoc n.whole f e))
        ∙ before-is is_exponent_mark (n.whole ++ f) e mantissa_clear (exponent_starts n.exponent exponent)

    back : from_first is_exponent_mark rest ≡ e
    back = ap (from_first is_exponent_mark) (sym (append_assoc n.whole f e))
        ∙ from-is is_exponent_mark (n.whole ++ f) e mantissa_clear (exponent_starts n.exponent exponent)

-- the text of a number is read as that number
pub numeral_of-text : (n : Numeral) → IsNumeral n → numeral_of (numeral_text n) ≡ Some n
numeral_of-text n is =
    ap (λ m. if are_digits (mantissa_digits m) && is_exponent m.exponent then Some m else None) (parts_of-text n is)
    ∙ rw (is.0, is.1) refl

-- a text that begins with a number, grouped from the right
pub front-text : (n : Numeral) (rest : List ℕ)
    → numeral_text n ++ rest ≡ sign_text n.sign ++ (n.whole ++ (fraction_text n.fraction ++ (exponent_text n.exponent ++ rest)))
front-text n rest =
    append_assoc (sign_text n.sign ++ n.whole ++ fraction_text n.fraction) (exponent_text n.exponent) rest
    ∙ regrouped (sign_text n.sign) n.whole (fraction_text n.fraction) (exponent_text n.exponent ++ rest)
