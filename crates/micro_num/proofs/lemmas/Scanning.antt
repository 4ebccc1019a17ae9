-- A scan of a word from left to right finds the parts that its marks cut it into.
use Rattle.std.proofs.Common.{◌≡◌, ℕ, zero, suc, ◌+◌, ◌*◌, ◌-◌, ◌<◌, Bool, true, false, not, List, [], ◌∷◌, ◌++◌, length, length-append, take, arith, refl, sym, ◌∙◌, ap, subst}
use Rattle.std.specs.Prelude.{Option, Some, None, ◌==◌, if◌then◌else◌}
use Rattle.std.specs.Char.{is_ascii_digit}
use Rattle.std.specs.List.{list_all, before_first, position_or_len}
use Rattle.std.proofs.lemmas.List.{take-append-drop}
use Rattle.std.proofs.lemmas.List.Folds.{list_all-append}
use Rattle.std.proofs.lemmas.List.Sums.{fold-append}
use Rattle.std.proofs.Math.Numerals.{one-add}
use Rattle.std.proofs.lemmas.Bool.{and_parts, eqb-true, ltb-true}
use Rattle.micro_num.specs.Numeral.{Sign, unsigned, Exponent, Numeral, is_point, is_exponent_mark, sign_text, fraction_text, exponent_text, numeral_text, fraction_digits, mantissa_digits, is_exponent, IsNumeral, sign_of, after_sign, from_first, exponent_of, numeral_of}
use Rattle.micro_num.specs.Micrometres.{digits_value}
use Rattle.micro_num.specs.Scan.{is_other, digits_after, digits_after_point, rest_after_point, scanned, is_numeral, IsEnded, IsLeading}
use Rattle.exact_int.proofs.lemmas.Lists.{all-weaker}
use Rattle.micro_num.proofs.lemmas.Grammar.{Starts, before-is, from-is, sign-text, exponent-text, regrouped, IsUnsigned, sign-is, after_sign-is, exponent-is, numeral_digits, numeral_unsigned, numeral_of-is, numeral_of-text, front-text}

-- only digits come before the first byte that is no digit
pub front_digits : (xs : List ℕ) → list_all is_ascii_digit (before_first is_other xs) ≡ true
front_digits [] = refl
front_digits (x ∷ xs) = by_test (front_digits xs) (is_ascii_digit x) refl
  where
    by_test : list_all is_ascii_digit (before_first is_other xs) ≡ true
        → (b : Bool) → is_ascii_digit x ≡ b → list_all is_ascii_digit (before_first is_other (x ∷ xs)) ≡ true
    by_test rest true e = rw e (rw one-add (rw e rest))
    by_test rest false e = rw e refl

point_digits : (bytes : List ℕ) → list_all is_ascii_digit (fraction_digits (digits_after_point bytes)) ≡ true
point_digits [] = refl
point_digits (byte ∷ bytes) = by_test (byte == 46)
  where
    by_test : (b : Bool) → list_all is_ascii_digit (fraction_digits (if b then Some (before_first is_other bytes) else None)) ≡ true
    by_test true = front_digits bytes
    by_test false = refl

pub scanned_digits : (s : Sign) (text : List ℕ) → list_all is_ascii_digit (mantissa_digits (scanned s text)) ≡ true
scanned_digits s text =
    list_all-append is_ascii_digit (before_first is_other text) (fraction_digits (digits_after_point (from_first is_other text)))
    ∙ rw (front_digits text) (point_digits (from_first is_other text))

-- A text consists of the parts that a scan finds.

pub after-text : (bytes : List ℕ) → fraction_text (digits_after_point bytes) ++ rest_after_point bytes ≡ bytes
after-text [] = refl
after-text (byte ∷ bytes) = by_test (byte == 46) refl
  where
    by_test : (b : Bool) → (byte == 46) ≡ b
        → fraction_text (if b then Some (before_first is_other bytes) else None) ++ (if b then from_first is_other bytes else byte ∷ bytes) ≡ byte ∷ bytes
    by_test true is =
        ap {B = List ℕ} (λ r. 46 ∷ r) (take-append-drop (position_or_len is_other bytes) bytes)
        ∙ ap (λ x. x ∷ bytes) (sym (eqb-true byte 46 is))
    by_test false is = refl

pub scanned-text : (s : Sign) (text : List ℕ) → numeral_text (scanned s text) ≡ sign_text s ++ text
scanned-text s text =
    let whole : List ℕ = before_first is_other text in
    let after : List ℕ = from_first is_other text in
    regrouped (sign_text s) whole (fraction_text (digits_after_point after)) (exponent_text (exponent_of (rest_after_point after)))
    ∙ ap (λ e. sign_text s ++ (whole ++ (fraction_text (digits_after_point after) ++ e))) (exponent-text (rest_after_point after))
    ∙ ap (λ b. sign_text s ++ (whole ++ b)) (after-text after)
    ∙ ap (λ t. sign_text s ++ t) (take-append-drop (position_or_len is_other text) text)

-- A scan of the text of a number finds the parts of the number.

twice_not : (d : ℕ) → is_ascii_digit d ≡ true → not (is_other d) ≡ true
twice_not d h = rw h refl

mark_other : (x : ℕ) → is_exponent_mark x ≡ true → (is_other x ≡ true) × (is_point x ≡ false)
mark_other x h = by_tests (x == 69) (x == 101) refl refl h
  where
    by_tests : (a b : Bool) → (x == 69) ≡ a → (x == 101) ≡ b → is_exponent_mark x ≡ true → (is_other x ≡ true) × (is_point x ≡ false)
    by_tests true b is other h = subst (λ x. (is_other x ≡ true) × (is_point x ≡ false)) (sym (eqb-true x 69 is)) (refl, refl)
    by_tests false true other is h = subst (λ x. (is_other x ≡ true) × (is_point x ≡ false)) (sym (eqb-true x 101 is)) (refl, refl)
    by_tests false false first second h = let h' = rw (first, second) at h in cc

-- empty, or the first byte is no digit and no point
abbrev Stops : List ℕ → Type 0
Stops [] = Unit {0}
Stops (x ∷ xs) = (is_other x ≡ true) × (is_point x ≡ false)

stops_on : (xs ys : List ℕ) → Stops xs → Stops ys → Stops (xs ++ ys)
stops_on [] ys h k = k
stops_on (x ∷ xs) ys h k = h

exponent_stops : (exponent : Option Exponent) → is_exponent exponent ≡ true → Stops (exponent_text exponent)
exponent_stops None h = tt
exponent_stops (Some e) h = mark_other e.mark (and_parts _ _ h).0

ended_stops : (rest : List ℕ) → IsEnded rest → Stops rest
ended_stops [] h = tt
ended_stops (byte ∷ rest) h = (rw h.0 refl, h.1)

stops_other : (xs : List ℕ) → Stops xs → Starts is_other xs
stops_other [] h = tt
stops_other (x ∷ xs) h = h.0

pub ended_other : (rest : List ℕ) → IsEnded rest → Starts is_other rest
ended_other rest h = stops_other rest (ended_stops rest h)

pub ended_take : (count : ℕ) (rest : List ℕ) → IsEnded rest → IsEnded (take count rest)
ended_take zero rest h = tt
ended_take (suc k) [] h = tt
ended_take (suc k) (byte ∷ rest) h = h

pub no_other : (ds : List ℕ) → list_all is_ascii_digit ds ≡ true → list_all (λ x. not (is_other x)) ds ≡ true
no_other ds h = all-weaker is_ascii_digit (λ x. not (is_other x)) twice_not ds h

point_starts : (fraction : Option (List ℕ)) (tail : List ℕ) → Stops tail → Starts is_other (fraction_text fraction ++ tail)
point_starts None tail stops = stops_other tail stops
point_starts (Some ds) tail stops = refl

after-is : (fraction : Option (List ℕ)) (tail : List ℕ) → list_all is_ascii_digit (fraction_digits fraction) ≡ true
    → Stops tail → digits_after_point (fraction_text fraction ++ tail) ≡ fraction
after-is None [] digits stops = refl
after-is None (x ∷ xs) digits stops = rw stops.1 refl
after-is (Some ds) tail digits stops = ap Some (before-is is_other ds tail (no_other ds digits) (stops_other tail stops))

rest-is : (fraction : Option (List ℕ)) (tail : List ℕ) → list_all is_ascii_digit (fraction_digits fraction) ≡ true
    → Stops tail → rest_after_point (fraction_text fraction ++ tail) ≡ tail
rest-is None [] digits stops = refl
rest-is None (x ∷ xs) digits stops = rw stops.1 refl
rest-is (Some ds) tail digits stops = from-is is_other ds tail (no_other ds digits) (stops_other tail stops)

-- the digits of a number, and then no digit and no point
module _ (n : Numeral) (tail : List ℕ) (is : IsNumeral n) (stops : Stops tail) where
  met-whole : before_first is_other (n.whole ++ (fraction_text n.fraction ++ tail)) ≡ n.whole
  met-whole = before-is is_other n.whole _ (no_other n.whole (numeral_digits n is).0) (point_starts n.fraction tail stops)

  met-point : from_first is_other (n.whole ++ (fraction_text n.fraction ++ tail)) ≡ fraction_text n.fraction ++ tail
  met-point = from-is is_other n.whole _ (no_other n.whole (numeral_digits n is).0) (point_starts n.fraction tail stops)

  met-fraction : digits_after_point (from_first is_other (n.whole ++ (fraction_text n.fraction ++ tail))) ≡ n.fraction
  met-fraction = ap digits_after_point met-point ∙ after-is n.fraction tail (numeral_digits n is).1 stops

  met-tail : rest_after_point (from_first is_other (n.whole ++ (fraction_text n.fraction ++ tail))) ≡ tail
  met-tail = ap rest_after_point met-point ∙ rest-is n.fraction tail (numeral_digits n is).1 stops

pub scanned-is : (n : Numeral) → IsNumeral n → scanned n.sign (n.whole ++ (fraction_text n.fraction ++ exponent_text n.exponent)) ≡ n
scanned-is n is = λ i. record {
  sign = n.sign;
  whole = met-whole n e is stops i;
  fraction = met-fraction n e is stops i;
  exponent = (ap exponent_of (met-tail n e is stops) ∙ exponent-is n.exponent is.1) i;
}
  where
    e : List ℕ
    e = exponent_text n.exponent

    stops : Stops e
    stops = exponent_stops n.exponent is.1

-- a text that is a number without a sign, and then no byte of a number
module _ (text : List ℕ) (n : Numeral) (rest : List ℕ) (is : IsNumeral n) (no_sign : n.sign ≡ unsigned)
    (spelled : text ≡ numeral_text n ++ rest) (ended : IsEnded rest) where
  parts : text ≡ n.whole ++ (fraction_text n.fraction ++ (exponent_text n.exponent ++ rest))
  parts =
      spelled ∙ front-text n rest
      ∙ ap (λ s. sign_text s ++ (n.whole ++ (fraction_text n.fraction ++ (exponent_text n.exponent ++ rest)))) no_sign

  stops_after : Stops (exponent_text n.exponent ++ rest)
  stops_after = stops_on (exponent_text n.exponent) rest (exponent_stops n.exponent is.1) (ended_stops rest ended)

  pub some_met : 0 < length (before_first is_other text) + length (fraction_digits (digits_after_point (from_first is_other text)))
  some_met =
      let whole : before_first is_other text ≡ n.whole = ap (before_first is_other) parts ∙ met-whole n _ is stops_after in
      let fraction : digits_after_point (from_first is_other text) ≡ n.fraction =
      ap (λ t. digits_after_point (from_first is_other t)) parts ∙ met-fraction n _ is stops_after in
      let some : 0 < length (mantissa_digits n) = ltb-true 0 (length (mantissa_digits n)) (and_parts _ _ is.0).0 in
      rw (whole, fraction) (omega (arith, length-append n.whole (fraction_digits n.fraction)))

  pub after_met : rest_after_point (from_first is_other text) ≡ exponent_text n.exponent ++ rest
  after_met = ap (λ t. rest_after_point (from_first is_other t)) parts ∙ met-tail n _ is stops_after

-- a scan of the text of a number finds that number
scanned_word : (word : List ℕ) (n : Numeral) → IsNumeral n → word ≡ numeral_text n → scanned (sign_of word) (after_sign word) ≡ n
scanned_word word n is spelled =
    (λ i. scanned (sign_of (text i)) (after_sign (text i)))
    ∙ (λ i. scanned (sign-is n.sign rest clear i) (after_sign-is n.sign rest clear i))
    ∙ scanned-is n is
  where
    rest : List ℕ
    rest = n.whole ++ (fraction_text n.fraction ++ exponent_text n.exponent)

    text : word ≡ sign_text n.sign ++ rest
    text = spelled ∙ regrouped (sign_text n.sign) n.whole (fraction_text n.fraction) (exponent_text n.exponent)

    clear : IsUnsigned rest
    clear = numeral_unsigned n (exponent_text n.exponent) is

pub numeral_of-scanned : (word : List ℕ)
    → numeral_of word
    ≡ (if is_numeral (scanned (sign_of word) (after_sign word)) then Some (scanned (sign_of word) (after_sign word)) else None)
numeral_of-scanned word = by_test (is_numeral n) refl (numeral_of word) refl
  where
    n : Numeral
    n = scanned (sign_of word) (after_sign word)

    spelled : word ≡ numeral_text n
    spelled = sym (scanned-text (sign_of word) (after_sign word) ∙ sign-text word)

    by_test : (b : Bool) → is_numeral n ≡ b → (o : Option Numeral) → numeral_of word ≡ o → numeral_of word ≡ (if b then Some n else None)
    by_test true is o e = ap numeral_of spelled ∙ numeral_of-text n (and_parts _ _ is)
    by_test false other None e = e
    by_test false other (Some m) e =
        let read : IsNumeral m × (word ≡ numeral_text m) = numeral_of-is word m e in
        let same : n ≡ m = scanned_word word m read.0 read.1 in
        let is : is_numeral m ≡ true = rw (read.0.0, read.0.1) refl in
        let other' : is_numeral m ≡ false = ap is_numeral (sym same) ∙ other in
        cc

-- the leading digits of a number whose two parts were read one after the other
pub split_leads : (bytes text : List ℕ) (n m : ℕ) {v j : ℕ} {whole fraction : List ℕ} → whole ≡ take n bytes → fraction ≡ take m text
    → IsLeading v j (digits_after (digits_after 0 (take n bytes)) (take m text)) → IsLeading v j (digits_value (whole ++ fraction))
split_leads bytes text n m {v} {j} {whole} {fraction} front back leads =
    subst (λ d. IsLeading v j d) (sym value) leads
  where
    value : digits_value (whole ++ fraction) ≡ digits_after (digits_after 0 (take n bytes)) (take m text)
    value =
        fold-append (λ n d. 10 * n + (d - 48)) 0 whole fraction
        ∙ ap (λ w. digits_after (digits_after 0 w) fraction) front
        ∙ ap (λ f. digits_after (digits_after 0 (take n bytes)) f) back
