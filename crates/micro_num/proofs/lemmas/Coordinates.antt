-- The coordinate that a word stands for, from the magnitude of the text after its sign.
use Rattle.std.proofs.Common.{◌≡◌, ◌≢◌, ◌↔◌, ◌⊎◌, inl, inr, ℕ, zero, suc, ◌+◌, ◌*◌, ◌-◌, ◌<◌, ◌≤◌, Bool, true, false, List, [], ◌++◌, take, length, length-append, append_assoc, append-nil, ℤ, pos, negsuc, neg_ℤ, ◌+ℤ◌, ◌-ℤ◌, arith, ap, subst, sym, ◌∙◌, refl}
use Rattle.std.specs.Prelude.{Option, Some, None, Result, Ok, Err, unsigned_abs, ◌&&◌, nat_lt, nat_le, if◌then◌else◌}
use Rattle.std.specs.Char.{is_ascii_digit}
use Rattle.std.specs.List.{list_all, before_first, position_or_len}
use Rattle.std.proofs.lemmas.List.{take-append-drop, take_at}
use Rattle.std.proofs.Math.Seq.{take-append-add}
use Rattle.std.proofs.lemmas.Bool.{and_parts, cases_lt, lt-ltb, le-ltb, lt-leb, le-leb}
use Rattle.exact_int.proofs.lemmas.Lists.{nil-of-length}
use Rattle.micro_num.specs.declared.unit.Unit.{Unit as LengthUnit}
use Rattle.micro_num.specs.declared.num_fault.NumFault.{NumFault}
use Rattle.micro_num.specs.declared.num_fault.NumFault.TheVariants.{NotNumber, TooLong, OutOfRange}
use Rattle.micro_num.specs.Numeral.{Sign, unsigned, plus, minus, Numeral, IsNumeral, IsSpelled, sign_of, after_sign, numeral_of, numeral_text, sign_text, fraction_text, exponent_text, from_first, fraction_digits, mantissa_digits}
use Rattle.micro_num.specs.Micrometres.{with_sign, magnitude, unit_factor, unit_power, digits_value, exponent_value, coordinate_or_fault, numeral_coordinate, coordinate_of, micro, is_coordinate}
use Rattle.micro_num.specs.Scan.{is_other, digits_after_point, rest_after_point, IsCapped, IsExponentFront, IsNumberFront, IsEnded, scanned, is_numeral, magnitude_of, magnitude_or_fault, text_magnitude}
use Rattle.micro_num.proofs.lemmas.Grammar.{numeral_of-is, numeral_of-text, regrouped, sign-text, after_sign-is, numeral_unsigned, front-text}
use Rattle.micro_num.proofs.lemmas.Scanning.{numeral_of-scanned, scanned_digits, scanned-text, after-text, scanned-is, ended_take}
use Rattle.geometry.specs.declared.limits.TheConstants.{COORDINATE_LIMIT}
use Rattle.micro_num.specs.declared.limits.TheConstants.{WORD_LIMIT}

-- the result for a magnitude
module _ (unit : LengthUnit) (text : List ℕ) (r : ℕ) (is : is_numeral (scanned unsigned text) ≡ true)
    (capped : IsCapped (magnitude_of unit (scanned unsigned text)) r) where
  m : ℕ
  m = magnitude_of unit (scanned unsigned text)

  open_magnitude : text_magnitude unit text ≡ magnitude_or_fault m
  unfolding m
  open_magnitude = ap (λ b. if b then magnitude_or_fault (magnitude_of unit (scanned unsigned text)) else Err NotNumber) is

  pub magnitude_beyond : COORDINATE_LIMIT < r → Err OutOfRange ≡ text_magnitude unit text
  unfolding m
  magnitude_beyond above = by_cases (cases_lt COORDINATE_LIMIT m)
    where
      by_cases : (COORDINATE_LIMIT < m) ⊎ (m ≤ COORDINATE_LIMIT) → Err OutOfRange ≡ text_magnitude unit text
      by_cases (inl far) = sym (open_magnitude ∙ ap (λ b. if b then Ok (pos m) else Err OutOfRange) (lt-leb m COORDINATE_LIMIT far))
      by_cases (inr near) = absurd (omega (arith, capped.within near))

  pub magnitude_within : r ≤ COORDINATE_LIMIT → Ok (pos r) ≡ text_magnitude unit text
  unfolding m
  magnitude_within below = by_cases (cases_lt COORDINATE_LIMIT m)
    where
      by_cases : (COORDINATE_LIMIT < m) ⊎ (m ≤ COORDINATE_LIMIT) → Ok (pos r) ≡ text_magnitude unit text
      by_cases (inl far) = absurd (omega (arith, capped.beyond far))
      by_cases (inr near) =
          ap (λ r. Ok (pos r)) (capped.within near)
          ∙ sym (open_magnitude ∙ ap (λ b. if b then Ok (pos m) else Err OutOfRange) (le-leb m COORDINATE_LIMIT near))

-- The parts of a text are those that a scan from the left finds.
module _ (text whole fraction after : List ℕ) (whole_is : whole ≡ before_first is_other text)
    (fraction_is : fraction ≡ fraction_digits (digits_after_point (from_first is_other text)))
    (after_is : after ≡ rest_after_point (from_first is_other text)) where
  pub met_front : (unit : LengthUnit) (rest : List ℕ) (e : ℤ) (r : ℕ) → 0 < length whole + length fraction → (x : IsExponentFront after rest e)
      → IsCapped (magnitude (unit_factor unit * digits_value (whole ++ fraction)) ((exponent_value x.exponent -ℤ pos (length fraction)) +ℤ pos (unit_power unit))) r
      → IsNumberFront unit text rest r
  met_front unit rest e r some x capped =
      let w : List ℕ = before_first is_other text in
      let from : List ℕ = from_first is_other text in
      let f : List ℕ = fraction_text (digits_after_point from) in
      let t : List ℕ = exponent_text x.exponent in
      let n : Numeral = record { sign = unsigned; whole = w; fraction = digits_after_point from; exponent = x.exponent } in
      let sizes : length (mantissa_digits n) ≡ length whole + length fraction =
      (λ i. length (sym whole_is i ++ sym fraction_is i)) ∙ length-append whole fraction in
      let long : nat_lt 0 (length (mantissa_digits n)) ≡ true = lt-ltb 0 (length (mantissa_digits n)) (omega arith) in
      let digits : list_all is_ascii_digit (mantissa_digits n) ≡ true = scanned_digits unsigned text in
      record {
        number = n;
        is = (λ i. long i && digits i, x.is);
        no_sign = refl;
        spelled = sym (ap (λ t. t ++ rest) (regrouped [] w f t) ∙ append_assoc w (f ++ t) rest ∙ ap (λ t. w ++ t) (append_assoc f t rest)
            ∙ ap (λ t. w ++ (f ++ t)) (sym x.spelled ∙ after_is) ∙ ap (λ t. w ++ t) (after-text from)
            ∙ take-append-drop (position_or_len is_other text) text);
        capped = subst (λ m. IsCapped m r)
            (λ i. magnitude (unit_factor unit * digits_value (whole_is i ++ fraction_is i))
            ((exponent_value x.exponent -ℤ pos (length (fraction_is i))) +ℤ pos (unit_power unit)))
            capped;
      }

-- the text of a number without a sign
unsigned_text : (n : Numeral) → n.sign ≡ unsigned → numeral_text n ≡ n.whole ++ (fraction_text n.fraction ++ exponent_text n.exponent)
unsigned_text n no_sign =
    let after : List ℕ = n.whole ++ (fraction_text n.fraction ++ exponent_text n.exponent) in
    regrouped (sign_text n.sign) n.whole (fraction_text n.fraction) (exponent_text n.exponent) ∙ ap (λ s. sign_text s ++ after) no_sign

-- a number at the front with nothing after it is the number that a scan finds in the text
pub whole_front : (unit : LengthUnit) (text rest : List ℕ) (r : ℕ) → IsNumberFront unit text rest r → length rest ≡ 0
    → (is_numeral (scanned unsigned text) ≡ true) × IsCapped (magnitude_of unit (scanned unsigned text)) r
whole_front unit text rest r front none =
    let n : Numeral = front.number in
    let spelled : text ≡ n.whole ++ (fraction_text n.fraction ++ exponent_text n.exponent) =
    front.spelled ∙ ap (λ t. numeral_text n ++ t) (nil-of-length rest none) ∙ append-nil (numeral_text n) ∙ unsigned_text n front.no_sign in
    let met : scanned unsigned text ≡ n = (λ i. scanned (sym front.no_sign i) (spelled i)) ∙ scanned-is n front.is in
    subst (λ n. (is_numeral n ≡ true) × IsCapped (magnitude_of unit n) r) (sym met) (rw (front.is.0, front.is.1) refl, front.capped)

-- a text is no number if no number at its front ends with it
pub unread : (unit : LengthUnit) (text : List ℕ) → ((n : Numeral) → IsNumeral n → n.sign ≡ unsigned → text ≡ numeral_text n ++ [] → ⊥)
    → Err NotNumber ≡ text_magnitude unit text
unread unit text none = by_test (is_numeral n) refl
  where
    n : Numeral
    n = scanned unsigned text

    by_test : (b : Bool) → is_numeral n ≡ b → Err NotNumber ≡ text_magnitude unit text
    by_test true is = absurd (none n (and_parts _ _ is) refl (sym (append-nil (numeral_text n) ∙ scanned-text unsigned text)))
    by_test false other = sym (ap (λ b. if b then magnitude_or_fault (magnitude_of unit n) else Err NotNumber) other)

abbrev turned : Sign → ℤ → ℤ
turned unsigned z = z
turned plus z = z
turned minus z = neg_ℤ z

pub turned-plus : (s : Sign) (z : ℤ) → s ≢ minus → turned s z ≡ z
turned-plus unsigned z h = refl
turned-plus plus z h = refl
turned-plus minus z h = absurd (h refl)

pub turned-by : (s : Sign) (negative : Bool) (z : ℤ) → (negative ≡ true) ↔ (s ≡ minus) → (if negative then neg_ℤ z else z) ≡ turned s z
turned-by unsigned true z h = absurd (let no = h.0 refl in cc)
turned-by unsigned false z h = refl
turned-by plus true z h = absurd (let no = h.0 refl in cc)
turned-by plus false z h = refl
turned-by minus true z h = refl
turned-by minus false z h = absurd (let no = h.1 refl in cc)

abbrev pub signed : Sign → Result ℤ NumFault → Result ℤ NumFault
signed s (Ok z) = Ok (turned s z)
signed s (Err f) = Err f

signed_magnitude : (s : Sign) (m : ℕ) → coordinate_or_fault (with_sign s m) ≡ signed s (magnitude_or_fault m)
signed_magnitude unsigned m = by_test (nat_le m COORDINATE_LIMIT)
  where
    by_test : (b : Bool) → (if b then Ok (pos m) else Err OutOfRange) ≡ signed unsigned (if b then Ok (pos m) else Err OutOfRange)
    by_test true = refl
    by_test false = refl
signed_magnitude plus m = by_test (nat_le m COORDINATE_LIMIT)
  where
    by_test : (b : Bool) → (if b then Ok (pos m) else Err OutOfRange) ≡ signed plus (if b then Ok (pos m) else Err OutOfRange)
    by_test true = refl
    by_test false = refl
signed_magnitude minus zero = refl
signed_magnitude minus (suc k) = by_test (nat_le (suc k) COORDINATE_LIMIT)
  where
    by_test : (b : Bool) → (if b then Ok (negsuc k) else Err OutOfRange) ≡ signed minus (if b then Ok (pos (suc k)) else Err OutOfRange)
    by_test true = refl
    by_test false = refl

pub coordinate-is : (unit : LengthUnit) (word : List ℕ) → length word ≤ WORD_LIMIT
    → coordinate_of unit word ≡ signed (sign_of word) (text_magnitude unit (after_sign word))
coordinate-is unit word short =
    ap (λ b. if b then Err TooLong else numeral_coordinate unit (numeral_of word)) (le-ltb WORD_LIMIT (length word) short)
    ∙ ap (numeral_coordinate unit) (numeral_of-scanned word)
    ∙ by_test (is_numeral n)
  where
    n : Numeral
    n = scanned (sign_of word) (after_sign word)

    by_test : (b : Bool) → numeral_coordinate unit (if b then Some n else None) ≡ signed (sign_of word) (if b then magnitude_or_fault (magnitude_of unit n) else Err NotNumber)
    by_test true = signed_magnitude (sign_of word) (magnitude_of unit n)
    by_test false = refl

-- What the coordinate says about the word.
module _ (unit : LengthUnit) (word : List ℕ) where
  short_coordinate : length word ≤ WORD_LIMIT → coordinate_of unit word ≡ numeral_coordinate unit (numeral_of word)
  short_coordinate short = ap (λ b. if b then Err TooLong else numeral_coordinate unit (numeral_of word)) (le-ltb WORD_LIMIT (length word) short)

  long_coordinate : WORD_LIMIT < length word → coordinate_of unit word ≡ Err TooLong
  long_coordinate long = ap (λ b. if b then Err TooLong else numeral_coordinate unit (numeral_of word)) (lt-ltb WORD_LIMIT (length word) long)

  pub spelled_coordinate : (n : Numeral) → IsNumeral n → word ≡ numeral_text n → length word ≤ WORD_LIMIT → coordinate_of unit word ≡ coordinate_or_fault (micro unit n)
  spelled_coordinate n is spelled short =
      short_coordinate short ∙ ap (numeral_coordinate unit) (ap numeral_of spelled ∙ numeral_of-text n is)

  pub is_spelled : (z : ℤ) → coordinate_of unit word ≡ Ok z → IsSpelled word
  is_spelled z e = by_cases (cases_lt WORD_LIMIT (length word)) (numeral_of word) refl
    where
      by_cases : (WORD_LIMIT < length word) ⊎ (length word ≤ WORD_LIMIT) → (o : Option Numeral) → numeral_of word ≡ o → IsSpelled word
      by_cases (inl long) o is = let other = long_coordinate long in cc
      by_cases (inr short) None is = let other = short_coordinate short ∙ ap (numeral_coordinate unit) is in cc
      by_cases (inr short) (Some n) is = let read : IsNumeral n × (word ≡ numeral_text n) = numeral_of-is word n is in (short, n, read.0, read.1)

  is_range : (z : ℤ) → coordinate_or_fault z ≡ Err NotNumber → ⊥
  is_range z h = by_test (is_coordinate z) h
    where
      by_test : (b : Bool) → (if b then Ok z else Err OutOfRange) ≡ Err NotNumber → ⊥
      by_test true e = cc
      by_test false e = cc

  never_too_long : (z : ℤ) → coordinate_or_fault z ≡ Err TooLong → ⊥
  never_too_long z h = by_test (is_coordinate z) h
    where
      by_test : (b : Bool) → (if b then Ok z else Err OutOfRange) ≡ Err TooLong → ⊥
      by_test true e = cc
      by_test false e = cc

  pub not_number : (coordinate_of unit word ≡ Err NotNumber) ↔ ((length word ≤ WORD_LIMIT) × (IsSpelled word → ⊥))
  not_number = (λ e. forth (cases_lt WORD_LIMIT (length word)) e, λ h. back h.0 h.1 (numeral_of word) refl)
    where
      forth : (WORD_LIMIT < length word) ⊎ (length word ≤ WORD_LIMIT) → coordinate_of unit word ≡ Err NotNumber → (length word ≤ WORD_LIMIT) × (IsSpelled word → ⊥)
      forth (inl long) e = let other = long_coordinate long in cc
      forth (inr short) e = (short, λ h. is_range (micro unit h.1) (sym (spelled_coordinate h.1 h.2 h.3 short) ∙ e))

      back : length word ≤ WORD_LIMIT → (IsSpelled word → ⊥) → (o : Option Numeral) → numeral_of word ≡ o → coordinate_of unit word ≡ Err NotNumber
      back short none None e = short_coordinate short ∙ ap (numeral_coordinate unit) e
      back short none (Some n) e =
          let read : IsNumeral n × (word ≡ numeral_text n) = numeral_of-is word n e in
          absurd (none (short, n, read.0, read.1))

  pub too_long : (coordinate_of unit word ≡ Err TooLong) ↔ (WORD_LIMIT < length word)
  too_long = (λ e. forth (cases_lt WORD_LIMIT (length word)) e (numeral_of word) refl, long_coordinate)
    where
      forth : (WORD_LIMIT < length word) ⊎ (length word ≤ WORD_LIMIT) → coordinate_of unit word ≡ Err TooLong → (o : Option Numeral) → numeral_of word ≡ o → WORD_LIMIT < length word
      forth (inl long) e o is = long
      forth (inr short) e None is = let other = short_coordinate short ∙ ap (numeral_coordinate unit) is in cc
      forth (inr short) e (Some n) is =
          absurd (never_too_long (micro unit n) (sym (short_coordinate short ∙ ap (numeral_coordinate unit) is) ∙ e))

  pub out_of_range : (coordinate_of unit word ≡ Err OutOfRange)
      ↔ ((n : Numeral) × IsNumeral n × (word ≡ numeral_text n) × (length word ≤ WORD_LIMIT) × (COORDINATE_LIMIT < unsigned_abs (micro unit n)))
  out_of_range = (λ e. forth (cases_lt WORD_LIMIT (length word)) e (numeral_of word) refl, λ h. back h.0 h.1 h.2 h.3 h.4)
    where
      beyond : (z : ℤ) → coordinate_or_fault z ≡ Err OutOfRange → (COORDINATE_LIMIT < unsigned_abs z) ⊎ (unsigned_abs z ≤ COORDINATE_LIMIT) → COORDINATE_LIMIT < unsigned_abs z
      beyond z e (inl far) = far
      beyond z e (inr near) =
          let other : coordinate_or_fault z ≡ Ok z = ap (λ b. if b then Ok z else Err OutOfRange) (le-leb (unsigned_abs z) COORDINATE_LIMIT near) in
          cc

      forth : (WORD_LIMIT < length word) ⊎ (length word ≤ WORD_LIMIT) → coordinate_of unit word ≡ Err OutOfRange → (o : Option Numeral) → numeral_of word ≡ o
          → (n : Numeral) × IsNumeral n × (word ≡ numeral_text n) × (length word ≤ WORD_LIMIT) × (COORDINATE_LIMIT < unsigned_abs (micro unit n))
      forth (inl long) e o is = let other = long_coordinate long in cc
      forth (inr short) e None is = let other = short_coordinate short ∙ ap (numeral_coordinate unit) is in cc
      forth (inr short) e (Some n) is =
          let read : IsNumeral n × (word ≡ numeral_text n) = numeral_of-is word n is in
          let far : coordinate_or_fault (micro unit n) ≡ Err OutOfRange = sym (short_coordinate short ∙ ap (numeral_coordinate unit) is) ∙ e in
          (n, read.0, read.1, short, beyond (micro unit n) far (cases_lt COORDINATE_LIMIT (unsigned_abs (micro unit n))))

      back : (n : Numeral) → IsNumeral n → word ≡ numeral_text n → length word ≤ WORD_LIMIT → COORDINATE_LIMIT < unsigned_abs (micro unit n) → coordinate_of unit word ≡ Err OutOfRange
      back n is spelled short far =
          spelled_coordinate n is spelled short
          ∙ ap (λ b. if b then Ok (micro unit n) else Err OutOfRange) (lt-leb (unsigned_abs (micro unit n)) COORDINATE_LIMIT far)

-- A number at the front of a text, after an optional sign, stands for its magnitude with that sign.
module _ (unit : LengthUnit) (text rest : List ℕ) (r : ℕ) (front : IsNumberFront unit (after_sign text) rest r) (short : length text - length rest ≤ WORD_LIMIT) where
  front_signed : coordinate_of unit (take (length text - length rest) text) ≡ signed (sign_of text) (magnitude_or_fault (magnitude_of unit front.number))
  front_signed =
      let n : Numeral = front.number in
      let s : Sign = sign_of text in
      let k : Numeral = record { sign = s; whole = n.whole; fraction = n.fraction; exponent = n.exponent } in
      let after : List ℕ = n.whole ++ (fraction_text n.fraction ++ exponent_text n.exponent) in
      let spelled : text ≡ numeral_text k ++ rest =
      sym (sign-text text) ∙ ap (λ t. sign_text s ++ t) (front.spelled ∙ ap (λ t. t ++ rest) (unsigned_text n front.no_sign))
      ∙ sym (append_assoc (sign_text s) after rest)
      ∙ ap (λ t. t ++ rest) (sym (regrouped (sign_text s) n.whole (fraction_text n.fraction) (exponent_text n.exponent))) in
      let sizes : length text ≡ length (numeral_text k) + length rest = ap length spelled ∙ length-append (numeral_text k) rest in
      let count : length (numeral_text k) ≡ length text - length rest = omega arith in
      let cut : take (length text - length rest) text ≡ numeral_text k =
      ap (take (length text - length rest)) spelled ∙ take_at (numeral_text k) rest (length text - length rest) count in
      spelled_coordinate unit (take (length text - length rest) text) k front.is cut (omega (arith, ap length cut, count))
      ∙ signed_magnitude s (magnitude_of unit n)

  pub front_coordinate : r ≤ COORDINATE_LIMIT → coordinate_of unit (take (length text - length rest) text) ≡ Ok (turned (sign_of text) (pos r))
  front_coordinate near = front_signed ∙ ap (signed (sign_of text)) (by_cases (cases_lt COORDINATE_LIMIT (magnitude_of unit front.number)))
    where
      by_cases : (COORDINATE_LIMIT < magnitude_of unit front.number) ⊎ (magnitude_of unit front.number ≤ COORDINATE_LIMIT) → magnitude_or_fault (magnitude_of unit front.number) ≡ Ok (pos r)
      by_cases (inl far) = absurd (omega (arith, front.capped.beyond far))
      by_cases (inr within) =
          ap (λ b. if b then Ok (pos (magnitude_of unit front.number)) else Err OutOfRange) (le-leb (magnitude_of unit front.number) COORDINATE_LIMIT within)
          ∙ ap (λ m. Ok (pos m)) (sym (front.capped.within within))

  pub front_beyond : COORDINATE_LIMIT < r → coordinate_of unit (take (length text - length rest) text) ≡ Err OutOfRange
  front_beyond beyond = front_signed ∙ ap (signed (sign_of text)) (by_cases (cases_lt COORDINATE_LIMIT (magnitude_of unit front.number)))
    where
      by_cases : (COORDINATE_LIMIT < magnitude_of unit front.number) ⊎ (magnitude_of unit front.number ≤ COORDINATE_LIMIT) → magnitude_or_fault (magnitude_of unit front.number) ≡ Err OutOfRange
      by_cases (inl far) = ap (λ b. if b then Ok (pos (magnitude_of unit front.number)) else Err OutOfRange) (lt-leb (magnitude_of unit front.number) COORDINATE_LIMIT far)
      by_cases (inr within) = absurd (omega (arith, front.capped.within within))

-- The bytes are a number in range, and then no byte of a number. The text is the front of the bytes, as long as a number
-- may be, so it begins in the same way. A reader that finds every unsigned number finds this one after its sign.
pub reads_number : (unit : LengthUnit) (bytes word rest text digits : List ℕ) (limit : ℕ) (z : ℤ) (P : List ℕ → Type 0) → bytes ≡ word ++ rest
    → IsEnded rest → coordinate_of unit word ≡ Ok z → text ≡ take limit bytes → (length word ≤ WORD_LIMIT → length word ≤ limit) → digits ≡ after_sign text
    → ((n : Numeral) (left : List ℕ) → IsNumeral n → n.sign ≡ unsigned → digits ≡ numeral_text n ++ left → IsEnded left → P left)
    → (left : List ℕ) × P left × (text ≡ word ++ left)
reads_number unit bytes word rest text digits limit z P spelled ended is cut long after reads =
    let number : IsSpelled word = is_spelled unit word z is in
    let n : Numeral = number.1 in
    let k : Numeral = record { sign = unsigned; whole = n.whole; fraction = n.fraction; exponent = n.exponent } in
    let left : List ℕ = take (limit - length word) rest in
    let room : limit ≡ length word + (limit - length word) = omega (arith, long number.0) in
    let text_is : text ≡ word ++ left = cut ∙ (λ i. take (room i) (spelled i)) ∙ take-append-add word rest (limit - length word) in
    let digits_are : digits ≡ numeral_text k ++ left =
    after ∙ ap after_sign (text_is ∙ ap (λ w. w ++ left) number.3 ∙ front-text n left)
    ∙ after_sign-is n.sign _ (numeral_unsigned n (exponent_text n.exponent ++ left) number.2)
    ∙ sym (front-text k left) in
    (left, reads k left number.2 refl digits_are (ended_take (limit - length word) rest ended), text_is)

-- The bytes that were counted are the word, so their coordinate is that of the word.
module _ (unit : LengthUnit) (text word rest : List ℕ) (count : ℕ) (spelled : text ≡ word ++ rest) (long : length word ≡ count) where
  read_word : coordinate_of unit (take count text) ≡ coordinate_of unit word
  read_word = ap (coordinate_of unit) (ap (take count) spelled ∙ take_at word rest count long)

  pub found_pair : (y z : ℤ) → coordinate_of unit (take count text) ≡ Ok y → coordinate_of unit word ≡ Ok z
      → ◌≡◌ {A = ℤ × ℕ} (y, count) (z, length word)
  found_pair y z read is =
      let both : Ok y ≡ Ok z = sym read ∙ read_word ∙ is in
      let same : y ≡ z = cc in
      λ i. (same i, sym long i)

  pub found_word : (y z : ℤ) → coordinate_of unit (take count text) ≡ Ok y → coordinate_of unit word ≡ Ok z
      → ◌≡◌ {A = Option (ℤ × ℕ)} (Some (y, count)) (Some (z, length word))
  found_word y z read is = ap Some (found_pair y z read is)

  pub not_beyond : (z : ℤ) → coordinate_of unit (take count text) ≡ Err OutOfRange → coordinate_of unit word ≡ Ok z → ⊥
  not_beyond z read is = let both : Err OutOfRange ≡ Ok z = sym read ∙ read_word ∙ is in cc
