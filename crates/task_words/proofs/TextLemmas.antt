-- The texts of option values, as `str` reads them.
use Rattle.std.proofs.Common.{◌≡◌, ◌∙◌, ◌==◌, ◌&&◌, ◌<◌, ◌≤◌, ◌^◌, ℕ, ℤ, Bool, cond, true, false, not, refl, sym, ap, ap₂, arith, List, [], ◌∷◌, length, drop, Option, Some, None, Result, Ok, Err, subst, zero, suc, pos}
use Rattle.std.specs.Prelude.{is_some, option_and_then, option_map, nat_le, nat_lt, slice_index, unwrap_or, neg_ℤ, FitsSigned, IfSome, MatchOption, ◌+◌, ◌≢◌}
use mir.Syntax.{w32}
use Rattle.std.specs.Str.Pattern.{FindsCharPrefix}
use Rattle.std.proofs.lemmas.Str.Pattern.{strip_prefix_char}
use Rattle.std.proofs.lemmas.Int.{ints}
use Rattle.std.specs.Borrow.{Bor}
use Rattle.std.specs.Char.{digit_value}
use Rattle.std.specs.List.{list_all, position_or_len, slice_split, onto_first}
use Rattle.std.specs.Str.Parse.{AllDigits, IsNumeral, ParsesSigned, ParsesUnsigned, digits_value, signed_digits_value, starts_with_minus, without_leading_plus, without_leading_sign}
use Rattle.std.proofs.lemmas.Bool.{eqb-true, le-leb, leb-true, lt-leb, lt-ltb, ltb-true}
use Rattle.std.proofs.lemmas.List.Splits.{slice_split_first}
use Rattle.std.proofs.lemmas.Str.Parse.{IsNumeralModel, digits_value_short, numerals_by_value, tells_digits}
use Rattle.std.proofs.lemmas.Str.Pattern.{IsSplitOnceResult, split_once_first}
use Rattle.std.specs.Result.{result_ok}
use Rattle.clap.proofs.WalkLemmas.{both}
use Rattle.geometry.specs.Point.{IsMeshPoint, Point}
use Rattle.clap.specs.Lexer.{without_minus}
use Rattle.clap.specs.Matches.{ReadsOne}
use Rattle.task_words.specs.Options.{is_number, is_numeral}
use Rattle.task_words.specs.Words.{number_of}
use Rattle.task_words.proofs.Matching.{minus_refused}
use Rattle.task_words.specs.Texts.{StepsTo, ReadsField, at_end, fields_of, given_at, grid_in, is_near, point_in_range, voxel_in, count_in, count_then, coordinate_in, coordinate_then, fields, is_short_number}

-- ---- fields

whole_split : (p : ℕ → Bool) (xs : List ℕ) → position_or_len p xs ≡ length xs → slice_split p xs ≡ xs ∷ []
whole_split p [] e = refl
whole_split p (x ∷ xs) e = go (p x) e (λ f. whole_split p xs f)
  where
    go : (b : Bool) → cond (not b) (1 + position_or_len p xs) 0 ≡ suc (length xs) → (position_or_len p xs ≡ length xs → slice_split p xs ≡ xs ∷ [])
        → cond b ([] ∷ slice_split p xs) (onto_first x (slice_split p xs)) ≡ (x ∷ xs) ∷ []
    go true f next = absurd (omega (arith, f))
    go false f next = ap (onto_first x) (next (omega (arith, f)))

pub field_found : (text : List ℕ) (a b : Bor (List ℕ)) → IsSplitOnceResult 44 text (Some (a, b)) → fields text ≡ a.now ∷ fields b.now
field_found text a b h =
    let at = split_once_first 44 text (Some (a, b)) h (omega arith) in
    slice_split_first (λ x. x == 44) text 0 at.0 ∙ ap₂ (λ x y. x ∷ fields y) (sym at.1) (sym at.2)

pub last_field : (text : List ℕ) → IsSplitOnceResult 44 text None → fields text ≡ text ∷ []
last_field text h = whole_split (λ x. x == 44) text (split_once_first 44 text None h (omega arith))

pub steps_to : (l : List (List ℕ)) (f : List ℕ) (after : List (List ℕ)) → l ≡ f ∷ after → StepsTo l (Some f) after
steps_to l f after e = rw e (refl, refl)

pub reads_next : {T : Type 0} (read : List ℕ → Option T) (before : List (List ℕ)) (f : List ℕ) (after : List (List ℕ)) (r : Option T)
    → StepsTo before (Some f) after → r ≡ read f → ReadsField read before r after
reads_next read [] f after r h e = cc
reads_next read (x ∷ xs) f after r h e =
    let same : f ≡ x = cc in
    (e ∙ ap read same, h.1)

pub reads_none : {T : Type 0} (read : List ℕ → Option T) (before after : List (List ℕ)) → StepsTo before None after → ReadsField read before None after
reads_none read [] after h = refl
reads_none read (x ∷ xs) after h = cc

pub counts : {T : Type 0} (before after : List (List ℕ)) (r : Option ℕ) (next : ℕ → List (List ℕ) → Option T) → ReadsField count_in before r after
    → count_then before next ≡ option_and_then (λ n. next n after) r
counts [] after r next h = rw h refl
counts (f ∷ fs) after r next h = rw (h.0, h.1) refl

pub coordinates : {T : Type 0} (before after : List (List ℕ)) (r : Option ℤ) (next : ℤ → List (List ℕ) → Option T) → ReadsField coordinate_in before r after
    → coordinate_then before next ≡ option_and_then (λ z. next z after) r
coordinates [] after r next h = rw h refl
coordinates (f ∷ fs) after r next h = rw (h.0, h.1) refl

-- ---- numbers

digits_told : (ds : List ℕ) → list_all (λ d. nat_lt (digit_value d) 10) ds ≡ true → AllDigits 10 ds
digits_told [] e = tt
digits_told (d ∷ ds) e =
    let is = both _ _ e in
    (ltb-true _ _ is.0, digits_told ds is.1)

digits_tell : (ds : List ℕ) → AllDigits 10 ds → list_all (λ d. nat_lt (digit_value d) 10) ds ≡ true
digits_tell [] h = refl
digits_tell (d ∷ ds) h = rw (lt-ltb (digit_value d) 10 h.0) (digits_tell ds h.1)

pub numeral_told : (ds : List ℕ) → is_numeral ds ≡ true → IsNumeral 10 ds
numeral_told ds e =
    let is = both _ _ e in
    (ltb-true _ _ is.0, digits_told ds is.1)

pub numeral_tells : (ds : List ℕ) → IsNumeral 10 ds → is_numeral ds ≡ true
numeral_tells ds h = rw (lt-ltb 0 (length ds) h.0, digits_tell ds h.1) refl

decimal : IsNumeralModel (AllDigits 10) (digits_value 10)
decimal = numerals_by_value (AllDigits 10) tells_digits

-- nine digits make a number below a milliard
pub short_value : (ds : List ℕ) → IsNumeral 10 ds → length ds ≤ 9 → digits_value 10 ds < 1000000000
short_value ds h short = digits_value_short decimal ds 9 h.1 short

no_plus : (text : List ℕ) → (slice_index text 0 == 43) ≡ false → without_leading_plus text ≡ text
no_plus text plain = ap (λ b. drop (cond b 1 0) text) plain

short_is : (text : List ℕ) → IsNumeral 10 text → length text ≤ 9 → is_short_number text ≡ true
short_is text h short = rw (numeral_tells text h, le-leb (length text) 9 short) refl

pub count_read : {E : Type 0} (text : List ℕ) (r : Result ℕ E) → ParsesUnsigned 32 10 text r → (slice_index text 0 == 43) ≡ false → length text ≤ 9 → result_ok r ≡ count_in text
count_read text (Ok n) h plain short =
    let same = no_plus text plain in
    let numeral : IsNumeral 10 text = subst (IsNumeral 10) same h.0.0 in
    rw (short_is text numeral short) (ap (λ x. Some x) (h.1 ∙ ap (digits_value 10) same))
count_read {E} text (Err e) h plain short = go (is_numeral text) refl
  where
    go : (b : Bool) → is_numeral text ≡ b → None ≡ cond (b && nat_le (length text) 9) (Some (digits_value 10 text)) None
    go false f = refl
    go true f =
        let numeral = numeral_told text f in
        let small = short_value text numeral short in
        let same = no_plus text plain in
        let fits : digits_value 10 (without_leading_plus text) < 2 ^ 32 = rw same (omega arith) in
        absurd (h (subst (IsNumeral 10) (sym same) numeral, fits))

-- what begins with a plus is no number
plus_no_number : (text : List ℕ) → (slice_index text 0 == 43) ≡ true → is_numeral text ≡ false
plus_no_number [] e = cc
plus_no_number (x ∷ xs) e = subst (λ c. is_numeral (c ∷ xs) ≡ false) (sym (eqb-true x 43 e)) (last _)
  where
    last : (b : Bool) → (b && false) ≡ false
    last true = refl
    last false = refl

pub count_plus : (text : List ℕ) → (slice_index text 0 == 43) ≡ true → None ≡ count_in text
count_plus text plus = rw (plus_no_number text plus) refl

-- ---- coordinates

minus_or_not : (text : List ℕ) → without_minus text ≡ cond (starts_with_minus text) (drop 1 text) text
minus_or_not [] = refl
minus_or_not (x ∷ xs) = go (x == 45)
  where
    go : (b : Bool) → unwrap_or (cond b (Some xs) None) (x ∷ xs) ≡ cond b xs (x ∷ xs)
    go true = refl
    go false = refl

digits_same : (text : List ℕ) → (slice_index text 0 == 43) ≡ false → without_leading_sign text ≡ without_minus text
digits_same text plain = ap (λ t. cond (starts_with_minus text) (drop 1 text) t) (no_plus text plain) ∙ sym (minus_or_not text)

fits_signed : (n : ℕ) (b : Bool) → n < 1000000000 → FitsSigned w32 (cond b (neg_ℤ (pos n)) (pos n))
fits_signed zero true h = omega (arith, ints)
fits_signed (suc n) true h = omega (arith, ints)
fits_signed n false h = omega (arith, ints)

pub coordinate_read : {E : Type 0} (text : List ℕ) (r : Result ℤ E) → ParsesSigned w32 10 text r → (slice_index text 0 == 43) ≡ false → length (without_minus text) ≤ 9
    → result_ok r ≡ coordinate_in text
coordinate_read text (Ok z) h plain short =
    let same = digits_same text plain in
    let numeral : IsNumeral 10 (without_minus text) = subst (IsNumeral 10) same h.0.0 in
    rw (short_is (without_minus text) numeral short) (ap (λ x. Some x) h.1)
coordinate_read {E} text (Err e) h plain short = go (is_numeral (without_minus text)) refl
  where
    go : (b : Bool) → is_numeral (without_minus text) ≡ b → None ≡ cond (b && nat_le (length (without_minus text)) 9) (Some (signed_digits_value 10 text)) None
    go false f = refl
    go true f =
        let numeral = numeral_told (without_minus text) f in
        let same = digits_same text plain in
        let small : digits_value 10 (without_leading_sign text) < 1000000000 = rw same (short_value (without_minus text) numeral short) in
        absurd (h (subst (IsNumeral 10) (sym same) numeral, fits_signed _ (starts_with_minus text) small))

pub coordinate_long : (text : List ℕ) → 9 < length (without_minus text) → None ≡ coordinate_in text
coordinate_long text long = rw (lt-leb (length (without_minus text)) 9 long) (go (is_numeral (without_minus text)))
  where
    go : (b : Bool) → None ≡ cond (b && false) (Some (signed_digits_value 10 text)) None
    go true = refl
    go false = refl

plus_no_minus : (text : List ℕ) → (slice_index text 0 == 43) ≡ true → without_minus text ≡ text
plus_no_minus [] e = refl
plus_no_minus (x ∷ xs) e = subst (λ c. without_minus (c ∷ xs) ≡ c ∷ xs) (sym (eqb-true x 43 e)) refl

pub coordinate_plus : (text : List ℕ) → (slice_index text 0 == 43) ≡ true → None ≡ coordinate_in text
coordinate_plus text plus = rw (plus_no_minus text plus, plus_no_number text plus) refl

-- what `strip_prefix` and `unwrap_or` make of a text
pub stripped : (text : Bor (List ℕ)) (r : Option (Bor (List ℕ)))
    → MatchOption r (FindsCharPrefix 45 text.now None) (λ x. (n : ℕ) × FindsCharPrefix 45 text.now (Some n) × (x.now ≡ drop n text.now) × (length x.now + n ≡ length text.now))
    → (d : Bor (List ℕ)) → d ≡ unwrap_or r text → d.now ≡ without_minus text.now
stripped text None h d e = ap (λ s. s.now) e ∙ sym (kept text.now (strip_prefix_char 45 text.now None h (omega arith)))
  where
    kept : (t : List ℕ) → ((rest : List ℕ) → t ≢ 45 ∷ rest) → without_minus t ≡ t
    kept [] none = refl
    kept (x ∷ xs) none = go (x == 45) refl
      where
        go : (b : Bool) → (x == 45) ≡ b → unwrap_or (cond b (Some xs) None) (x ∷ xs) ≡ x ∷ xs
        go true f = absurd (none xs (ap (λ c. c ∷ xs) (eqb-true x 45 f)))
        go false f = refl
stripped text (Some x) h d e = ap (λ s. s.now) e ∙ sym (ap without_minus (strip_prefix_char 45 text.now (Some x) h (omega arith)))

-- ---- grids and voxels

-- six fields, and what is left after them
pub grid_read : (text : List ℕ) (f g h i j k : List (List ℕ)) (columns rows layers : ℕ) (x y : ℤ) (z : Option ℤ)
    → ReadsField count_in (fields text) (Some columns) f → ReadsField count_in f (Some rows) g → ReadsField count_in g (Some layers) h
    → ReadsField coordinate_in h (Some x) i → ReadsField coordinate_in i (Some y) j → ReadsField coordinate_in j z k
    → grid_in text ≡ option_and_then (λ w. at_end k (option_and_then (λ origin. Some (given_at columns rows layers origin)) (point_in_range x y w))) z
grid_read text f g h i j k columns rows layers x y z a b c d e last =
    counts (fields text) f (Some columns) _ a ∙ counts f g (Some rows) _ b ∙ counts g h (Some layers) _ c
    ∙ coordinates h i (Some x) _ d ∙ coordinates i j (Some y) _ e ∙ coordinates j k z _ last

pub grid_cut : (text : List ℕ) (f g h i j : List (List ℕ)) (columns rows layers : ℕ) (x : ℤ)
    → ReadsField count_in (fields text) (Some columns) f → ReadsField count_in f (Some rows) g → ReadsField count_in g (Some layers) h
    → ReadsField coordinate_in h (Some x) i → ReadsField coordinate_in i None j → grid_in text ≡ None
grid_cut text f g h i j columns rows layers x a b c d e =
    counts (fields text) f (Some columns) _ a ∙ counts f g (Some rows) _ b ∙ counts g h (Some layers) _ c
    ∙ coordinates h i (Some x) _ d ∙ coordinates i j None _ e

pub voxel_read : (text : List ℕ) (f g h : List (List ℕ)) (i j k : ℕ)
    → ReadsField count_in (fields text) (Some i) f → ReadsField count_in f (Some j) g → ReadsField count_in g (Some k) h
    → voxel_in text ≡ at_end h (Some (record { i = i; j = j; k = k }))
voxel_read text f g h i j k a b c = counts (fields text) f (Some i) _ a ∙ counts f g (Some j) _ b ∙ counts g h (Some k) _ c

-- a text that is left has a field
pub more_left : {T : Type 0} (text : List ℕ) (found : Option T) → at_end (fields text) found ≡ None
more_left {T} text found = go text
  where
    go : (t : List ℕ) → at_end (fields t) found ≡ None
    go [] = refl
    go (x ∷ xs) = first (x == 44) (fields xs)
      where
        first : (b : Bool) (l : List (List ℕ)) → at_end (cond b ([] ∷ l) (onto_first x l)) found ≡ None
        first true l = refl
        first false [] = refl
        first false (y ∷ ys) = refl

pub some_left : {T : Type 0} (rest : Option (Bor (List ℕ))) (found : Option T) → is_some rest ≡ true → at_end (fields_of (option_map (λ s. s.now) rest)) found ≡ None
some_left None found e = cc
some_left (Some text) found e = more_left text.now found

pub none_left : {T : Type 0} (rest : Option (Bor (List ℕ))) (found : Option T) → is_some rest ≡ false → at_end (fields_of (option_map (λ s. s.now) rest)) found ≡ found
none_left None found e = refl
none_left (Some text) found e = cc

pub point_is : (x y z : ℤ) → IsMeshPoint (record { x = x; y = y; z = z }) → point_in_range x y z ≡ Some (record { x = x; y = y; z = z })
point_is x y z h = rw (le-leb _ _ h.0.at_most, le-leb _ _ h.1.at_most, le-leb _ _ h.2.at_most) refl

pub no_point : (x y z : ℤ) → (IsMeshPoint (record { x = x; y = y; z = z }) → ⊥) → point_in_range x y z ≡ None
no_point x y z far = go (is_near x) (is_near y) (is_near z) refl refl refl
  where
    go : (a b c : Bool) → is_near x ≡ a → is_near y ≡ b → is_near z ≡ c → cond {A = Option Point} (a && (b && c)) (Some (record { x = x; y = y; z = z })) None ≡ None
    go true true true e f g = absurd (far (record { at_most = leb-true _ _ e }, record { at_most = leb-true _ _ f }, record { at_most = leb-true _ _ g }))
    go true true false e f g = refl
    go true false c e f g = refl
    go false b c e f g = refl

-- ---- numbers of options

plain_number : (most : ℕ) (v : List ℕ) → is_number most v ≡ true → without_minus v ≡ v
plain_number most v e = minus_or_not v ∙ go (starts_with_minus v) refl
  where
    go : (b : Bool) → starts_with_minus v ≡ b → cond (starts_with_minus v) (drop 1 v) v ≡ v
    go false f = ap (λ b. cond b (drop 1 v) v) f
    go true f =
        let bad : true ≡ false = sym (both _ _ e).0 ∙ minus_refused v f in
        cc

-- what `get_one` reads of an option's number
pub number_read : {E : Type 0} (G : List ℕ → Result ℕ E → Type 0) (most : ℕ) (value text : Option (List ℕ)) (r : Option ℕ)
    → (text ≡ None → r ≡ None) → ((t : List ℕ) → text ≡ Some t → ReadsOne G t r) → ((u : List ℕ) (x : Result ℕ E) → G u x → ParsesUnsigned 32 10 u x) → most < 2 ^ 32
    → text ≡ option_map without_minus value → IfSome value (λ v. is_number most v ≡ true)
    → (r ≡ option_map number_of value) × IfSome r (λ n. (1 ≤ n) × (n ≤ most))
number_read {E} G most None text r none some only small is right = let e : r ≡ None = none is in rw e (refl, tt)
number_read {E} G most (Some v) text r none some only small is right =
    go r (subst (λ t. ReadsOne G t r) (plain_number most v right) (some (without_minus v) is))
  where
    parts : (is_numeral (without_leading_plus v) ≡ true) × ((nat_le 1 (number_of v) && nat_le (number_of v) most) ≡ true)
    parts = both (is_numeral (without_leading_plus v)) (nat_le 1 (number_of v) && nat_le (number_of v) most) right

    least : 1 ≤ number_of v
    least = leb-true 1 (number_of v) (both (nat_le 1 (number_of v)) (nat_le (number_of v) most) parts.1).0

    greatest : number_of v ≤ most
    greatest = leb-true (number_of v) most (both (nat_le 1 (number_of v)) (nat_le (number_of v) most) parts.1).1

    go : (o : Option ℕ) → ReadsOne G v o → (o ≡ Some (number_of v)) × IfSome o (λ n. (1 ≤ n) × (n ≤ most))
    go (Some n) h =
        let same = (only v (Ok n) h).1 in
        (ap (λ x. Some x) same, (subst (λ x. 1 ≤ x) (sym same) least, subst (λ x. x ≤ most) (sym same) greatest))
    go None h = absurd (only v (Err h.0) h.1 (numeral_told (without_leading_plus v) parts.0, omega (arith, greatest, small)))
