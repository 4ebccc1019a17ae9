-- Reading an exponent.
use Rattle.std.proofs.Common.{◌≡◌, ◌≢◌, ◌⊎◌, inl, inr, ℕ, zero, suc, ◌<◌, ◌≤◌, true, false, List, [], ◌∷◌, ◌++◌, length, take, drop, ℤ, pos, neg_ℤ, ◌-ℤ◌, w64, to_z, of_z, arith, ap, subst, sym, ◌∙◌, refl, append_assoc}
use Rattle.std.specs.Prelude.{Option, Some, None, nat_lt}
use Rattle.std.specs.Char.{is_ascii_digit}
use Rattle.std.specs.List.{list_all, position_or_len}
use Rattle.std.proofs.lemmas.Int.{ints}
use Rattle.std.proofs.lemmas.Bool.{and_parts, lt-ltb, ltb-true}
use Rattle.std.proofs.lemmas.List.{take-append-drop}
use Rattle.micro_num.specs.Numeral.{Sign, unsigned, plus, minus, Exponent, are_digits, is_exponent_mark, after_sign, is_exponent, sign_of, sign_text, exponent_text, from_first}
use Rattle.micro_num.specs.Micrometres.{with_sign, digits_value}
use Rattle.micro_num.specs.Scan.{IsExponentFront, IsLeading, IsNear, IsEnded, is_other}
use Rattle.micro_num.proofs.lemmas.Grammar.{place, from-is, sign-text, after_sign-is, digits_unsigned_on}
use Rattle.micro_num.proofs.lemmas.Scanning.{front_digits, no_other, ended_other}
use Rattle.micro_num.proofs.lemmas.DigitRows.{near}
use Rattle.micro_num.specs.declared.limits.TheConstants.{LEADING_ROOM}

-- The bytes are an exponent or none, and then no byte of a number. If they begin with a mark, an optional sign and digits
-- follow it, and then the rest.
pub marked_rest : (bytes : List ℕ) (x : Option Exponent) (rest : List ℕ) → is_exponent x ≡ true → bytes ≡ exponent_text x ++ rest → IsEnded rest
    → (mark : ℕ) (text ds : List ℕ) → bytes ≡ mark ∷ text → is_exponent_mark mark ≡ true → ds ≡ after_sign text
    → (0 < position_or_len is_other ds) × (from_first is_other ds ≡ rest)
marked_rest bytes x rest is spelled ended mark text ds begins marks after = by_exponent x is spelled
  where
    no_mark : (rest : List ℕ) → IsEnded rest → mark ∷ text ≡ rest → ⊥
    no_mark [] h e = cc
    no_mark (byte ∷ more) h e =
        let same : mark ≡ byte = cc in
        let other : is_exponent_mark mark ≡ false = ap is_exponent_mark same ∙ h.2 in
        cc

    by_exponent : (x : Option Exponent) → is_exponent x ≡ true → bytes ≡ exponent_text x ++ rest
        → (0 < position_or_len is_other ds) × (from_first is_other ds ≡ rest)
    by_exponent None is e = absurd (no_mark rest ended (sym begins ∙ e))
    by_exponent (Some e) is is_text =
        let digits : are_digits e.digits ≡ true = (and_parts (is_exponent_mark e.mark) (are_digits e.digits) is).1 in
        let parts : (nat_lt 0 (length e.digits) ≡ true) × (list_all is_ascii_digit e.digits ≡ true) =
        and_parts (nat_lt 0 (length e.digits)) (list_all is_ascii_digit e.digits) digits in
        let text_is : text ≡ (sign_text e.sign ++ e.digits) ++ rest = cc in
        let ds_is : ds ≡ e.digits ++ rest =
        after ∙ ap after_sign (text_is ∙ append_assoc (sign_text e.sign) e.digits rest)
        ∙ after_sign-is e.sign (e.digits ++ rest) (digits_unsigned_on e.digits rest digits) in
        let clear = no_other e.digits parts.1 in
        let starts = ended_other rest ended in
        let count : position_or_len is_other ds ≡ length e.digits = ap (position_or_len is_other) ds_is ∙ place is_other e.digits rest clear starts in
        let some : 0 < position_or_len is_other ds = omega (arith, ltb-true 0 (length e.digits) parts.0) in
        (some, ap (from_first is_other) ds_is ∙ from-is is_other e.digits rest clear starts)

-- all digits after a mark belong to the exponent
pub front_exponent : (bytes : List ℕ) (mark : ℕ) (text ds : List ℕ) (n : ℕ) (e : ℤ) → bytes ≡ mark ∷ text → ds ≡ after_sign text
    → is_exponent_mark mark ≡ true → n ≡ position_or_len is_other ds → 0 < n → IsNear e (with_sign (sign_of text) (digits_value (take n ds)))
    → IsExponentFront bytes (drop n ds) e
front_exponent bytes mark text ds n e spelled after is count some is_near =
    let digits : list_all is_ascii_digit (take n ds) ≡ true = rw count (front_digits ds) in
    let long : nat_lt 0 (length (take n ds)) ≡ true = is_long n ds count some in
    record {
      exponent = Some (record { mark = mark; sign = sign_of text; digits = take n ds });
      is = rw (is, long) digits;
      spelled = spelled
          ∙ ap {B = List ℕ} (λ t. mark ∷ t) (sym (sign-text text))
          ∙ ap {B = List ℕ} (λ t. mark ∷ (sign_text (sign_of text) ++ t)) (sym after ∙ sym (take-append-drop n ds))
          ∙ ap {B = List ℕ} (λ t. mark ∷ t) (sym (append_assoc (sign_text (sign_of text)) (take n ds) (drop n ds)));
      near = is_near;
    }
  where
    is_long : (n : ℕ) (ds : List ℕ) → n ≡ position_or_len is_other ds → 0 < n → nat_lt 0 (length (take n ds)) ≡ true
    is_long n [] count h = absurd (omega (arith, count))
    is_long zero (d ∷ ds) count h = absurd (omega arith)
    is_long (suc n) (d ∷ ds) count h = lt-ltb 0 (length (take (suc n) (d ∷ ds))) (omega arith)

pub mark_101 : (mark : ℕ) → mark ≡ 101 → is_exponent_mark mark ≡ true
mark_101 mark e = rw e refl

pub mark_69 : (mark : ℕ) → mark ≡ 69 → is_exponent_mark mark ≡ true
mark_69 mark e = rw e refl

-- the leading digits of an exponent with its sign, as the machine turns them to 64 bits

pub IsNear-minus : (e : ℤ) (v j n : ℕ) (s : Sign) → IsLeading v j n → e ≡ to_z w64 (of_z w64 (pos 0 -ℤ to_z w64 v)) → s ≡ minus → IsNear e (with_sign s n)
IsNear-minus e v j n s leads bits is =
    subst (λ s. IsNear e (with_sign s n)) (sym is) (by_cases (near v j n leads))
  where
    value : e ≡ neg_ℤ (pos v)
    value = omega (arith, ints, leads.short)

    by_cases : (v ≡ n) ⊎ ((LEADING_ROOM ≤ v) × (LEADING_ROOM ≤ n)) → IsNear e (neg_ℤ (pos n))
    by_cases (inl same) = inl (value ∙ ap (λ n. neg_ℤ (pos n)) same)
    by_cases (inr far) = inr (inr (omega (arith, ints, far), omega (arith, ints, far)))

pub IsNear-plus : (e : ℤ) (v j n : ℕ) (s : Sign) → IsLeading v j n → e ≡ to_z w64 v → s ≢ minus → IsNear e (with_sign s n)
IsNear-plus e v j n s leads bits other = by_sign s other
  where
    value : e ≡ pos v
    value = omega (arith, ints, leads.short)

    by_cases : (v ≡ n) ⊎ ((LEADING_ROOM ≤ v) × (LEADING_ROOM ≤ n)) → IsNear e (pos n)
    by_cases (inl same) = inl (value ∙ ap pos same)
    by_cases (inr far) = inr (inl (omega (arith, ints, far), omega (arith, ints, far)))

    by_sign : (s : Sign) → s ≢ minus → IsNear e (with_sign s n)
    by_sign unsigned h = by_cases (near v j n leads)
    by_sign plus h = by_cases (near v j n leads)
    by_sign minus h = absurd (h refl)
