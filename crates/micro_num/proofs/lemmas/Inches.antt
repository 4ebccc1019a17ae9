-- The leading digits of a number, times the factor of a unit.
use Rattle.std.proofs.Common.{◌≡◌, ◌⊎◌, inl, inr, ℕ, suc, ◌+◌, ◌*◌, ◌-◌, ◌^◌, ◌<◌, ◌≤◌, true, List, [], ◌++◌, length, take, drop, arith, ap, subst, sym, ◌∙◌, lit≤, length-append, append_assoc}
use Rattle.std.specs.Prelude.{min}
use Rattle.std.specs.Char.{is_ascii_digit}
use Rattle.std.specs.List.{list_all}
use Rattle.std.proofs.lemmas.List.{drop_all, take-append-drop, length-drop}
use Rattle.std.proofs.lemmas.List.Folds.{list_all-append}
use Rattle.std.proofs.lemmas.Bool.{and_parts, cases_lt}
use Rattle.std.proofs.Math.Nat.{pow-le-pow_right}
use Rattle.micro_num.specs.declared.unit.Unit.{Unit as LengthUnit}
use Rattle.micro_num.specs.declared.unit.Unit.TheVariants.{Millimetre, Inch, Centimetre, Metre}
use Rattle.micro_num.specs.declared.limits.TheConstants.{INCH_FACTOR, WORD_LIMIT}
use Rattle.micro_num.specs.Micrometres.{unit_factor, unit_power}
use Rattle.micro_num.specs.Scan.{IsLeading, IsCarry, digits_after}
use Rattle.micro_num.proofs.lemmas.Powers.{power_suc}
use Rattle.micro_num.proofs.lemmas.DigitRows.{digits_after-append, IsCarry-none, IsCarry-all}

-- The last j digits of w ++ f; b of them are in f.
module _ (w f : List ℕ) (j b : ℕ) (is : b ≡ min j (length f)) (few : j ≤ length w + length f) where
  last : List ℕ
  last = drop (length f - b) f

  before : List ℕ
  before = drop (length w - (j - b)) w

  last_size : length last ≡ b
  unfolding last
  last_size = omega (arith, length-drop (length f - b) f)

  before_size : length before ≡ j - b
  unfolding before
  before_size = omega (arith, length-drop (length w - (j - b)) w)

  parted : (xs : List ℕ) × (w ++ f ≡ xs ++ (before ++ last))
  unfolding last before
  parted = by_cases (cases_lt j (length f))
    where
      by_cases : (j < length f) ⊎ (length f ≤ j) → (xs : List ℕ) × (w ++ f ≡ xs ++ (before ++ last))
      by_cases (inl inside) =
          let none : before ≡ [] = drop_all (length w - (j - b)) w (omega arith) in (
            w ++ take (length f - b) f,
            ap (λ f. w ++ f) (sym (take-append-drop (length f - b) f))
                ∙ sym (append_assoc w (take (length f - b) f) last)
                ∙ ap (λ l. (w ++ take (length f - b) f) ++ (l ++ last)) (sym none),
          )
      by_cases (inr outside) =
          let zeroth : length f - b ≡ 0 = omega arith in
          let all : last ≡ f = ap (λ k. drop k f) zeroth in (
            take (length w - (j - b)) w,
            ap (λ w. w ++ f) (sym (take-append-drop (length w - (j - b)) w))
                ∙ append_assoc (take (length w - (j - b)) w) before f
                ∙ ap (λ f. take (length w - (j - b)) w ++ (before ++ f)) (sym all),
          )

  pub carried_twice : (v c e : ℕ) → IsLeading v j (digits_after 0 (w ++ f)) → list_all is_ascii_digit (w ++ f) ≡ true
      → ((count n : ℕ) → IsCarry 0 count n → IsCarry c (length (drop (length f - b) f) + count) (digits_after 0 (drop (length f - b) f) * 10 ^ count + n))
      → ((count n : ℕ) → IsCarry c count n
      → IsCarry e (length (drop (length w - (j - b)) w) + count) (digits_after 0 (drop (length w - (j - b)) w) * 10 ^ count + n))
      → IsCarry (INCH_FACTOR * v + e) j (digits_after 0 (w ++ f))
  unfolding last before
  carried_twice v c e leading digits one two =
      let ys : List ℕ = before ++ last in
      let xs : List ℕ = parted.0 in
      let size : length ys ≡ j = omega (arith, length-append before last, before_size, last_size) in
      let first : length last + 0 ≡ length last = omega arith in
      let second : digits_after 0 last * 10 ^ 0 + 0 ≡ digits_after 0 last = omega arith in
      let onto : IsCarry c (length last) (digits_after 0 last) = subst (λ n. IsCarry c (length last) n) second (subst (λ k. IsCarry c k (digits_after 0 last * 10 ^ 0 + 0)) first (one 0 0 IsCarry-none)) in
      let all : length before + length last ≡ length ys = sym (length-append before last) in
      let value : digits_after 0 before * 10 ^ length last + digits_after 0 last ≡ digits_after 0 ys = sym (digits_after-append before last) in
      let carry : IsCarry e (length ys) (digits_after 0 ys) = subst (λ n. IsCarry e (length ys) n) value (subst (λ k. IsCarry e k (digits_after 0 before * 10 ^ length last + digits_after 0 last)) all (two (length last) (digits_after 0 last) onto)) in
      let digits' : list_all is_ascii_digit ys ≡ true = (and_parts (list_all is_ascii_digit xs) (list_all is_ascii_digit ys) (sym (list_all-append is_ascii_digit xs ys) ∙ ap (list_all is_ascii_digit) (sym parted.1) ∙ digits)).1 in
      let leading' : IsLeading v (length ys) (digits_after 0 (xs ++ ys)) = subst (λ k. IsLeading v k (digits_after 0 (xs ++ ys))) (sym size) (subst (λ l. IsLeading v j (digits_after 0 l)) parted.1 leading) in
      subst (λ l. IsCarry (INCH_FACTOR * v + e) j (digits_after 0 l)) (sym parted.1)
      (subst (λ k. IsCarry (INCH_FACTOR * v + e) k (digits_after 0 (xs ++ ys))) size (IsCarry-all xs ys v e leading' digits' carry))

pub power_small : (unit : LengthUnit) → unit_power unit ≤ 6
power_small Millimetre = lit≤ tt
power_small Inch = lit≤ tt
power_small Centimetre = lit≤ tt
power_small Metre = lit≤ tt

pub times_below : (unit : LengthUnit) (n k : ℕ) → n < 10 ^ k → k ≤ WORD_LIMIT → unit_factor unit * n < 10 ^ 300
times_below unit n k below few = by_unit unit
  where
    more : 1000 * 10 ^ k ≤ 10 ^ 300
    more = omega (arith, power_suc k, power_suc (suc k), power_suc (suc (suc k)), pow-le-pow_right {n = 10} (lit≤ tt) {i = suc (suc (suc k))} {j = 300} (omega arith))

    by_unit : (unit : LengthUnit) → unit_factor unit * n < 10 ^ 300
    by_unit Millimetre = omega (arith, more)
    by_unit Inch = omega (arith, more)
    by_unit Centimetre = omega (arith, more)
    by_unit Metre = omega (arith, more)
