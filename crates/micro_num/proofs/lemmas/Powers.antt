-- The table of powers of ten, and quotients by them.
use Rattle.std.proofs.Common.{◌≡◌, ℕ, zero, suc, ◌+◌, ◌*◌, ◌-◌, ◌/◌, ◌^◌, ◌<◌, ◌≤◌, List, [], ◌∷◌, get_or, arith, ap, sym, ◌∙◌, lit≤}
use Rattle.std.proofs.Math.Nat.{pow-succ', pow-le-pow_right, one-le-pow, mul-le-mul_right, mul-le-mul_left, div-mul-le_self, lt-div-mul-add, div-eq_of_lt-le}
use Rattle.std.proofs.lemmas.Nat.{pow-add, le-div}
use Rattle.micro_num.specs.Micrometres.{rounded_quotient}
use Rattle.micro_num.specs.declared.limits.TheConstants.{POWER_COUNT}

-- the first n powers of ten, each times p
abbrev tens : ℕ → ℕ → List ℕ
tens zero p = []
tens (suc n) p = p ∷ tens n (10 * p)

get_or-tens : (n p k : ℕ) → k < n → get_or (tens n p) k 0 ≡ p * 10 ^ k
get_or-tens zero p k h = absurd (omega arith)
get_or-tens (suc n) p zero h = omega arith
get_or-tens (suc n) p (suc k) h = get_or-tens n (10 * p) k (omega arith) ∙ omega (arith, ap (λ x. p * x) (pow-succ' 10 k))

pub table_is : (k : ℕ) → k < POWER_COUNT
    → get_or (tens POWER_COUNT 1) k 0 ≡ 10 ^ k
table_is k h = get_or-tens POWER_COUNT 1 k h ∙ omega arith

pub power_above : (k : ℕ) → 0 < 10 ^ k
power_above k = one-le-pow k 10 (lit≤ tt)

-- half of a power of ten is a whole number
half : (k : ℕ) → 0 < k → 10 ^ k ≡ 2 * (5 * 10 ^ (k - 1))
half k some = ap (λ j. 10 ^ j) (omega arith) ∙ pow-succ' 10 (k - 1) ∙ omega arith

halved : (m e : ℕ) → 0 < e → (m + e) / (2 * e) ≡ (2 * m + 2 * e) / (2 * (2 * e))
halved m e some =
    let q : ℕ = (2 * m + 2 * e) / (2 * (2 * e)) in
    let low = div-mul-le_self (2 * m + 2 * e) (2 * (2 * e)) in
    let high = lt-div-mul-add {a = 2 * m + 2 * e} {b = 2 * (2 * e)} (omega arith) in
    div-eq_of_lt-le {k = q} (2 * e) (omega arith) (omega arith)

-- the quotient as it is computed
pub rounded_quotient-is : (m k : ℕ) → 0 < k → (m + 10 ^ k / 2) / 10 ^ k ≡ rounded_quotient m k
rounded_quotient-is m k some =
    let e : ℕ = 5 * 10 ^ (k - 1) in
    let even : 10 ^ k ≡ 2 * e = half k some in
    let above : 0 < e = omega (arith, power_above (k - 1)) in
    let halves : 10 ^ k / 2 ≡ e = omega arith in
    ap (λ h. (m + h) / 10 ^ k) halves ∙ ap (λ d. (m + e) / d) even ∙ halved m e above ∙ ap (λ d. (2 * m + d) / (2 * d)) (sym even)

-- the digits that are dropped after the leading ones do not change the rounded quotient
cut : (m n p e : ℕ) → m * p ≤ n → n < (m + 1) * p → 0 < p → 0 < e
    → (2 * n + p * (2 * e)) / (2 * (p * (2 * e))) ≡ (2 * m + 2 * e) / (2 * (2 * e))
cut m n p e low high some above =
    let q : ℕ = (2 * m + 2 * e) / (2 * (2 * e)) in
    let under = div-mul-le_self (2 * m + 2 * e) (2 * (2 * e)) in
    let over = lt-div-mul-add {a = 2 * m + 2 * e} {b = 2 * (2 * e)} (omega arith) in
    let under' : q * (2 * e) ≤ m + e = omega arith in
    let over' : m + e + 1 ≤ (q + 1) * (2 * e) = omega arith in
    div-eq_of_lt-le {k = q} (2 * (p * (2 * e)))
    (omega (arith, mul-le-mul_right p under'))
    (omega (arith, mul-le-mul_right p over'))

pub rounded_quotient-cut : (m n j k : ℕ) → m * 10 ^ j ≤ n → n < (m + 1) * 10 ^ j → 0 < k
    → rounded_quotient n (j + k) ≡ rounded_quotient m k
rounded_quotient-cut m n j k low high some =
    let e : ℕ = 5 * 10 ^ (k - 1) in
    let even : 10 ^ k ≡ 2 * e = half k some in
    let both : 10 ^ (j + k) ≡ 10 ^ j * (2 * e) = pow-add 10 j k ∙ ap (λ d. 10 ^ j * d) even in
    ap (λ d. (2 * n + d) / (2 * d)) both
    ∙ cut m n (10 ^ j) e low high (power_above j) (omega (arith, power_above (k - 1)))
    ∙ ap (λ d. (2 * m + d) / (2 * d)) (sym even)

pub power_suc : (k : ℕ) → 10 ^ suc k ≡ 10 * 10 ^ k
power_suc k = pow-succ' 10 k

-- if the point is among the dropped digits, the value is at least the leading ones
pub cut_above : (m n j k : ℕ) → m * 10 ^ j ≤ n → k ≤ j → m ≤ rounded_quotient n k
cut_above m n j k low inside =
    let grown : m * 10 ^ k ≤ n = omega (arith, low, mul-le-mul_left m (pow-le-pow_right {n = 10} (lit≤ tt) {i = k} {j = j} inside)) in
    le-div m (2 * n + 10 ^ k) (2 * 10 ^ k) (omega (arith, power_above k)) (omega arith)
