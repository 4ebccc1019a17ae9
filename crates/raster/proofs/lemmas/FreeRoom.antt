-- The free room after bytes stays 0 when those are set to 0.
use Rattle.std.proofs.Common.{◌≡◌, ℕ, ◌-◌, ◌+◌, ◌≤◌, List, length, get_or, arith, take, drop, length-append, length-drop, ap, ◌++◌, ◌∙◌, inl, inr, refl}
use Rattle.std.proofs.Math.ListN.{replicate}
use Rattle.std.proofs.lemmas.Bool.{cases_lt}
use Rattle.std.proofs.lemmas.List.{get_or-append_right, get_or_append_left, get_or-drop, get_or_past, get_or-replicate, get_or-take, length-replicate, length-take}

pub all-zero : (xs ys : List ℕ) (n : ℕ) → ys ≡ replicate n 0 → ((k : ℕ) → n ≤ k → get_or xs k 0 ≡ 0) → (k : ℕ) → get_or (ys ++ drop n xs) k 0 ≡ 0
all-zero xs ys n e free k =
    let size : length ys ≡ n = ap (λ (l : List ℕ). length l) e ∙ length-replicate n 0 in
    elim (cases_lt k n) [
      | inl low ↦ get_or_append_left ys (drop n xs) 0 k (omega (arith, low, size)) ∙ ap (λ (l : List ℕ). get_or l k 0) e ∙ get_or-replicate n k 0 0 low
      | inr high ↦ get_or-append_right ys (drop n xs) n k 0 size high ∙ get_or-drop n xs (k - n) 0 ∙ free (n + (k - n)) (omega (arith, high))
    ]

pub same-length : (xs ys : List ℕ) (n : ℕ) → n ≤ length xs → length ys ≡ n → length (ys ++ drop n xs) ≡ length xs
same-length xs ys n room size = omega (arith, length-append ys (drop n xs), length-drop n xs, room, size)

pub all-zero_within : (m : ℕ) (xs ys back : List ℕ) (n : ℕ) → ys ≡ replicate n 0 → back ≡ drop n xs → ((k : ℕ) → n ≤ k → get_or xs k 0 ≡ 0)
    → (k : ℕ) → get_or (take m ((ys ++ back) ++ drop (length (ys ++ back)) xs)) k 0 ≡ 0
all-zero_within m xs ys back n e rest free k =
    let front : List ℕ = ys ++ back in
    let size : length ys ≡ n = ap (λ (l : List ℕ). length l) e ∙ length-replicate n 0 in
    let past : n ≤ length front = omega (arith, length-append ys back, size) in
    let all : get_or (front ++ drop (length front) xs) k 0 ≡ 0 =
    elim (cases_lt k (length front)) [
      | inl low ↦ get_or_append_left front (drop (length front) xs) 0 k low
          ∙ ap (λ (l : List ℕ). get_or (ys ++ l) k 0) rest ∙ all-zero xs ys n e free k
      | inr high ↦ get_or-append_right front (drop (length front) xs) (length front) k 0 refl high
          ∙ get_or-drop (length front) xs (k - length front) 0 ∙ free (length front + (k - length front)) (omega (arith, past, high))
    ] in
    elim (cases_lt k m) [
      | inl low ↦ get_or-take m (front ++ drop (length front) xs) k 0 low ∙ all
      | inr high ↦ get_or_past (take m (front ++ drop (length front) xs)) k 0 (omega (arith, length-take m (front ++ drop (length front) xs), high))
    ]
