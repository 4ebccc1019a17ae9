-- A list that grows: by one element for each of another list, or by three at a time, each with its number.
use Rattle.std.proofs.Common.{◌≡◌, ℕ, ◌+◌, ◌<◌, List, [], ◌∷◌, ◌++◌, length, get_or, take, map, ap, sym, ◌∙◌, length-append, append_assoc, arith}
use Rattle.std.proofs.lemmas.List.{length_push, map_more}

pub longer : {X : Type 0} (xs ys : List X) (x : X) → ys ≡ xs ++ x ∷ [] → length ys ≡ length xs + 1
longer xs ys x e = ap length e ∙ length_push xs x

pub one_more : (f : ℕ → ℕ) (xs : List ℕ) (i : ℕ) (ys zs : List ℕ) → i < length xs → ys ≡ map f (take i xs) → zs ≡ ys ++ f (get_or xs i 0) ∷ []
    → zs ≡ map f (take (i + 1) xs)
one_more f xs i ys zs low so_far is = is ∙ ap (λ l. l ++ f (get_or xs i 0) ∷ []) so_far ∙ sym (map_more f xs i 0 low)

pub three_more : {X : Type 0} (e f g : ℕ → X) (rest l m n o all : List X) (i j k : ℕ)
    → i ≡ length l → j ≡ length m → k ≡ length n
    → m ≡ l ++ e i ∷ [] → n ≡ m ++ f j ∷ [] → o ≡ n ++ g k ∷ []
    → l ++ e i ∷ f (i + 1) ∷ g (i + 2) ∷ rest ≡ all
    → (o ++ rest ≡ all) × (length o ≡ i + 3)
three_more {X} e f g rest l m n o all i j k i_is j_is k_is m_is n_is o_is h =
    let second : j ≡ i + 1 = omega (arith, i_is, j_is, ap length m_is, length-append l (e i ∷ [])) in
    let third : k ≡ i + 2 = omega (arith, second, j_is, k_is, ap length n_is, length-append m (f j ∷ [])) in
    let whole : o ≡ l ++ e i ∷ f (i + 1) ∷ g (i + 2) ∷ [] =
    o_is ∙ ap (λ (p : List X). p ++ g k ∷ []) (n_is ∙ ap (λ (p : List X). p ++ f j ∷ []) m_is)
    ∙ append_assoc (l ++ e i ∷ []) (f j ∷ []) (g k ∷ []) ∙ append_assoc l (e i ∷ []) (f j ∷ g k ∷ [])
    ∙ ap (λ (s : ℕ). l ++ e i ∷ f s ∷ g k ∷ []) second ∙ ap (λ (s : ℕ). l ++ e i ∷ f (i + 1) ∷ g s ∷ []) third in (
      ap (λ (p : List X). p ++ rest) whole ∙ append_assoc l (e i ∷ f (i + 1) ∷ g (i + 2) ∷ []) rest ∙ h,
      omega (arith, ap length o_is, length-append n (g k ∷ []), third, k_is),
    )
