-- Lists: elements that all pass a test all pass a weaker test, and a list of length 0 is empty.
use Rattle.std.proofs.Common.{◌≡◌, Bool, true, List, [], ◌∷◌, length, refl, arith}
use Rattle.std.specs.List.{list_all}
use Rattle.std.proofs.lemmas.Bool.{and_parts}

pub all-weaker : {X : Type 0} (p q : X → Bool) → ((x : X) → p x ≡ true → q x ≡ true) → (xs : List X)
    → list_all p xs ≡ true → list_all q xs ≡ true
all-weaker p q weaker [] h = refl
all-weaker p q weaker (x ∷ xs) h =
    let parts : (p x ≡ true) × (list_all p xs ≡ true) = and_parts _ _ h in
    rw (weaker x parts.0) (all-weaker p q weaker xs parts.1)

pub nil-of-length : {X : Type 0} (xs : List X) → length xs ≡ 0 → xs ≡ []
nil-of-length [] h = refl
nil-of-length (x ∷ xs) h = absurd (omega (arith, h))
