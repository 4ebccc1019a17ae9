-- The bytes that were read.
use Rattle.std.proofs.Common.{◌≡◌, ℕ, List, [], Option, Some, None, refl, subst}
use Rattle.std.specs.Prelude.{IfSome}
use Rattle.stlslice.specs.Run.{OfInput}

-- what holds of the bytes that were read holds of the input, where it is known
pub of_input : (known : Option (List ℕ)) (bytes : List ℕ) (P : List ℕ → Type 0) → IfSome known (λ input. bytes ≡ input)
    → P bytes → IfSome known P
of_input None bytes P is h = tt
of_input (Some input) bytes P is h = subst P is h

pub each : (known : Option (List ℕ)) (P : List ℕ → Type 0) → ((input : List ℕ) → P input) → IfSome known P
each None P h = tt
each (Some input) P h = h input

-- what holds of all bytes holds of an input
pub of_some : (known : Option (List ℕ)) (P : List ℕ → Type 0) → ((input : List ℕ) → P input) → OfInput known P
of_some None P h = ([], tt, h [])
of_some (Some input) P h = (input, refl, h input)
