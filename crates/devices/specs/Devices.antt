-- What a device's calls do to the count of its failures, and to the bytes that it holds.
use Rattle.std.specs.Prelude.{◌≡◌, ℕ, Bool, ◌+◌, ◌-◌, ◌^◌, min, List, take, Option}
use Rattle.std.specs.Io.KnownBytes.{Appends}

-- the greatest count of 64 bits; a count of failures stays there
abbrev pub greatest_count : ℕ
greatest_count = 2 ^ 64 - 1

-- exactly one call failed in between
abbrev pub Fails : ℕ → ℕ → Type 0
Fails old new = new ≡ min (old + 1) greatest_count

-- the first `written` bytes of a text went out
abbrev pub AppendsFirst : Option (List ℕ) → Option (List ℕ) → ℕ → List ℕ → Type 0
AppendsFirst old new written text = Appends old new (take written text)

-- a device, the number of its failed calls, and whether all that it took has been flushed
pub record Counted (T : Type 0) : Type 0 where
  pub device : T
  pub count : ℕ
  pub is_settled : Bool
