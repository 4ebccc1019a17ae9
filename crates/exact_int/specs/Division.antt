-- Division that rounds up.
use Rattle.std.specs.Prelude.{ℤ, ◌*ℤ◌, ◌≤ℤ◌, ◌↔◌}

-- q is the least whole number that is not below n / d, for a d above 0
abbrev pub IsCeilDiv : ℤ → ℤ → ℤ → Type 0
IsCeilDiv q n d = (m : ℤ) → (q ≤ℤ m) ↔ (n ≤ℤ (m *ℤ d))
