-- The range of a step: a pitch or a layer height.
use Rattle.std.specs.Prelude.{ℕ, ◌≤◌}
use Rattle.geometry.specs.declared.limits.TheConstants.{STEP_LIMIT}

-- a step, in micrometres
abbrev pub IsStep : ℕ → Type 0
IsStep n = (1 ≤ n) × (n ≤ STEP_LIMIT)
