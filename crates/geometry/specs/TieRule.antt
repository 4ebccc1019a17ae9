-- The tie rule of every cut and every ray: a height that equals the plane's counts as below it. Heights and planes are
-- in half-micrometres. Each fact is defined as a test and as a proposition; the clauses of `geometry::is_below` say
-- that the two agree.
use Rattle.std.specs.Prelude.{Bool, ◌&&◌, ℤ, int_le, int_lt, ◌≤ℤ◌, ◌<ℤ◌}

-- the height of the plane itself counts as below
abbrev pub is_below : ℤ → ℤ → Bool
is_below height plane = int_le height plane

abbrev pub is_above : ℤ → ℤ → Bool
is_above height plane = int_lt plane height

-- an edge from one height to another passes the plane upward
abbrev pub rises_through : ℤ → ℤ → ℤ → Bool
rises_through from to plane = is_below from plane && is_above to plane

abbrev pub IsBelow : ℤ → ℤ → Type 0
IsBelow height plane = height ≤ℤ plane

abbrev pub IsAbove : ℤ → ℤ → Type 0
IsAbove height plane = plane <ℤ height
