-- The greatest magnitudes of the crate's intermediate numbers, each from the bounds of what it is computed from.
-- Products of two numbers are bounded by the product of their bounds, sums by the sum.
use Rattle.std.specs.Prelude.{ℕ, ◌+◌, ◌*◌}
use Rattle.geometry.specs.declared.limits.TheConstants.{CENTRE_LIMIT, COLUMN_LIMIT, COORDINATE_LIMIT, STEP_LIMIT}

-- ---- points, in half-micrometres
-- a coordinate of a mesh's point
abbrev pub half_point_limit : ℕ
half_point_limit = 2 * COORDINATE_LIMIT

-- a coordinate of a point less one of a centre
abbrev pub offset_limit : ℕ
offset_limit = half_point_limit + CENTRE_LIMIT

-- ---- rays
-- a * d - b * c, of four offsets
abbrev pub cross_limit : ℕ
cross_limit = 2 * (offset_limit * offset_limit)

-- the determinant of three offsets: three products of an offset and a cross product
abbrev pub determinant_limit : ℕ
determinant_limit = 3 * (offset_limit * cross_limit)

-- ---- cut points
-- the denominator: the difference of two heights
abbrev pub cut_denominator_limit : ℕ
cut_denominator_limit = 2 * half_point_limit

-- the numerators: a mean of two coordinates, weighted by parts of the denominator
abbrev pub cut_numerator_limit : ℕ
cut_numerator_limit = half_point_limit * cut_denominator_limit

-- ---- the line through two cut points
-- the denominator of its crossing with a scanline, and the numerator of its slope: y * d' - y' * d
abbrev pub denominator_limit : ℕ
denominator_limit = 2 * (cut_numerator_limit * cut_denominator_limit)

-- the numerator of its crossing with a scanline: x * y' - y * x' and the scanline times the slope
abbrev pub numerator_limit : ℕ
numerator_limit = 2 * (cut_numerator_limit * cut_numerator_limit) + CENTRE_LIMIT * denominator_limit

-- ---- the DDA along that line, over its denominator
-- the step from a column to the next, and the increment from a row to the next
abbrev pub unit_limit : ℕ
unit_limit = 2 * (STEP_LIMIT * denominator_limit)

-- the crossing less the first column's centre
abbrev pub distance_limit : ℕ
distance_limit = numerator_limit + CENTRE_LIMIT * denominator_limit

-- a quotient that is rounded up is at most the dividend plus the unit; this holds for the distance and for the increment
abbrev pub quotient_limit : ℕ
quotient_limit = distance_limit + unit_limit

abbrev pub increment_limit : ℕ
increment_limit = 2 * unit_limit

-- what a step adds to the quotient: the increment, less at most 1
abbrev pub step_limit : ℕ
step_limit = increment_limit + 1

-- the quotient after as many steps as a lattice has rows
abbrev pub whole_limit : ℕ
whole_limit = quotient_limit + step_limit * COLUMN_LIMIT
