-- The bounds of the intermediate numbers, in bits. They follow from the limits on coordinates, pitch and columns, so a
-- greater limit fails here.
use Rattle.std.proofs.Common.{◌<◌, ◌*◌, ◌^◌, lit≤}
use Rattle.geometry.specs.declared.limits.TheConstants.{CENTRE_LIMIT, COLUMN_LIMIT}
use Rattle.exact_cut.specs.Bounds.{cut_denominator_limit, cut_numerator_limit, denominator_limit, determinant_limit, half_point_limit, numerator_limit, unit_limit}

-- a coordinate of a point or of a centre, in half-micrometres
points_in_bits : half_point_limit < 2 ^ 28
points_in_bits = lit≤ tt

centres_in_bits : CENTRE_LIMIT < 2 ^ 28
centres_in_bits = lit≤ tt

-- the determinant of a facet's corners as seen from a centre
determinants_in_bits : determinant_limit < 2 ^ 90
determinants_in_bits = lit≤ tt

-- where a plane cuts an edge
cut_denominators_in_bits : cut_denominator_limit < 2 ^ 29
cut_denominators_in_bits = lit≤ tt

cut_numerators_in_bits : cut_numerator_limit < 2 ^ 57
cut_numerators_in_bits = lit≤ tt

-- where a scanline crosses a facet
denominators_in_bits : denominator_limit < 2 ^ 87
denominators_in_bits = lit≤ tt

numerators_in_bits : numerator_limit < 2 ^ 116
numerators_in_bits = lit≤ tt

-- a centre's x over that denominator
scaled_centres_in_bits : CENTRE_LIMIT * denominator_limit < 2 ^ 115
scaled_centres_in_bits = lit≤ tt

-- as many steps from a column to the next as there are columns
scaled_columns_in_bits : COLUMN_LIMIT * unit_limit < 2 ^ 119
scaled_columns_in_bits = lit≤ tt
