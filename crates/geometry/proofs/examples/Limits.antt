-- The limits as they are published. Clauses cite their names, so that a constant with another value fails here.
use Rattle.std.proofs.Common.{◌≡◌, refl, lit≤, arith}
use Rattle.geometry.specs.Limits.{IsStep}
use Rattle.geometry.specs.declared.limits.TheConstants.{CENTRE_LIMIT, COLUMN_LIMIT, COORDINATE_LIMIT, CORNER_LIMIT, FACET_LIMIT, LAYER_LIMIT, STEP_LIMIT}

-- 128 metres, in micrometres
coordinates : COORDINATE_LIMIT ≡ 128000000
coordinates = refl

-- one pitch more, in half-micrometres
centres : CENTRE_LIMIT ≡ 256200000
centres = refl

-- a pitch, and a layer height, in micrometres
greatest_step : STEP_LIMIT ≡ 100000
greatest_step = refl

shortest_pitch : IsStep 1
shortest_pitch = (lit≤ tt, lit≤ tt)

longest_pitch : IsStep 100000
longest_pitch = (lit≤ tt, lit≤ tt)

no_pitch : IsStep 0 → ⊥
no_pitch h = absurd (omega (arith, h.0))

pitch_too_long : IsStep 100001 → ⊥
pitch_too_long h = absurd (omega (arith, h.1))

columns_and_rows : COLUMN_LIMIT ≡ 16384
columns_and_rows = refl

layers : LAYER_LIMIT ≡ 65535
layers = refl

facets : FACET_LIMIT ≡ 1048576
facets = refl

corners : CORNER_LIMIT ≡ 3145728
corners = refl
