-- The layout as it is published. Definitions cite the names, so that a constant with another value fails here.
use Rattle.std.proofs.Common.{◌≡◌, refl}
use Rattle.binary_stl.specs.declared.limits.TheConstants.{CORNER_LEN, COUNT_START, FACETS_START, FACET_LEN, NUMBER_LEN, TEXT_LIMIT}

header : COUNT_START ≡ 80
header = refl

count : FACETS_START ≡ 84
count = refl

facet : FACET_LEN ≡ 50
facet = refl

corner : CORNER_LEN ≡ 12
corner = refl

number : NUMBER_LEN ≡ 4
number = refl

text : TEXT_LIMIT ≡ 7579354134
text = refl
