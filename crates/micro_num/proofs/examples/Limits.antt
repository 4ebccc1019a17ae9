-- The limits as they are published. Clauses cite their names, so that a constant with another value fails here.
use Rattle.std.proofs.Common.{◌≡◌, ◌*◌, refl}
use Rattle.micro_num.specs.declared.limits.TheConstants.{INCH_FACTOR, WORD_LIMIT}

-- the text of a number, in bytes
word : WORD_LIMIT ≡ 255
word = refl

-- an inch, in micrometres
inch : 100 * INCH_FACTOR ≡ 25400
inch = refl
