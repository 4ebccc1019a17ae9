-- The limits as they are published. Clauses cite their names, so that a constant with another value fails here.
use Rattle.std.proofs.Common.{◌≡◌, refl}
use Rattle.stl_text.specs.declared.word.TheConstants.{WORD_FRONT}

-- what is kept of a cut word, in bytes: one more than the longest text of a number
front_of_a_word : WORD_FRONT ≡ 256
front_of_a_word = refl
