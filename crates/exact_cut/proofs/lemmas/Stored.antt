-- A number that is stored in the bits of a width and read back keeps its bound.
use Rattle.std.proofs.Common.{ℕ, ℤ, unsigned_abs, to_z, of_z}
use mir.Syntax.{Width}
use Rattle.exact_int.specs.Bounds.{IsAtMost}
use Rattle.exact_int.proofs.lemmas.Sizes.{within, back_of}

pub stored_in : {m : ℕ} (w : Width) (n : ℤ) → IsAtMost m n → IsAtMost m (to_z w (of_z w n))
stored_in {m} w n h = record { at_most = within (unsigned_abs (to_z w (of_z w n))) (unsigned_abs n) m (back_of w n) h.at_most }
