-- Images that are drawn before they are written.
use Rattle.std.specs.Prelude.{ℕ, List}

-- the bytes of the images so far, and the number of bytes that fit the page
pub record Page : Type 0 where
  pub bytes : List ℕ
  pub room : ℕ
