-- The bytes of a text that are read together, the number of those that are waited for, and whether none come after them.
use Rattle.std.specs.Prelude.{ℕ, Bool, List, [], false}

pub record Round : Type 0 where
  pub bytes : List ℕ
  pub wanted : ℕ
  pub is_last : Bool

-- a round before anything is read
abbrev pub no_round : ℕ → Round
no_round wanted = record { bytes = []; wanted = wanted; is_last = false }
