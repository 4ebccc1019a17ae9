-- What is known of a device before and after calls of it.
use Rattle.std.specs.Prelude.{ℕ, List, Option}

-- the bytes that a sink holds or a source has left, if they are known, and the count of failed calls
pub record Transcript : Type 0 where
  pub old : Option (List ℕ)
  pub new : Option (List ℕ)
  pub failed_before : ℕ
  pub failed : ℕ

abbrev pub transcript : Option (List ℕ) → Option (List ℕ) → ℕ → ℕ → Transcript
transcript old new failed_before failed = record { old = old; new = new; failed_before = failed_before; failed = failed }

-- the same, by the bytes and the count of failed calls of the device before and after
abbrev pub transcript_of : {S : Type 0} → (S → Option (List ℕ)) → (S → ℕ) → S → S → Transcript
transcript_of bytes failure_count old new = transcript (bytes old) (bytes new) (failure_count old) (failure_count new)
