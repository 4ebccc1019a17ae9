-- What the writing of a text does to a sink, also if it fails.
use Rattle.std.specs.Prelude.{◌≡◌, ◌≤◌, ◌⊎◌, ℕ, Bool, true, List, IfErr, OnOk, Result, length}
use Rattle.std.specs.Io.KnownBytes.{Appends, Keeps}
use Rattle.devices.specs.Devices.{AppendsFirst, Fails}
use Rattle.devices.specs.Transcript.{Transcript}
use Rattle.stlslice.specs.declared.run_fault.RunFault.{RunFault}
use Rattle.stlslice.specs.declared.run_fault.RunFault.TheVariants as fault

-- nothing was written, and no call failed
abbrev pub IsUntouched : Transcript → Type 0
IsUntouched transcript = Keeps transcript.old transcript.new × (transcript.failed ≡ transcript.failed_before)

-- the first bytes of a text went out, by the number in the fault, and exactly one call failed
abbrev pub IsUnwritten : Transcript → List ℕ → RunFault → Type 0
IsUnwritten transcript text f =
    (written : ℕ) × (f ≡ fault.Write written) × (written ≤ length text) × AppendsFirst transcript.old transcript.new written text
    × Fails transcript.failed_before transcript.failed

-- a text was written and flushed as a whole, or one call failed
pub record IsWritten {T : Type 0} (result : Result T RunFault) (sink : Transcript) (is_settled : Bool) (text : List ℕ) : Type 0 where
  pub flushed : OnOk result (is_settled ≡ true)
  pub ok : OnOk result (Appends sink.old sink.new text)
  pub same : OnOk result (sink.failed ≡ sink.failed_before)
  pub err : IfErr result (IsUnwritten sink text)

-- the same of a text that takes memory: without it nothing is written
pub record IsMadeAndWritten {T : Type 0} (result : Result T RunFault) (sink : Transcript) (is_settled : Bool) (text : List ℕ) : Type 0 where
  pub flushed : OnOk result (is_settled ≡ true)
  pub ok : OnOk result (Appends sink.old sink.new text)
  pub same : OnOk result (sink.failed ≡ sink.failed_before)
  pub err : IfErr result (λ f. ((f ≡ fault.Memory) × IsUntouched sink) ⊎ IsUnwritten sink text f)
