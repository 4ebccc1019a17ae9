-- What a run promises, by what is left of its source and what its sink holds.
use Rattle.std.specs.Prelude.{◌≡◌, ◌≢◌, ◌⊎◌, ℕ, ◌≤◌, Bool, List, MatchResult, Option, Result, Err, IfErr, IfSome, Ok, OnOk, length, true}
use Rattle.std.specs.Io.KnownBytes.{Appends, IsAtEnd, Keeps}
use Rattle.devices.specs.Devices.{AppendsFirst, Fails}
use Rattle.devices.specs.Transcript.{Transcript}
use Rattle.mesh_reading.specs.Loading.{IsInput}
use Rattle.task_words.specs.declared.task.Task.{Task}
use Rattle.stlslice.specs.declared.run_fault.RunFault.{RunFault}
use Rattle.stlslice.specs.declared.run_fault.RunFault.TheVariants as cause
use Rattle.stlslice.specs.Outcome.{IsOutcome}

-- a fault of the input is its outcome; the others are of a device or of memory
abbrev pub IsRunFault : Task → List ℕ → RunFault → Type 0
IsRunFault t input cause.Read = Unit {0}
IsRunFault t input (cause.Stl of_text) = IsOutcome t input (Err (cause.Stl of_text))
IsRunFault t input (cause.Open from to there back) = IsOutcome t input (Err (cause.Open from to there back))
IsRunFault t input (cause.Grid of_grid) = IsOutcome t input (Err (cause.Grid of_grid))
IsRunFault t input cause.Memory = Unit {0}
IsRunFault t input (cause.Write written) = Unit {0}
IsRunFault t input (cause.Outside columns rows layers) = IsOutcome t input (Err (cause.Outside columns rows layers))

-- `says` holds of an input, which is all that the source had if that is known
abbrev pub OfInput : Option (List ℕ) → (List ℕ → Type 0) → Type 0
OfInput known says = (input : List ℕ) × IsInput known input × says input

-- What a run of a task promises. `is_settled` is whether the sink says that all is flushed. Where the source is unknown, a known
-- sink still has the outcome's text of some input, or its first bytes.
pub record IsRun {T : Type 0} (t : Task) (result : Result T RunFault) (source sink : Transcript) (is_settled : Bool) : Type 0 where
  -- all was read, also if the run ends with a fault of its text, unless reading or memory failed
  pub whole : result ≢ Err cause.Read → result ≢ Err cause.Memory → IsAtEnd source.new
  -- it succeeds only if exactly the text of the outcome was written and flushed
  pub flushed : OnOk result (is_settled ≡ true)
  pub ok : OnOk result (OfInput source.old (λ input. (text : List ℕ) × IsOutcome t input (Ok text) × Appends sink.old sink.new text))
  -- a fault of the input is its outcome, and the others come from a device or from memory
  pub fault : IfErr result (λ f. OfInput source.old (λ input. IsRunFault t input f))
  -- if the outcome is a fault, no other fault of the input comes, and the run does not succeed
  pub only : IfSome source.old (λ input. (own : RunFault) → IsOutcome t input (Err own)
      → MatchResult result (λ _. ⊥) (λ f. (f ≡ own) ⊎ (f ≡ cause.Read) ⊎ (f ≡ cause.Memory)))
  -- a device's count of failed calls stays, unless the run ends with this device's fault: then exactly one call failed
  pub source_sound : result ≢ Err cause.Read → source.failed ≡ source.failed_before
  pub sink_sound : ((written : ℕ) → result ≢ Err (cause.Write written)) → sink.failed ≡ sink.failed_before
  pub unread : result ≡ Err cause.Read → Fails source.failed_before source.failed
  pub unwritten : (written : ℕ) → result ≡ Err (cause.Write written) → Fails sink.failed_before sink.failed
  -- after a fault of the output its first `written` bytes went out; after any other fault nothing did
  pub first : (written : ℕ) → result ≡ Err (cause.Write written) → OfInput source.old (λ input.
      (text : List ℕ) × IsOutcome t input (Ok text) × (written ≤ length text) × AppendsFirst sink.old sink.new written text)
  pub nothing : IfErr result (λ f. ((written : ℕ) → f ≢ cause.Write written) → Keeps sink.old sink.new)
