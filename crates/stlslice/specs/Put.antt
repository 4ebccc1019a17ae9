-- What the writing of the next part of a text does to a sink.
use Rattle.std.specs.Prelude.{◌≡◌, ◌+◌, ℕ, List, IfErr, IfOk, OnOk, Result, length}
use Rattle.std.specs.Io.KnownBytes.{Appends}
use Rattle.devices.specs.Sent.{IsCutOff}
use Rattle.devices.specs.Transcript.{Transcript}
use Rattle.devices.specs.declared.writing.WriteFault.{WriteFault}

-- A part was put after `before` bytes. The result, or the fault's `written`, is the number of bytes that are out then.
pub record IsPut (result : Result ℕ WriteFault) (sink : Transcript) (part : List ℕ) (before : ℕ) : Type 0 where
  -- all of it went out
  pub ok : OnOk result (Appends sink.old sink.new part)
  pub total : IfOk result (λ total. total ≡ before + length part)
  pub same : OnOk result (sink.failed ≡ sink.failed_before)
  -- or a front of it
  pub err : IfErr result (λ fault. IsCutOff sink part before fault.written)
