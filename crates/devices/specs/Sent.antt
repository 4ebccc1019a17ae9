-- How much of a text went out to a sink. The count of its bytes begins at `before`.
use Rattle.std.specs.Prelude.{◌≡◌, ◌≤◌, ◌<◌, ◌+◌, ◌-◌, ℕ, List, length}
use Rattle.devices.specs.Devices.{AppendsFirst, Fails}
use Rattle.devices.specs.Transcript.{Transcript}

-- the first bytes of a text went out, up to `total`: none, some or all; no call of the sink failed
pub record IsSentTo (sink : Transcript) (text : List ℕ) (before total : ℕ) : Type 0 where
  pub low : before ≤ total
  pub high : total ≤ before + length text
  pub out : AppendsFirst sink.old sink.new (total - before) text
  pub same : sink.failed ≡ sink.failed_before

-- the first bytes of a text went out, up to `written`: fewer than all, since exactly one call of the sink failed
pub record IsCutOff (sink : Transcript) (text : List ℕ) (before written : ℕ) : Type 0 where
  pub low : before ≤ written
  pub high : written < before + length text
  pub out : AppendsFirst sink.old sink.new (written - before) text
  pub failed : Fails sink.failed_before sink.failed
