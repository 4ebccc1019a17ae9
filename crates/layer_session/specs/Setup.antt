-- What a file, a text or arrays are opened with.
use Rattle.geometry.specs.Limits.{IsStep}
use Rattle.layer_session.specs.Place.{HasPitch}
use Rattle.layer_session.specs.declared.setup.Setup.{Setup}

-- layer height and pitch are steps
abbrev pub HasSteps : Setup → Type 0
HasSteps s = IsStep s.layer × HasPitch s.place
