-- A text that is opened in chunks.
use Rattle.std.specs.Prelude.{◌≡◌, ℕ, List, []}
use Rattle.geometry.specs.declared.limits.TheConstants.{FACET_LIMIT}
use Rattle.stl_text.specs.TextReader.{IsAfter, TextReader}
use Rattle.layer_session.specs.declared.setup.Setup.{Setup}

pub record SessionReader : Type 0 where
  pub setup : Setup
  pub reader : TextReader

-- the setup is this one, and these bytes were fed
pub record IsFed (setup : Setup) (r : SessionReader) (fed : List ℕ) : Type 0 where
  pub with_setup : r.setup ≡ setup
  pub after : IsAfter FACET_LIMIT setup.unit [] r.reader fed
