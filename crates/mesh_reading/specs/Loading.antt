-- The result of reading an input to its end: what its text spells, or the fault that it ends with.
use Rattle.std.specs.Prelude.{◌≡◌, ◌≢◌, ◌≤◌, ◌⊎◌, ◌++◌, ℕ, Err, IfErr, IfOk, IfSome, List, OnOk, Option, Result, false, length, true}
use Rattle.std.specs.Io.KnownBytes.{Consumes, IsAtEnd}
use Rattle.geometry.specs.Facet.{Facet}
use Rattle.geometry.specs.declared.limits.TheConstants.{FACET_LIMIT}
use Rattle.mesh_weld.specs.Balance.{IsBalanced, IsLeastOpen}
use Rattle.mesh_weld.specs.Welder.{Welder, welder_of}
use Rattle.mesh_weld.specs.Solid.{Solid, solid_of}
use Rattle.mesh_weld.specs.declared.weld_fault.WeldFault.TheVariants as weld
use Rattle.micro_num.specs.declared.unit.Unit.{Unit as LengthUnit}
use Rattle.devices.specs.Devices.{Fails}
use Rattle.stl_text.specs.TextReader.{IsAfter, TextReader}
use Rattle.stl_text.specs.Text.{IsFaultOf, Reads}
use Rattle.stl_text.specs.declared.stl_fault.StlFault.{StlFault}
use Rattle.mesh_reading.specs.Extent.{extent_of}
use Rattle.mesh_reading.specs.Round.{Round}
use Rattle.devices.specs.Transcript.{Transcript}
use Rattle.mesh_reading.specs.declared.extent.Extent.{Extent}
use Rattle.mesh_reading.specs.declared.read_fault.ReadFault.{ReadFault}
use Rattle.mesh_reading.specs.declared.read_fault.ReadFault.TheVariants as fault

-- the closed mesh that a text is
abbrev pub IsSolidOf : LengthUnit → List ℕ → Solid → Type 0
IsSolidOf unit bytes solid =
    (facets : List Facet) × Reads FACET_LIMIT unit bytes facets × IsBalanced facets × (solid ≡ solid_of facets)

-- a text that is no closed mesh: its fault, or its least open edge
abbrev pub IsLoadFault : LengthUnit → List ℕ → ReadFault → Type 0
IsLoadFault unit bytes fault.Read = ⊥
IsLoadFault unit bytes (fault.Stl cause) = IsFaultOf FACET_LIMIT unit bytes cause
IsLoadFault unit bytes (fault.Weld (weld.Open from to there back)) =
    (facets : List Facet) × Reads FACET_LIMIT unit bytes facets × IsLeastOpen facets from to there back
IsLoadFault unit bytes (fault.Weld weld.Memory) = ⊥
IsLoadFault unit bytes fault.Memory = Unit {0}

-- the extent of the facets that a text spells
abbrev pub IsTextExtent : LengthUnit → List ℕ → Extent → Type 0
IsTextExtent unit bytes extent = (facets : List Facet) × Reads FACET_LIMIT unit bytes facets × (extent ≡ extent_of facets)

-- a text that does not read as facets
abbrev pub IsMisread : LengthUnit → List ℕ → ReadFault → Type 0
IsMisread unit bytes f = (cause : StlFault) × (f ≡ fault.Stl cause) × IsFaultOf FACET_LIMIT unit bytes cause

-- the welder has these facets, if they are no more than a mesh may have
abbrev pub AreWelded : List Facet → Welder → Type 0
AreWelded taken welder = length taken ≤ FACET_LIMIT → welder ≡ welder_of taken

-- one welder has the facets of another, and these after them
abbrev pub HasWelded : List Facet → Welder → Welder → Type 0
HasWelded facets old new = (taken : List Facet) → AreWelded taken old → AreWelded (taken ++ facets) new

-- `says` holds of each text that the reader was fed, if the welder has exactly the facets that were taken off the reader.
abbrev pub OfText : Welder → TextReader → (LengthUnit → List ℕ → Type 0) → Type 0
OfText welder reader says = (unit : LengthUnit) (taken : List Facet) (fed : List ℕ) → AreWelded taken welder
    → IsAfter FACET_LIMIT unit taken reader fed → says unit fed

-- a reader was fed exactly the bytes that were taken from a source since the start, and these facets were taken off it
abbrev pub IsFedBySource : LengthUnit → List Facet → TextReader → Option (List ℕ) → Option (List ℕ) → Type 0
IsFedBySource unit taken reader start now = (fed : List ℕ) × Consumes start now fed × IsAfter FACET_LIMIT unit taken reader fed

-- a welder has the facets that were taken off a reader, which was fed exactly the bytes that were taken from a source since the
-- start
abbrev pub IsWeldedAsFed : LengthUnit → TextReader → Welder → Option (List ℕ) → Option (List ℕ) → Type 0
IsWeldedAsFed unit reader welder start now = (taken : List Facet) × AreWelded taken welder × IsFedBySource unit taken reader start now

-- these bytes are all of the input, if that is known
abbrev pub IsInput : Option (List ℕ) → List ℕ → Type 0
IsInput known bytes = IfSome known (λ input. bytes ≡ input)

-- a failed read, out of memory, or a fault of the input
abbrev pub IsInputFault : (List ℕ → ReadFault → Type 0) → Option (List ℕ) → ReadFault → Type 0
IsInputFault is known f = (f ≡ fault.Read) ⊎ (f ≡ fault.Memory) ⊎ ((input : List ℕ) × IsInput known input × is input f)

-- What a call that reads a source to its end promises, by what is made of an input, and by which faults are an input's own.
pub record IsMadeOfSource {T : Type 0} (is_made : List ℕ → T → Type 0) (is_own : List ℕ → ReadFault → Type 0) (result : Result T ReadFault)
    (source : Transcript) : Type 0 where
  -- its result is made of the whole input
  pub ok : IfOk result (λ made. (input : List ℕ) × IsInput source.old input × is_made input made)
  pub err : IfErr result (IsInputFault is_own source.old)
  -- the source is at its end, also after a fault of the input
  pub whole : result ≢ Err fault.Read → result ≢ Err fault.Memory → IsAtEnd source.new
  -- exactly one call of the source failed if a failed read is the result, else none
  pub unread : result ≡ Err fault.Read → Fails source.failed_before source.failed
  pub sound : result ≢ Err fault.Read → source.failed ≡ source.failed_before

-- What a call promises that fills a round anew from a source. `before` and `after` are the round.
pub record IsFilled {S : Type 0} (remaining : S → Option (List ℕ)) (failure_count : S → ℕ) (old new : S) (before after : Round)
    (result : Result (Unit {0}) ReadFault) : Type 0 where
  -- the round has what was taken off the source, exactly once and in its order
  pub taken : OnOk result (Consumes (remaining old) (remaining new) after.bytes)
  -- unless it is the last, the round has all that it waits for
  pub full : OnOk result (after.is_last ≡ false → after.wanted ≤ length after.bytes)
  pub waits : after.wanted ≡ before.wanted
  -- nothing is read after the last round
  pub kept : before.is_last ≡ true → (new ≡ old) × (after.is_last ≡ true)
  pub whole : OnOk result (before.is_last ≡ false → after.is_last ≡ true → IsAtEnd (remaining new))
  -- exactly one call of the source failed if a failed read is the result, else none
  pub unread : result ≡ Err fault.Read → Fails (failure_count old) (failure_count new)
  pub sound : result ≢ Err fault.Read → failure_count new ≡ failure_count old
  pub only : IfErr result (λ f. (f ≡ fault.Read) ⊎ (f ≡ fault.Memory))

-- What a call promises that reads a source to its end. It feeds a reader with the source, and adds the facets that it takes off
-- the reader to a welder.
pub record IsReadToEnd {S : Type 0} (remaining : S → Option (List ℕ)) (failure_count : S → ℕ) (old new : S) (reader_old reader : TextReader)
    (welder_old welder : Welder) (result : Result (Unit {0}) ReadFault) : Type 0 where
  pub fed : OnOk result ((unit : LengthUnit) (start : Option (List ℕ)) → IsWeldedAsFed unit reader_old welder_old start (remaining old)
      → IsWeldedAsFed unit reader welder start (remaining new))
  pub whole : OnOk result (IsAtEnd (remaining new))
  -- exactly one call of the source failed if a failed read is the result, else none
  pub unread : result ≡ Err fault.Read → Fails (failure_count old) (failure_count new)
  pub sound : result ≢ Err fault.Read → failure_count new ≡ failure_count old
  pub only : IfErr result (λ f. (f ≡ fault.Read) ⊎ (f ≡ fault.Memory))

-- The promise of a call that makes a closed mesh of a whole text.
pub record IsLoaded (unit : LengthUnit) (bytes : List ℕ) (result : Result Solid ReadFault) : Type 0 where
  pub ok : IfOk result (IsSolidOf unit bytes)
  pub err : IfErr result (IsLoadFault unit bytes)
  -- memory aside, a closed mesh is returned as such
  pub only : (facets : List Facet) → Reads FACET_LIMIT unit bytes facets → IsBalanced facets → IfErr result (λ f. f ≡ fault.Memory)

-- What a call promises that makes a welder of all facets of a whole text.
pub record IsAllWelded (unit : LengthUnit) (bytes : List ℕ) (result : Result Welder ReadFault) : Type 0 where
  pub ok : IfOk result (λ welder. (facets : List Facet) × Reads FACET_LIMIT unit bytes facets × (welder ≡ welder_of facets))
  pub err : IfErr result (IsLoadFault unit bytes)
  -- memory aside, a text that reads as facets is returned as such
  pub only : (facets : List Facet) → Reads FACET_LIMIT unit bytes facets → IfErr result (λ f. f ≡ fault.Memory)
