-- A source that was read to its end.
use Rattle.std.proofs.Common.{◌≡◌, ◌≢◌, ◌⊎◌, ◌∙◌, ◌++◌, ℕ, List, Option, [], ap, inl, inr, refl, subst, sym}
use Rattle.std.specs.Prelude.{Err, IfErr, IfOk, IsErrAnd, Ok, OnOk, Result}
use Rattle.std.specs.Io.KnownBytes.{IsAtEnd}
use Rattle.std.proofs.KnownBytes.{Consumes-nil, Consumes-whole}
use Rattle.std.proofs.lemmas.Result.{IfErr-at_err, IfErr-weaker, IfOk-weaker}
use Rattle.geometry.specs.Facet.{Facet}
use Rattle.geometry.specs.declared.limits.TheConstants.{FACET_LIMIT}
use Rattle.micro_num.specs.declared.unit.Unit.{Unit as LengthUnit}
use Rattle.devices.specs.Devices.{Fails}
use Rattle.stl_text.specs.Text.{Reads}
use Rattle.stl_text.specs.TextReader.{IsAfter, TextReader}
use Rattle.stl_text.proofs.lemmas.OneReading.{one_reading}
use Rattle.mesh_weld.specs.Balance.{IsBalanced}
use Rattle.mesh_weld.specs.Solid.{Solid}
use Rattle.mesh_weld.specs.Welder.{Welder}
use Rattle.mesh_weld.specs.Welding.{IsWeldFault}
use Rattle.mesh_weld.specs.declared.weld_fault.WeldFault.{WeldFault}
use Rattle.mesh_weld.specs.declared.weld_fault.WeldFault.TheVariants as weld
use Rattle.mesh_reading.specs.Loading.{AreWelded, HasWelded, IsFedBySource, IsInput, IsInputFault, IsLoadFault, IsLoaded, IsMadeOfSource, IsMisread, IsReadToEnd, IsSolidOf, IsTextExtent, IsWeldedAsFed, OfText}
use Rattle.devices.specs.Transcript.{Transcript}
use Rattle.mesh_reading.specs.declared.extent.Extent.{Extent}
use Rattle.mesh_reading.proofs.lemmas.Faults.{IsReadingFault, not_read, passed_on, unclosed}
use Rattle.mesh_reading.specs.declared.read_fault.ReadFault.{ReadFault}
use Rattle.mesh_reading.specs.declared.read_fault.ReadFault.TheVariants as fault

-- a new reader was fed with nothing
pub at_start : (unit : LengthUnit) (reader : TextReader) (start : Option (List ℕ)) → IsAfter FACET_LIMIT unit [] reader []
    → IsFedBySource unit [] reader start start
at_start unit reader start is = ([], Consumes-nil start, is)

pub none_made : {T : Type 0} (r : Result T ReadFault) (P : ReadFault → Type 0) (Q : T → Type 0) → IsErrAnd r P → IfOk r Q
none_made (Ok x) P Q h = absurd h
none_made (Err f) P Q h = tt

-- if no welder was made of a text, no mesh is
pub not_welded : (unit : LengthUnit) (fed : List ℕ) (r : Result Solid ReadFault) (f : ReadFault) → IsErrAnd r (λ own. own ≡ f) → IsLoadFault unit fed f
    → ((facets : List Facet) → Reads FACET_LIMIT unit fed facets → f ≡ fault.Memory) → IsLoaded unit fed r
not_welded unit fed r f gives err only = record {
  ok = none_made r _ _ gives;
  err = passed_on r _ _ (λ own is. subst (IsLoadFault unit fed) (sym is) err) gives;
  only = λ facets reads closed. passed_on r _ _ (λ own is. is ∙ only facets reads) gives;
}

-- if no mesh was made of the facets of a text, they are not closed or memory is short
pub not_closed : (unit : LengthUnit) (fed : List ℕ) (taken : List Facet) (r : Result Solid ReadFault) (cause : WeldFault)
    → IsErrAnd r (λ f. (cause ≡ weld.Memory → f ≡ fault.Memory) × (cause ≢ weld.Memory → f ≡ fault.Weld cause))
    → Reads FACET_LIMIT unit fed taken → IsWeldFault taken cause → (IsBalanced taken → cause ≡ weld.Memory) → IsLoaded unit fed r
not_closed unit fed taken r cause gives reads known only = record {
  ok = none_made r _ _ gives;
  err = passed_on r _ _ (λ f is. unclosed unit fed taken cause f is reads known) gives;
  only = λ facets others closed.
      let same : taken ≡ facets = one_reading FACET_LIMIT unit fed taken facets reads others in
      passed_on r _ _ (λ f is. is.0 (only (subst IsBalanced (sym same) closed))) gives;
}

-- a welder has the facets that were taken off a reader, and those that were taken off it next
pub welded_on : (unit : LengthUnit) (start old new : Option (List ℕ)) (reader_old reader : TextReader) (welder_old welder : Welder)
    (facets items : List Facet) → items ≡ facets → HasWelded items welder_old welder
    → ((taken : List Facet) → IsFedBySource unit taken reader_old start old → IsFedBySource unit (taken ++ facets) reader start new)
    → IsWeldedAsFed unit reader_old welder_old start old → IsWeldedAsFed unit reader welder start new
welded_on unit start old new reader_old reader welder_old welder facets items same welds feeds before = (
  before.0 ++ facets,
  subst (λ fs. AreWelded (before.0 ++ fs) welder) same (welds before.0 before.1),
  feeds before.0 before.2,
)

no_read : (P : Type 0) → (P → ⊥) → (fault.Read ≡ fault.Memory) ⊎ P → ⊥
no_read P none (inl e) = cc
no_read P none (inr h) = none h

-- if all was read, the result is made of the input, or a fault of it, or memory is short
read_as : {T : Type 0} (r : Result T ReadFault) (is_made : List ℕ → T → Type 0) (is_own : List ℕ → ReadFault → Type 0) (source : Transcript)
    (input : List ℕ) → IsInput source.old input → IsAtEnd source.new → source.failed ≡ source.failed_before → (is_own input fault.Read → ⊥)
    → IfOk r (is_made input) → IfErr r (λ f. (f ≡ fault.Memory) ⊎ is_own input f) → IsMadeOfSource is_made is_own r source
read_as r is_made is_own source input is end sound none ok err = record {
  ok = IfOk-weaker r _ _ (λ made h. (input, is, h)) ok;
  err = IfErr-weaker r _ _ (λ f h. known f h) err;
  whole = λ _ _. end;
  unread = λ e. absurd (no_read (is_own input fault.Read) none (IfErr-at_err _ e err));
  sound = λ _. sound;
}
  where
    known : (f : ReadFault) → (f ≡ fault.Memory) ⊎ is_own input f → IsInputFault is_own source.old f
    known f (inl e) = inr (inl e)
    known f (inr h) = inr (inr (input, is, h))

-- at the end of the source, what the reader was fed with is the input
read_whole : {T : Type 0} (r : Result T ReadFault) (is_made : List ℕ → T → Type 0) (is_own : List ℕ → ReadFault → Type 0) (source : Transcript)
    (unit : LengthUnit) (taken : List Facet) (reader : TextReader) → IsFedBySource unit taken reader source.old source.new → IsAtEnd source.new
    → source.failed ≡ source.failed_before → ((input : List ℕ) → is_own input fault.Read → ⊥)
    → ((input : List ℕ) → IsAfter FACET_LIMIT unit taken reader input
    → IfOk r (is_made input) × IfErr r (λ f. (f ≡ fault.Memory) ⊎ is_own input f))
    → IsMadeOfSource is_made is_own r source
read_whole r is_made is_own source unit taken reader fed end sound none comes =
    let input : List ℕ = fed.0 in
    let is : IsInput source.old input = Consumes-whole source.old source.new input (λ (known : List ℕ). input ≡ known) fed.1 end refl in
    let made = comes input fed.2 in
    read_as r is_made is_own source input is end sound (none input) made.0 made.1

-- a mesh is made of all that was read
pub solid_read : (r : Result Solid ReadFault) (source : Transcript) (unit : LengthUnit) (taken : List Facet) (reader : TextReader) (welder : Welder)
    → OfText welder reader (λ of fed. IsLoaded of fed r) → AreWelded taken welder → IsFedBySource unit taken reader source.old source.new
    → IsAtEnd source.new → source.failed ≡ source.failed_before → IsMadeOfSource (IsSolidOf unit) (IsLoadFault unit) r source
solid_read r source unit taken reader welder loads welded fed end sound =
    read_whole r (IsSolidOf unit) (IsLoadFault unit) source unit taken reader fed end sound (λ input h. not_read unit input fault.Read h refl)
    (λ input is.
    let loaded = loads unit taken input welded is in
    (loaded.ok, IfErr-weaker r (IsLoadFault unit input) (λ f. (f ≡ fault.Memory) ⊎ IsLoadFault unit input f) (λ f h. inr h) loaded.err))

-- an extent is that of all that was read
pub extent_read : (r : Result Extent ReadFault) (source : Transcript) (unit : LengthUnit) (taken : List Facet) (reader : TextReader)
    → IsFedBySource unit taken reader source.old source.new → IsAtEnd source.new → source.failed ≡ source.failed_before
    → ((input : List ℕ) → IsAfter FACET_LIMIT unit taken reader input → IfOk r (IsTextExtent unit input) × IfErr r (IsReadingFault unit input))
    → IsMadeOfSource (IsTextExtent unit) (IsMisread unit) r source
extent_read r source unit taken reader fed end sound comes =
    read_whole r (IsTextExtent unit) (IsMisread unit) source unit taken reader fed end sound
    (λ input h. let no : fault.Read ≡ fault.Stl h.0 = h.1 in cc) comes

-- if reading stopped, a read failed or memory is short
pub stopped_as : {T : Type 0} (r : Result T ReadFault) (is_made : List ℕ → T → Type 0) (is_own : List ℕ → ReadFault → Type 0) (source : Transcript)
    (f : ReadFault) → IsErrAnd r (λ x. x ≡ f) → (f ≡ fault.Read) ⊎ (f ≡ fault.Memory)
    → (f ≡ fault.Read → Fails source.failed_before source.failed) → (f ≢ fault.Read → source.failed ≡ source.failed_before)
    → IsMadeOfSource is_made is_own r source
stopped_as (Ok x) is_made is_own source f is why unread sound = absurd is
stopped_as (Err x) is_made is_own source f is why unread sound = record {
  ok = tt;
  err = rw is (known why);
  whole = λ other short. absurd (neither why (λ e. other (ap Err e)) (λ e. short (ap Err e)));
  unread = λ e. unread (let same : x ≡ fault.Read = cc in sym is ∙ same);
  sound = λ other. sound (λ e. other (ap Err (is ∙ e)));
}
  where
    known : (f ≡ fault.Read) ⊎ (f ≡ fault.Memory) → IsInputFault is_own source.old f
    known (inl e) = inl e
    known (inr e) = inr (inl e)

    neither : (f ≡ fault.Read) ⊎ (f ≡ fault.Memory) → x ≢ fault.Read → x ≢ fault.Memory → ⊥
    neither (inl e) other short = other (is ∙ e)
    neither (inr e) other short = short (is ∙ e)

-- all was read, and the facets that are left are welded, if memory suffices
pub read_to_end : {S : Type 0} (remaining : S → Option (List ℕ)) (failure_count : S → ℕ) (old new : S) (reader_old reader : TextReader)
    (welder_old welder : Welder) (r : Result (Unit {0}) ReadFault) (P : Type 0) → OnOk r P → IfErr r (λ f. f ≡ fault.Memory)
    → (P → (unit : LengthUnit) (start : Option (List ℕ)) → IsWeldedAsFed unit reader_old welder_old start (remaining old)
    → IsWeldedAsFed unit reader welder start (remaining new))
    → IsAtEnd (remaining new) → failure_count new ≡ failure_count old
    → IsReadToEnd remaining failure_count old new reader_old reader welder_old welder r
read_to_end remaining failure_count old new reader_old reader welder_old welder (Ok x) P h only fed end sound = record {
  fed = fed h;
  whole = end;
  unread = λ e. cc;
  sound = λ _. sound;
  only = tt;
}
read_to_end remaining failure_count old new reader_old reader welder_old welder (Err f) P h only fed end sound = record {
  fed = tt;
  whole = tt;
  unread = λ e. cc;
  sound = λ _. sound;
  only = inr only;
}

-- a read failed, or memory is short
pub ended_early : {S : Type 0} (remaining : S → Option (List ℕ)) (failure_count : S → ℕ) (old new : S) (reader_old reader : TextReader)
    (welder_old welder : Welder) (r : Result (Unit {0}) ReadFault) (f : ReadFault) → IsErrAnd r (λ x. x ≡ f)
    → (f ≡ fault.Read) ⊎ (f ≡ fault.Memory) → (f ≡ fault.Read → Fails (failure_count old) (failure_count new))
    → (f ≢ fault.Read → failure_count new ≡ failure_count old)
    → IsReadToEnd remaining failure_count old new reader_old reader welder_old welder r
ended_early remaining failure_count old new reader_old reader welder_old welder (Ok x) f is why unread sound = absurd is
ended_early remaining failure_count old new reader_old reader welder_old welder (Err x) f is why unread sound = record {
  fed = tt;
  whole = tt;
  unread = λ e. unread (let same : x ≡ fault.Read = cc in sym is ∙ same);
  sound = λ other. sound (λ e. other (ap Err (is ∙ e)));
  only = rw is why;
}

-- no call of the source failed, and memory is short
pub short_of_memory : {S : Type 0} (remaining : S → Option (List ℕ)) (failure_count : S → ℕ) (old new : S) (reader_old reader : TextReader)
    (welder_old welder : Welder) → failure_count new ≡ failure_count old
    → IsReadToEnd remaining failure_count old new reader_old reader welder_old welder (Err fault.Memory)
short_of_memory remaining failure_count old new reader_old reader welder_old welder sound =
    ended_early remaining failure_count old new reader_old reader welder_old welder (Err fault.Memory) fault.Memory refl (inr refl) (λ e. cc) (λ _. sound)
