-- How a run ends.
use Rattle.std.proofs.Common.{◌≡◌, ◌≢◌, ◌≤◌, ◌⊎◌, ℕ, List, Option, Some, None, ap, inl, inr, length, refl, sym, subst, ◌∙◌}
use Rattle.std.specs.Prelude.{Bool, true, Err, IfErr, IfSome, IsErrAnd, MatchResult, Ok, OnOk, Result}
use Rattle.std.specs.Io.KnownBytes.{Appends, IsAtEnd, Keeps}
use Rattle.micro_num.specs.declared.unit.Unit.{Unit as LengthUnit}
use Rattle.mesh_weld.specs.Solid.{Solid}
use Rattle.devices.specs.Devices.{AppendsFirst, Fails}
use Rattle.raster.specs.Grid.{Grid}
use Rattle.raster.specs.declared.rule.Rule.{Rule}
use Rattle.build_book.specs.Job.{Job}
use Rattle.task_words.specs.declared.task.Given.{Given}
use Rattle.task_words.specs.declared.task.Task.{Task}
use Rattle.mesh_reading.specs.Loading.{IsInput, IsInputFault, IsMadeOfSource, IsSolidOf}
use Rattle.devices.specs.Transcript.{Transcript}
use Rattle.mesh_reading.specs.declared.read_fault.ReadFault.{ReadFault}
use Rattle.mesh_reading.specs.declared.read_fault.ReadFault.TheVariants as read
use Rattle.stlslice.specs.declared.run_fault.RunFault.{RunFault}
use Rattle.stlslice.specs.declared.run_fault.RunFault.TheVariants as fault
use Rattle.stlslice.specs.Outcome.{IsOutcome, grid_for, slicing}
use Rattle.stlslice.specs.Run.{IsRun, IsRunFault, OfInput}
use Rattle.stlslice.specs.RunFault.{of_read}
use Rattle.stlslice.specs.Writing.{IsUntouched, IsUnwritten}
use Rattle.stlslice.proofs.lemmas.Faults.{IsReadingFault, IsWorkFault, by_input, failed_read, not_written}
use Rattle.stlslice.proofs.lemmas.Slicing.{slicing_there}
use Rattle.stlslice.specs.SlicedText.{sliced_text}
use Rattle.stlslice.specs.declared.write.Output.{Output}
use Rattle.std.proofs.lemmas.Result.{IfErr-at_err, IfErr-weaker, on_ok_weaker}
use Rattle.stlslice.proofs.lemmas.Bytes.{each, of_input, of_some}
use Rattle.stlslice.proofs.lemmas.OneAnswer.{one_outcome}

-- nothing was written, or a part of the outcome was
abbrev IsRunEnd : Task → List ℕ → Transcript → RunFault → Type 0
IsRunEnd t input transcript f =
    (IsWorkFault t input f × IsUntouched transcript) ⊎ ((text : List ℕ) × IsOutcome t input (Ok text) × IsUnwritten transcript text f)

pub keeps_self : (a : Option (List ℕ)) → Keeps a a
keeps_self None = tt
keeps_self (Some xs) = refl

pub no_memory : (t : Task) (input : List ℕ) (f : RunFault) → f ≡ fault.Memory → IsWorkFault t input f
no_memory t input f is = rw is (tt, (λ e. cc), (λ w e. cc))

-- where a fault is passed on before the first byte is written, the run ends with it
stopped : {T : Type 0} (r : Result T RunFault) (t : Task) (input : List ℕ) (transcript : Transcript) (f : RunFault) → IsUntouched transcript
    → IsWorkFault t input f → IsErrAnd r (λ x. x ≡ f) → IfErr r (IsRunEnd t input transcript)
stopped (Ok x) t input transcript f kept known is = tt
stopped (Err x) t input transcript f kept known is = inl (rw is known, kept)

-- an output of the job is the outcome
pub sliced_there : (unit : LengthUnit) (pitch layer : ℕ) (rule : Rule) (workers : ℕ) (given : Option Given) (out : Output) (input : List ℕ)
    (solid : Solid) (g : Grid) (job : Job) → IsSolidOf unit input solid → grid_for given pitch layer solid.facets ≡ Ok g
    → job ≡ record { solid = solid; grid = g; rule = rule }
    → IsOutcome (slicing unit pitch layer rule workers given out) input (Ok (sliced_text out job.grid job.rule job.solid.facets))
sliced_there unit pitch layer rule workers given out input solid g job s placed is =
    slicing_there unit pitch layer rule workers given out input solid (Ok (sliced_text out job.grid job.rule job.solid.facets)) s
    (rw placed (ap (λ (w : Job). Ok (sliced_text out w.grid w.rule w.solid.facets)) is))

-- where writing an outcome failed, a part of it was written, or nothing since memory ran out
ended : (t : Task) (input : List ℕ) (transcript : Transcript) (text : List ℕ) (f : RunFault) → IsOutcome t input (Ok text)
    → ((f ≡ fault.Memory) × IsUntouched transcript) ⊎ IsUnwritten transcript text f → IsRunEnd t input transcript f
ended t input transcript text f outcome (inl h) = inl (no_memory t input f h.0, h.1)
ended t input transcript text f outcome (inr h) = inr (text, outcome, h)

written_first : (transcript : Transcript) (text : List ℕ) (written : ℕ) → IsUnwritten transcript text (fault.Write written)
    → (written ≤ length text) × AppendsFirst transcript.old transcript.new written text
written_first transcript text written h =
    let is : fault.Write written ≡ fault.Write h.0 = h.1 in
    let same : h.0 ≡ written = cc in
    subst (λ (w : ℕ). (w ≤ length text) × AppendsFirst transcript.old transcript.new w text) same (h.2, h.3)

first_end : (t : Task) (input : List ℕ) (transcript : Transcript) (written : ℕ) → IsRunEnd t input transcript (fault.Write written)
    → (text : List ℕ) × IsOutcome t input (Ok text) × (written ≤ length text) × AppendsFirst transcript.old transcript.new written text
first_end t input transcript written (inl h) = absurd (h.0.2 written refl)
first_end t input transcript written (inr h) =
    let first = written_first transcript h.0 written h.2 in
    (h.0, h.1, first.0, first.1)

-- Where the outcome is a fault.

abbrev IsRefusal : {T : Type 0} → Result T RunFault → RunFault → Type 0
IsRefusal r own = MatchResult r (λ _. ⊥) (λ f. (f ≡ own) ⊎ (f ≡ fault.Read) ⊎ (f ≡ fault.Memory))

no_text : (t : Task) (input text : List ℕ) (own : RunFault) → IsOutcome t input (Err own) → IsOutcome t input (Ok text) → ⊥
no_text t input text own is h = let e : Ok text ≡ Err own = one_outcome t input (Ok text) (Err own) h is in cc

same_fault : (t : Task) (input : List ℕ) (f own : RunFault) → IsOutcome t input (Err own) → IsOutcome t input (Err f) → f ≡ own
same_fault t input f own is h = let e : Err f ≡ Err own = one_outcome t input (Err f) (Err own) h is in cc

own_fault : (t : Task) (input : List ℕ) (f own : RunFault) → IsOutcome t input (Err own) → IsWorkFault t input f
    → (f ≡ own) ⊎ (f ≡ fault.Read) ⊎ (f ≡ fault.Memory)
own_fault t input fault.Read own is h = inr (inl refl)
own_fault t input (fault.Stl cause) own is h = inl (same_fault t input (fault.Stl cause) own is h.0)
own_fault t input (fault.Open from to there back) own is h = inl (same_fault t input (fault.Open from to there back) own is h.0)
own_fault t input (fault.Grid cause) own is h = inl (same_fault t input (fault.Grid cause) own is h.0)
own_fault t input fault.Memory own is h = inr (inr refl)
own_fault t input (fault.Write written) own is h = absurd (h.2 written refl)
own_fault t input (fault.Outside columns rows layers) own is h =
    inl (same_fault t input (fault.Outside columns rows layers) own is h.0)

refused_end : (t : Task) (input : List ℕ) (transcript : Transcript) (f own : RunFault) → IsOutcome t input (Err own)
    → IsRunEnd t input transcript f → (f ≡ own) ⊎ (f ≡ fault.Read) ⊎ (f ≡ fault.Memory)
refused_end t input transcript f own is (inl h) = own_fault t input f own is h.0
refused_end t input transcript f own is (inr h) = absurd (no_text t input h.0 own is h.1)

-- a run that has read its input ends with this fault, or out of memory
refused : {T : Type 0} (r : Result T RunFault) (t : Task) (input : List ℕ) (old new : Option (List ℕ)) (transcript : Transcript)
    → OnOk r ((text : List ℕ) × IsOutcome t input (Ok text) × Appends old new text) → IfErr r (IsRunEnd t input transcript)
    → (own : RunFault) → IsOutcome t input (Err own) → IsRefusal r own
refused (Ok x) t input old new transcript ok err own is = no_text t input ok.0 own is ok.1
refused (Err f) t input old new transcript ok err own is = refused_end t input transcript f own is err

-- the count of a sink's failed calls stays, unless the run ends with the sink's fault
sound_end : {T : Type 0} (r : Result T RunFault) (t : Task) (input : List ℕ) (transcript : Transcript)
    → OnOk r (transcript.failed ≡ transcript.failed_before) → IfErr r (IsRunEnd t input transcript)
    → ((written : ℕ) → r ≢ Err (fault.Write written)) → transcript.failed ≡ transcript.failed_before
sound_end (Ok x) t input transcript same err differ = same
sound_end (Err f) t input transcript same (inl h) differ = h.1.1
sound_end (Err f) t input transcript same (inr h) differ = absurd (differ h.2.0 (ap Err h.2.1))

-- A run.

failed_reading : {T : Type 0} (r : Result T RunFault) (t : Task) (source sink : Transcript) (settled : Bool) (f : ReadFault)
    → IsErrAnd r (λ x. x ≡ of_read f) → IsInputFault (IsReadingFault t) source.old f
    → (f ≢ read.Read → f ≢ read.Memory → IsAtEnd source.new)
    → (f ≡ read.Read → Fails source.failed_before source.failed) → (f ≢ read.Read → source.failed ≡ source.failed_before)
    → IsUntouched sink → IsRun t r source sink settled
failed_reading (Ok x) t source sink settled f is known whole unread sound kept = absurd is
failed_reading (Err x) t source sink settled f is known whole unread sound kept =
    let unwritten : (written : ℕ) → x ≢ fault.Write written = λ written e. not_written f written (sym is ∙ e) in
    record {
      whole = λ not_read enough. whole (λ e. not_read (ap Err (is ∙ ap of_read e))) (λ e. enough (ap Err (is ∙ ap of_read e)));
      flushed = tt;
      ok = tt;
      fault = rw is (run_fault known);
      only = rw is (own known);
      source_sound = λ other. sound (λ e. other (ap Err (is ∙ ap of_read e)));
      sink_sound = λ _. kept.1;
      unread = λ e. unread (failed_read f (let same : x ≡ fault.Read = cc in sym is ∙ same));
      unwritten = λ written e. absurd (unwritten written (let same : x ≡ fault.Write written = cc in same));
      first = λ written e. absurd (unwritten written (let same : x ≡ fault.Write written = cc in same));
      nothing = λ _. kept.0;
    }
  where
    run_fault : IsInputFault (IsReadingFault t) source.old f → OfInput source.old (λ input. IsRunFault t input (of_read f))
    run_fault (inl e) = rw e (of_some source.old (λ input. IsRunFault t input fault.Read) (λ input. tt))
    run_fault (inr (inl e)) = rw e (of_some source.old (λ input. IsRunFault t input fault.Memory) (λ input. tt))
    run_fault (inr (inr h)) = (h.0, h.1, h.2.0)

    own : IsInputFault (IsReadingFault t) source.old f
        → IfSome source.old (λ input. (o : RunFault) → IsOutcome t input (Err o)
        → (of_read f ≡ o) ⊎ (of_read f ≡ fault.Read) ⊎ (of_read f ≡ fault.Memory))
    own (inl e) = each source.old _ (λ input o is. inr (inl (ap of_read e)))
    own (inr (inl e)) = each source.old _ (λ input o is. inr (inr (ap of_read e)))
    own (inr (inr h)) = of_input source.old h.0
        (λ input. (o : RunFault) → IsOutcome t input (Err o) → (of_read f ≡ o) ⊎ (of_read f ≡ fault.Read) ⊎ (of_read f ≡ fault.Memory)) h.1
        (λ o is. own_fault t h.0 (of_read f) o is h.2)

-- a run ends with a fault of reading its input
pub unready : {T U : Type 0} (r : Result T RunFault) (t : Task) (source sink : Transcript) (settled : Bool) (is_made : List ℕ → U → Type 0)
    (is_own : List ℕ → ReadFault → Type 0) (f : ReadFault) → IsErrAnd r (λ x. x ≡ of_read f) → IsMadeOfSource is_made is_own (Err f) source
    → ((input : List ℕ) → is_own input f → IsReadingFault t input f) → IsUntouched sink → IsRun t r source sink settled
unready r t source sink settled is_made is_own f is reading own kept =
    failed_reading r t source sink settled f is (by_input source.old is_own (IsReadingFault t) f own reading.err)
    (λ not_read enough. reading.whole (λ e. not_read (let same : f ≡ read.Read = cc in same)) (λ e. enough (let same : f ≡ read.Memory = cc in same)))
    (λ e. reading.unread (ap Err e)) (λ other. reading.sound (λ e. other (let same : f ≡ read.Read = cc in same))) kept

run_faults : {T : Type 0} (r : Result T RunFault) (t : Task) (known : Option (List ℕ)) (input : List ℕ) (sink : Transcript) → IsInput known input
    → IfErr r (IsRunEnd t input sink) → IfErr r (λ f. OfInput known (λ bytes. IsRunFault t bytes f))
run_faults (Ok x) t known input sink is err = tt
run_faults (Err f) t known input sink is (inl h) = (input, is, h.0.0)
run_faults (Err f) t known input sink is (inr h) = (input, is, rw h.2.1 tt)

has_read : {T : Type 0} (r : Result T RunFault) (t : Task) (input : List ℕ) (sink : Transcript) → IfErr r (IsRunEnd t input sink) → r ≡ Err fault.Read → ⊥
has_read r t input sink err e = by_end (IfErr-at_err _ e err)
  where
    by_end : IsRunEnd t input sink fault.Read → ⊥
    by_end (inl h) = h.0.1 refl
    by_end (inr h) = let no : fault.Read ≡ fault.Write h.2.0 = h.2.1 in cc

failed_once : {T : Type 0} (r : Result T RunFault) (t : Task) (input : List ℕ) (sink : Transcript) → IfErr r (IsRunEnd t input sink) → (written : ℕ)
    → r ≡ Err (fault.Write written) → Fails sink.failed_before sink.failed
failed_once r t input sink err written e = by_end (IfErr-at_err _ e err)
  where
    by_end : IsRunEnd t input sink (fault.Write written) → Fails sink.failed_before sink.failed
    by_end (inl h) = absurd (h.0.2 written refl)
    by_end (inr h) = h.2.4

wrote_nothing : {T : Type 0} (r : Result T RunFault) (t : Task) (input : List ℕ) (sink : Transcript) → IfErr r (IsRunEnd t input sink)
    → IfErr r (λ f. ((written : ℕ) → f ≢ fault.Write written) → Keeps sink.old sink.new)
wrote_nothing (Ok x) t input sink err = tt
wrote_nothing (Err f) t input sink (inl h) = λ other. h.1.0
wrote_nothing (Err f) t input sink (inr h) = λ other. absurd (other h.2.0 h.2.1)

has_run : {T : Type 0} (r : Result T RunFault) (t : Task) (input : List ℕ) (source sink : Transcript) (settled : Bool)
    → IsInput source.old input → IsAtEnd source.new → source.failed ≡ source.failed_before
    → OnOk r (settled ≡ true) → OnOk r ((text : List ℕ) × IsOutcome t input (Ok text) × Appends sink.old sink.new text)
    → OnOk r (sink.failed ≡ sink.failed_before) → IfErr r (IsRunEnd t input sink) → IsRun t r source sink settled
has_run r t input source sink settled is whole sound flushed ok same err = record {
  whole = λ _ _. whole;
  flushed = flushed;
  ok = on_ok_weaker r (λ out. (input, is, out)) ok;
  fault = run_faults r t source.old input sink is err;
  only = of_input source.old input (λ bytes. (own : RunFault) → IsOutcome t bytes (Err own) → IsRefusal r own) is
      (refused r t input sink.old sink.new sink ok err);
  source_sound = λ _. sound;
  sink_sound = sound_end r t input sink same err;
  unread = λ e. absurd (has_read r t input sink err e);
  unwritten = failed_once r t input sink err;
  first = λ written e. (input, is, first_end t input sink written (IfErr-at_err _ e err));
  nothing = wrote_nothing r t input sink err;
}

no_answer : {T : Type 0} (P : Type 0) (r : Result T RunFault) (f : RunFault) → IsErrAnd r (λ x. x ≡ f) → OnOk r P
no_answer P (Ok x) f e = absurd e
no_answer P (Err x) f e = tt

-- a run ends with a fault after its reading, before the first byte is written
pub ended_early : {T U : Type 0} (r : Result T RunFault) (t : Task) (source sink : Transcript) (settled : Bool) (is_made : List ℕ → U → Type 0)
    (is_own : List ℕ → ReadFault → Type 0) (made : U) (f : RunFault) → IsMadeOfSource is_made is_own (Ok made) source → IsUntouched sink
    → ((input : List ℕ) → is_made input made → IsWorkFault t input f) → IsErrAnd r (λ x. x ≡ f) → IsRun t r source sink settled
ended_early r t source sink settled is_made is_own made f reading kept known e =
    let from = reading.ok in
    has_run r t from.0 source sink settled from.1 (reading.whole (λ e. cc) (λ e. cc)) (reading.sound (λ e. cc))
    (no_answer _ r f e) (no_answer _ r f e) (no_answer _ r f e) (stopped r t from.0 sink f kept (known from.0 from.2) e)

-- a run writes this text after its reading
pub ran : {T U : Type 0} (r : Result T RunFault) (t : Task) (source sink : Transcript) (settled : Bool) (is_made : List ℕ → U → Type 0)
    (is_own : List ℕ → ReadFault → Type 0) (made : U) (text : List ℕ) → IsMadeOfSource is_made is_own (Ok made) source
    → ((input : List ℕ) → is_made input made → IsOutcome t input (Ok text))
    → OnOk r (settled ≡ true) → OnOk r (Appends sink.old sink.new text) → OnOk r (sink.failed ≡ sink.failed_before)
    → IfErr r (λ f. ((f ≡ fault.Memory) × IsUntouched sink) ⊎ IsUnwritten sink text f) → IsRun t r source sink settled
ran r t source sink settled is_made is_own made text reading outcome flushed ok same err =
    let from = reading.ok in
    let known : IsOutcome t from.0 (Ok text) = outcome from.0 from.2 in
    has_run r t from.0 source sink settled from.1 (reading.whole (λ e. cc) (λ e. cc)) (reading.sound (λ e. cc)) flushed
    (on_ok_weaker r (λ out. (text, known, out)) ok) same
    (IfErr-weaker r (λ f. ((f ≡ fault.Memory) × IsUntouched sink) ⊎ IsUnwritten sink text f) (IsRunEnd t from.0 sink)
    (λ f h. ended t from.0 sink text f known h) err)

-- the same, where memory is no fault of the writing
pub ran_line : {T U : Type 0} (r : Result T RunFault) (t : Task) (source sink : Transcript) (settled : Bool) (is_made : List ℕ → U → Type 0)
    (is_own : List ℕ → ReadFault → Type 0) (made : U) (text : List ℕ) → IsMadeOfSource is_made is_own (Ok made) source
    → ((input : List ℕ) → is_made input made → IsOutcome t input (Ok text))
    → OnOk r (settled ≡ true) → OnOk r (Appends sink.old sink.new text) → OnOk r (sink.failed ≡ sink.failed_before)
    → IfErr r (IsUnwritten sink text) → IsRun t r source sink settled
ran_line r t source sink settled is_made is_own made text reading outcome flushed ok same err =
    ran r t source sink settled is_made is_own made text reading outcome flushed ok same
    (IfErr-weaker r (IsUnwritten sink text) (λ f. ((f ≡ fault.Memory) × IsUntouched sink) ⊎ IsUnwritten sink text f) (λ f h. inr h) err)
