-- Parts of a text that are put one after another, and a text that is flushed then.
use Rattle.std.proofs.Common.{◌≡◌, ◌∙◌, ℕ, ◌+◌, ◌-◌, ◌<◌, List, [], ◌++◌, Option, arith, inl, inr, length, refl, subst, sym}
use Rattle.std.specs.Prelude.{Bool, true, Err, IfErr, IsErrAnd, Ok, OnOk, Result}
use Rattle.std.specs.Io.KnownBytes.{Appends, Keeps}
use Rattle.std.proofs.KnownBytes.{Appends-kept}
use Rattle.std.proofs.lemmas.List.{drop_all, take_all}
use Rattle.std.proofs.lemmas.Result.{IfErr-weaker, on_ok_weaker}
use Rattle.devices.specs.Devices.{AppendsFirst, Fails}
use Rattle.devices.specs.declared.writing.WriteFault.{WriteFault}
use Rattle.raster.proofs.lemmas.Written.{IsUnderWay, all-counted, all-out, more-out, moved, taken-on, written-within}
use Rattle.devices.specs.Sent.{IsCutOff}
use Rattle.devices.specs.Transcript.{Transcript, transcript}
use Rattle.stlslice.specs.Put.{IsPut}
use Rattle.stlslice.specs.Writing.{IsMadeAndWritten, IsUntouched, IsUnwritten, IsWritten}
use Rattle.stlslice.specs.declared.run_fault.RunFault.{RunFault}
use Rattle.stlslice.specs.declared.run_fault.RunFault.TheVariants as fault

-- the next part is to go out
pub with-part : (old now : Option (List ℕ)) (text : List ℕ) (before written : ℕ) (part rest left : List ℕ)
    → IsUnderWay old now text before written [] left → left ≡ part ++ rest → IsUnderWay old now text before written part rest
with-part old now text before written part rest left h next = taken-on old now text before written [] part part rest left h next refl

-- A part was put, or not, by what one call says of it.

pub put-whole : (total : ℕ) (sink : Transcript) (part : List ℕ) (before : ℕ) → total ≡ before + length part → Appends sink.old sink.new part
    → sink.failed ≡ sink.failed_before → IsPut (Ok total) sink part before
put-whole total sink part before is out same = record {
  ok = out;
  total = is;
  same = same;
  err = tt;
}

pub put-none : (f : WriteFault) (sink : Transcript) (part : List ℕ) (before written : ℕ) → f.written ≡ before + written
    → AppendsFirst sink.old sink.new written part → written < length part → Fails sink.failed_before sink.failed → IsPut (Err f) sink part before
put-none f sink part before written is out within failed =
    let more : written ≡ f.written - before = omega (arith, is) in
    record {
      ok = tt;
      total = tt;
      same = tt;
      err = record {
        low = omega (arith, is);
        high = omega (arith, is, within);
        out = subst (λ (n : ℕ). AppendsFirst sink.old sink.new n part) more out;
        failed = failed;
      };
    }

-- it is put
pub put-on : (old now new : Option (List ℕ)) (before_it after : ℕ) (text : List ℕ) (before written total : ℕ) (part rest : List ℕ)
    → IsUnderWay old now text before written part rest → IsPut (Ok total) (transcript now new before_it after) part written
    → IsUnderWay old new text before total [] rest
put-on old now new before_it after text before written total part rest h put =
    let size : total - written ≡ length part = omega (arith, put.total) in
    moved old now new text before written total part [] rest h (omega (arith, put.total)) (omega (arith, put.total))
    (subst (λ (l : List ℕ). Appends now new l) (sym (take_all (total - written) part (omega (arith, size)))) put.ok)
    (sym (drop_all (total - written) part (omega (arith, size))))

-- it can't be put
put-failed : (f : WriteFault) (sink : Transcript) (now : Option (List ℕ)) (count : ℕ) (text : List ℕ) (before written : ℕ) (part rest : List ℕ)
    → IsUnderWay sink.old now text before written part rest → count ≡ sink.failed_before
    → IsPut (Err f) (transcript now sink.new count sink.failed) part written → IsPut (Err f) sink text before
put-failed f sink now count text before written part rest h same put =
    let cut = put.err in
    record {
      ok = tt;
      total = tt;
      same = tt;
      err = record {
        low = omega (arith, h.low, cut.low);
        high = written-within sink.old now text before written f.written part rest h cut.high;
        out = more-out sink.old now sink.new text before written f.written part rest h cut.low (omega (arith, cut.high)) cut.out;
        failed = subst (λ (n : ℕ). Fails n sink.failed) same cut.failed;
      };
    }

-- and its fault is passed on
pub put-early : (r : Result ℕ WriteFault) (f : WriteFault) (sink : Transcript) (now : Option (List ℕ)) (count : ℕ) (text : List ℕ) (before written : ℕ)
    (part rest : List ℕ) → IsUnderWay sink.old now text before written part rest → count ≡ sink.failed_before
    → IsPut (Err f) (transcript now sink.new count sink.failed) part written → IsErrAnd r (λ x. x ≡ f) → IsPut r sink text before
put-early (Ok n) f sink now count text before written part rest h same put is = absurd is
put-early (Err x) f sink now count text before written part rest h same put is =
    subst (λ (y : WriteFault). IsPut (Err y) sink text before) (sym is) (put-failed f sink now count text before written part rest h same put)

-- all parts are out
pub put-all : (sink : Transcript) (text : List ℕ) (before written : ℕ) → IsUnderWay sink.old sink.new text before written [] []
    → sink.failed ≡ sink.failed_before → IsPut (Ok written) sink text before
put-all sink text before written h same =
    let counted = all-counted sink.old sink.new text before written [] [] h in
    record {
      ok = subst (λ (l : List ℕ). Appends sink.old sink.new l) (take_all (written - before) text (omega (arith, counted))) h.out;
      total = omega (arith, counted);
      same = same;
      err = tt;
    }

-- or not, as the last part is
pub put-last : (r : Result ℕ WriteFault) (sink : Transcript) (now : Option (List ℕ)) (count : ℕ) (text : List ℕ) (before written : ℕ) (part : List ℕ)
    → IsUnderWay sink.old now text before written part [] → count ≡ sink.failed_before
    → IsPut r (transcript now sink.new count sink.failed) part written → IsPut r sink text before
put-last (Ok total) sink now count text before written part h same put = record {
  ok = all-out sink.old now sink.new text before written part h put.ok;
  total = omega (arith, put.total, all-counted sink.old now text before written part [] h);
  same = put.same ∙ same;
  err = tt;
}
put-last (Err f) sink now count text before written part h same put = put-failed f sink now count text before written part [] h same put

-- all of a text is out: what is told if its flush fails
flush_failed : {T : Type 0} (r : Result T RunFault) (sink : Transcript) (text : List ℕ) (put : Option (List ℕ)) (written count : ℕ)
    → Appends sink.old put text → Keeps put sink.new → written ≡ length text → count ≡ sink.failed_before
    → IfErr r (λ f. (f ≡ fault.Write written) × Fails count sink.failed) → IfErr r (IsUnwritten sink text)
flush_failed r sink text put written count out kept whole same =
    let first : AppendsFirst sink.old sink.new written text =
    subst (λ (l : List ℕ). Appends sink.old sink.new l) (sym (take_all written text (omega (arith, whole))))
    (Appends-kept sink.old put sink.new text out kept) in
    IfErr-weaker r (λ f. (f ≡ fault.Write written) × Fails count sink.failed) (IsUnwritten sink text)
    (λ f h. (written, h.0, omega (arith, whole), first, subst (λ (n : ℕ). Fails n sink.failed) same h.1))

-- A whole text that was put is flushed, or not.
pub written-all : {T : Type 0} (r : Result T RunFault) (sink : Transcript) (is_settled : Bool) (text : List ℕ) (put : Option (List ℕ)) (count written : ℕ)
    → IsPut (Ok written) (transcript sink.old put sink.failed_before count) text 0 → OnOk r (is_settled ≡ true) → Keeps put sink.new
    → OnOk r (sink.failed ≡ count) → IfErr r (λ f. (f ≡ fault.Write written) × Fails count sink.failed) → IsWritten r sink is_settled text
written-all r sink is_settled text put count written h flushed kept same err = record {
  flushed = flushed;
  ok = on_ok_weaker r (λ _. Appends-kept sink.old put sink.new text h.ok kept) flushed;
  same = on_ok_weaker r (λ counted. counted ∙ h.same) same;
  err = flush_failed r sink text put written count h.ok kept (omega (arith, h.total)) h.same err;
}

-- It could not be put.
pub written-early : {T : Type 0} (r : Result T RunFault) (sink : Transcript) (is_settled : Bool) (text : List ℕ) (f : WriteFault)
    → IsPut (Err f) sink text 0 → IsErrAnd r (λ x. x ≡ fault.Write f.written) → IsWritten r sink is_settled text
written-early (Ok x) sink is_settled text f h is = absurd is
written-early (Err x) sink is_settled text f h is =
    let all : f.written - 0 ≡ f.written = omega arith in
    record {
      flushed = tt;
      ok = tt;
      same = tt;
      err = (f.written, is, omega (arith, h.err.high), rw all at h.err.out, h.err.failed);
    }

-- the same where a part of it was cut off
pub written-part : {T : Type 0} (r : Result T RunFault) (f : WriteFault) (sink : Transcript) (is_settled : Bool) (now : Option (List ℕ)) (count : ℕ)
    (text : List ℕ) (written : ℕ) (part rest : List ℕ) → IsUnderWay sink.old now text 0 written part rest → count ≡ sink.failed_before
    → IsCutOff (transcript now sink.new count sink.failed) part written f.written → IsErrAnd r (λ x. x ≡ fault.Write f.written)
    → IsWritten r sink is_settled text
written-part r f sink is_settled now count text written part rest h same cut =
    written-early r sink is_settled text f
    (put-failed f sink now count text 0 written part rest h same (record { ok = tt; total = tt; same = tt; err = cut }))

-- A text that took memory was written, or there was none.

pub made-written : {T : Type 0} (r : Result T RunFault) (sink : Transcript) (is_settled : Bool) (text : List ℕ) → IsWritten r sink is_settled text
    → IsMadeAndWritten r sink is_settled text
made-written (Ok x) sink is_settled text h = record { flushed = h.flushed; ok = h.ok; same = h.same; err = tt }
made-written (Err f) sink is_settled text h = record { flushed = tt; ok = tt; same = tt; err = inr h.err }

pub not-made : {T : Type 0} (r : Result T RunFault) (sink : Transcript) (is_settled : Bool) (text : List ℕ) → IsErrAnd r (λ x. x ≡ fault.Memory)
    → IsUntouched sink → IsMadeAndWritten r sink is_settled text
not-made (Ok x) sink is_settled text is none = absurd is
not-made (Err f) sink is_settled text is none = record { flushed = tt; ok = tt; same = tt; err = inl (is, none) }
