-- A round that is filled while facets are welded.
use Rattle.std.proofs.Common.{◌≡◌, ◌∙◌, ◌+◌, ◌≤◌, ◌++◌, ℕ, List, Option, ap, arith, drop, false, inl, inr, length, subst, sym, take, true}
use Rattle.std.specs.Prelude.{Err, IfErr, IsErrAnd, Ok, OnOk, Result}
use Rattle.std.specs.Result.{result_and}
use Rattle.std.specs.Io.KnownBytes.{Consumes, IsAtEnd}
use Rattle.std.proofs.Math.Seq.{take-append_seam, take-take}
use Rattle.std.proofs.lemmas.List.{length-append, length-take-le}
use Rattle.devices.specs.Devices.{Fails}
use Rattle.geometry.specs.Facet.{Facet}
use Rattle.geometry.specs.declared.limits.TheConstants.{FACET_LIMIT}
use Rattle.mesh_weld.specs.Welder.{Welder, welder_of}
use Rattle.mesh_reading.specs.Loading.{HasWelded, IsFilled}
use Rattle.mesh_reading.specs.Round.{Round}
use Rattle.mesh_reading.specs.declared.read_fault.ReadFault.{ReadFault}
use Rattle.mesh_reading.specs.declared.read_fault.ReadFault.TheVariants as fault

-- welding fails only if memory runs out, so what filling says of the source holds of the result of both
pub filled_anyway : {S : Type 0} (remaining : S → Option (List ℕ)) (failure_count : S → ℕ) (old new : S) (before after : Round)
    (filled welded : Result (Unit {0}) ReadFault) → IfErr welded (λ f. f ≡ fault.Memory) → IsFilled remaining failure_count old new before after filled
    → IsFilled remaining failure_count old new before after (result_and filled welded)
filled_anyway remaining failure_count old new before after (Ok x) (Ok y) only h = h
filled_anyway remaining failure_count old new before after (Ok x) (Err f) only h = record {
  taken = tt;
  full = tt;
  waits = h.waits;
  kept = h.kept;
  whole = tt;
  unread = λ e. cc;
  sound = λ _. h.sound (λ e. cc);
  only = inr only;
}
filled_anyway remaining failure_count old new before after (Err f) welded only h = h

-- if the result is no fault, the facets were welded
pub welded_too : (filled welded : Result (Unit {0}) ReadFault) (H : Type 0) → OnOk welded H → OnOk (result_and filled welded) H
welded_too (Ok x) welded H h = h
welded_too (Err f) welded H h = tt

-- Filling a round.

-- room that grew has the bytes that it had
pub grown_front : (len : ℕ) (old new : List ℕ) → len ≤ length old → take (length old) new ≡ old → take len new ≡ take len old
grown_front len old new within same = sym (take-take len (length old) new within) ∙ ap (take len) same

-- bytes that were written over all of a room are the room's
written_over : (bytes items : List ℕ) (n : ℕ) → length bytes ≡ n → take n (bytes ++ drop (length bytes) items) ≡ bytes
written_over bytes items n size = ap (λ k. take k (bytes ++ drop (length bytes) items)) (sym size) ∙ take-append_seam bytes (drop (length bytes) items)

-- what was taken off a source, and what was taken off it next
pub taken_on : (start mid new : Option (List ℕ)) (len count n : ℕ) (had given bytes items : List ℕ) → length bytes ≡ n
    → ((s : Option (List ℕ)) → Consumes s mid (take len given) → Consumes s new (take (len + count) bytes))
    → take len given ≡ had → Consumes start mid had → Consumes start new (take (len + count) (take n (bytes ++ drop (length bytes) items)))
taken_on start mid new len count n had given bytes items size more same before =
    subst (λ b. Consumes start new (take (len + count) b)) (sym (written_over bytes items n size)) (more start (subst (Consumes start mid) (sym same) before))

pub within_on : (k n : ℕ) (bytes items : List ℕ) → length bytes ≡ n → k ≤ length bytes → k ≤ length (take n (bytes ++ drop (length bytes) items))
within_on k n bytes items size within = subst (λ b. k ≤ length b) (sym (written_over bytes items n size)) within

pub enough : (wanted len : ℕ) (items : List ℕ) → len ≤ length items → wanted ≤ len → wanted ≤ length (take len items)
enough wanted len items within h = omega (arith, length-take-le len items within)

module _ {S : Type 0} (remaining : S → Option (List ℕ)) (failure_count : S → ℕ) (old new : S) (before after : Round) (more : before.is_last ≡ false)
    (waits : after.wanted ≡ before.wanted) where
  pub filled_round : Consumes (remaining old) (remaining new) after.bytes → failure_count new ≡ failure_count old
      → (after.is_last ≡ false → after.wanted ≤ length after.bytes) → (after.is_last ≡ true → IsAtEnd (remaining new))
      → IsFilled remaining failure_count old new before after (Ok tt)
  filled_round taken sound full end = record {
    taken = taken;
    full = full;
    waits = waits;
    kept = λ e. (cc, cc);
    whole = λ _. end;
    unread = λ e. cc;
    sound = λ _. sound;
    only = tt;
  }

  pub not_filled : (r : Result (Unit {0}) ReadFault) (f : ReadFault) → IsErrAnd r (λ own. own ≡ f) → f ≡ fault.Read
      → Fails (failure_count old) (failure_count new) → IsFilled remaining failure_count old new before after r
  not_filled (Ok x) f is read fails = absurd is
  not_filled (Err own) f is read fails = record {
    taken = tt;
    full = tt;
    waits = waits;
    kept = λ e. (cc, cc);
    whole = tt;
    unread = λ _. fails;
    sound = λ other. absurd (other (ap Err (is ∙ read)));
    only = inl (is ∙ read);
  }

  -- memory is short before the source is read
  pub not_grown : (r : Result (Unit {0}) ReadFault) → IsErrAnd r (λ f. f ≡ fault.Memory) → failure_count new ≡ failure_count old
      → IsFilled remaining failure_count old new before after r
  not_grown (Ok x) short sound = absurd short
  not_grown (Err f) short sound = record {
    taken = tt;
    full = tt;
    waits = waits;
    kept = λ e. (cc, cc);
    whole = tt;
    unread = rw short (λ e. cc);
    sound = λ _. sound;
    only = inr short;
  }

-- ---- facets that a welder is given, which are all of them if there is room
pub welded_given : (facets given : List Facet) (old new : Welder)
    → ((taken : List Facet) → old ≡ welder_of taken → length (taken ++ facets) ≤ FACET_LIMIT → given ≡ facets)
    → ((taken : List Facet) → old ≡ welder_of taken → new ≡ welder_of (taken ++ given)) → HasWelded facets old new
welded_given facets given old new all welded =
    λ taken own few.
    let is : old ≡ welder_of taken = own (omega (arith, few, length-append taken facets)) in
    welded taken is ∙ ap (λ (l : List Facet). welder_of (taken ++ l)) (all taken is few)
