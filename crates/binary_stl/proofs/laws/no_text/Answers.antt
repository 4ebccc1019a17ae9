use Rattle.std.proofs.Common.{◌≡◌, ◌⊎◌, inl, inr, ℕ, ◌<◌, ◌≤◌, arith}
use Rattle.std.specs.Prelude.{◌==◌, ◌&&◌, nat_le, not, slice_index, true}
use Rattle.std.proofs.lemmas.Bool.{and_parts, leb-true, or_cases}
use Rattle.binary_stl.specs.Binary.{is_text_byte}
use Rattle.binary_stl.specs.declared.limits.TheConstants.{COUNT_START, FACETS_START}
use Rattle.binary_stl.proofs.laws.no_text.Goals as goal

-- the least byte of a text is a tab
tab : (byte : ℕ) → is_text_byte byte ≡ true → 9 ≤ byte
tab byte is = by (or_cases (nat_le 9 byte && nat_le byte 13) (nat_le 32 byte && not (byte == 127)) is)
  where
    by : ((nat_le 9 byte && nat_le byte 13) ≡ true) ⊎ ((nat_le 32 byte && not (byte == 127)) ≡ true) → 9 ≤ byte
    by (inl white) = leb-true 9 byte (and_parts (nat_le 9 byte) (nat_le byte 13) white).0
    by (inr other) = omega (arith, leb-true 32 byte (and_parts (nat_le 32 byte) (not (byte == 127)) other).0)

pub returns : goal.returns
returns c = λ bytes text short form.
    let least = λ (place : ℕ) (from : COUNT_START ≤ place) (to : place < FACETS_START).
    tab (slice_index bytes place) (text place from to (omega (arith, form, to))) in
    omega (
      arith,
      form,
      short,
      least 80 (omega arith) (omega arith),
      least 81 (omega arith) (omega arith),
      least 82 (omega arith) (omega arith),
      least 83 (omega arith) (omega arith),
    )
