use Rattle.std.proofs.Common.{◌≡◌, ◌+◌, ◌*◌, ◌<◌, ℕ, length}
use Rattle.build_book.specs.Places.{IsTaken, filed_count}
use Rattle.build_book.specs.Book.{IsLawfulBook}
use Rattle.build_book.specs.declared.limits.TheConstants.{STRIPE_LAYERS}
use Rattle.build_book.proofs.places.make_missing.Given as goal

abbrev pub invariant-loop-s : goal.invariant-loop-s
invariant-loop-s g l = record {
  slicer : l.slicer ≡ l.job;
  lawful : IsLawfulBook (record { job = l.job; places = l.places });
  below : (k : ℕ) → k < STRIPE_LAYERS * l.s → k < length l.places → IsTaken l.places k;
  late : l.late + filed_count l.initial.places ≡ filed_count l.places;
}
