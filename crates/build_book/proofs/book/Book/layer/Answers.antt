use Rattle.std.proofs.Common.{◌≡◌, ◌≤◌, ℕ, List, Option, Some, None, IfSome, Bor, length, get_or, sym, subst, ap, ◌∙◌}
use Rattle.std.specs.Prelude.{option_copied, slice_get}
use Rattle.std.proofs.lemmas.Option.{none-some, slice_get_past, slice_get_read}
use Rattle.build_book.specs.Job.{Job}
use Rattle.build_book.specs.Layer.{Layer, IsLawful}
use Rattle.build_book.specs.Book.{Book, IsLawfulPlace}
use Rattle.build_book.proofs.book.Book.layer.Given.{Over}
use Rattle.build_book.proofs.book.Book.layer.Goals.{After-as_ref}
use Rattle.build_book.proofs.book.Book.layer.Goals as goal

-- what is read of a lawful place is lawful
lawful_read : (job : Job) (k : ℕ) (found : Option (Bor Layer)) → IsLawfulPlace job k (option_copied found) → IfSome found (λ layer. IsLawful job k layer.now)
lawful_read job k None h = tt
lawful_read job k (Some layer) h = h

-- what is read of a place is its layer, or nothing if it has none
some_read : (places : List (Option Layer)) (k : ℕ) (place : Option Layer) (found : Option (Bor Layer)) → slice_get places k ≡ Some place
    → option_copied found ≡ place → IfSome found (λ layer. slice_get places k ≡ Some (Some layer.now))
some_read places k place None h e = tt
some_read places k place (Some layer) h e = h ∙ ap Some (sym e)

none_read : (places : List (Option Layer)) (k : ℕ) (place : Option Layer) (found : Option (Bor Layer)) → slice_get places k ≡ Some place
    → option_copied found ≡ place → found ≡ None → (layer : Layer) → slice_get places k ≡ Some (Some layer) → ⊥
none_read places k place found h e none layer other = clash layer (sym (ap Some (sym e ∙ ap option_copied none)) ∙ sym h ∙ other)
  where
    clash : (layer : Layer) → ◌≡◌ {A = Option (Option Layer)} (Some None) (Some (Some layer)) → ⊥
    clash layer e = cc

place_is : (g : Over) (c : After-as_ref g) → slice_get c.args.self.now.places c.args.k ≡ Some c.in_ok-get.field-0.now
place_is g c =
    let read = c.in_ok-get.ensures.lookup in
    subst (λ (s : Book). slice_get s.places c.args.k ≡ Some c.in_ok-get.field-0.now) c.self.view_is
    (slice_get_read c.self.inside.places.items _ c.args.k _ (ap length c.deref.ensures.value) read.3.0
    (subst (λ l. c.in_ok-get.field-0.now ≡ get_or l c.args.k c.in_ok-get.field-0.now) c.deref.ensures.value read.1))

pub returns-clause-some : goal.returns-clause-some
returns-clause-some g c =
    some_read c.args.self.now.places c.args.k c.in_ok-get.field-0.now c.as_ref.result (place_is g c) c.as_ref.ensures.value

pub returns-clause-none : goal.returns-clause-none
returns-clause-none g c =
    none_read c.args.self.now.places c.args.k c.in_ok-get.field-0.now c.as_ref.result (place_is g c) c.as_ref.ensures.value

pub returns-clause-lawful : goal.returns-clause-lawful
returns-clause-lawful g c =
    let read = c.in_ok-get.ensures.lookup in
    let there : IsLawfulPlace c.self.inside.job.now c.args.k c.in_ok-get.field-0.now =
    c.self.invariant.lawful c.args.k c.in_ok-get.field-0.now
    (slice_get_read c.self.inside.places.items _ c.args.k _ (ap length c.deref.ensures.value) read.3.0
    (subst (λ l. c.in_ok-get.field-0.now ≡ get_or l c.args.k c.in_ok-get.field-0.now) c.deref.ensures.value read.1)) in
    lawful_read c.args.self.now.job c.args.k c.as_ref.result
    (subst (IsLawfulPlace c.args.self.now.job c.args.k) (sym c.as_ref.ensures.value)
    (subst (λ job. IsLawfulPlace job c.args.k c.in_ok-get.field-0.now) (ap (λ (s : Book). s.job) c.self.view_is) there))

pub returns-in_err-get-clause-some : goal.returns-in_err-get-clause-some
returns-in_err-get-clause-some g c = rw c.from_residual.ensures tt

pub returns-in_err-get-clause-lawful : goal.returns-in_err-get-clause-lawful
returns-in_err-get-clause-lawful g c = rw c.from_residual.ensures tt

pub returns-in_err-get-clause-none : goal.returns-in_err-get-clause-none
returns-in_err-get-clause-none g c = λ none layer there.
    none-some (Some layer)
    (sym (slice_get_past c.args.self.now.places c.args.k
    (subst (λ l. length l ≤ c.args.k) (c.deref.ensures.value ∙ ap (λ (s : Book). s.places) c.self.view_is) c.in_err-get.ensures.lookup.3))
    ∙ there)
