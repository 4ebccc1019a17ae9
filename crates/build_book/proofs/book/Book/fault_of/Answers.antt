use Rattle.std.proofs.Common.{◌≡◌, ◌∙◌, ◌+◌, ◌*◌, length, sym, ap, Some, None, refl, slice_get, subst, arith}
use Rattle.build_book.specs.Job.{Job, stripe_length}
use Rattle.build_book.specs.Places.{AreFree, IsTaken}
use Rattle.build_book.specs.Book.{Book}
use Rattle.build_book.specs.declared.limits.TheConstants.{STRIPE_LAYERS}
use Rattle.build_book.proofs.lemmas.Places.{end_within, moved_stripe, none_before}
use Rattle.build_book.proofs.book.Book.fault_of.Goals as goal
use Rattle.build_book.proofs.book.Book.fault_of.Goals.{After-first_taken}

first_place : (g : _) (c : After-first_taken g) → c.layer_range-first.result.0 ≡ STRIPE_LAYERS * c.args.piece.now.stripe
first_place g c = c.layer_range-first.ensures.first ∙ ap (λ n. STRIPE_LAYERS * n) c.stripe.ensures

last_place : (g : _) (c : After-first_taken g) → c.layer_range-first.result.1 ≡ STRIPE_LAYERS * c.args.piece.now.stripe + length c.args.piece.now.layers
last_place g c =
    c.layer_range-first.ensures.end
    ∙ ap (λ n. STRIPE_LAYERS * n + stripe_length c.self.inside.job.now.grid n) c.stripe.ensures
    ∙ ap (λ (w : Job). STRIPE_LAYERS * c.args.piece.now.stripe + stripe_length w.grid c.args.piece.now.stripe)
    (ap (λ (s : Book). s.job) c.self.view_is ∙ sym c.requires)
    ∙ ap (λ n. STRIPE_LAYERS * c.args.piece.now.stripe + n) (sym c.layers-layers.ensures.lawful.whole)

same_places : (g : _) (c : After-first_taken g) → c.as_slice-places.result.now ≡ c.args.self.now.places
same_places g c = c.as_slice-places.ensures.value ∙ ap (λ (s : Book). s.places) c.self.view_is

pub returns-in_err-taken-clause-free : goal.returns-in_err-taken-clause-free
returns-in_err-taken-clause-free g c =
    let d = (goal.at.returns-in_err-taken-clause-free g c).After-first_taken in
    rw c.from_residual.ensures
    (λ k at. subst (λ l. slice_get l k ≡ Some None) (same_places g d)
    (c.in_err-taken.ensures.none k (omega (arith, at.0, first_place g d)) (omega (arith, at.1, last_place g d))))

pub returns-clause-fault : goal.returns-clause-fault
returns-clause-fault g c =
    let d = (goal.at.returns-clause-fault g c).After-first_taken in
    let found = c.in_ok-taken.ensures.some in
    let there : IsTaken c.args.self.now.places c.in_ok-taken.taken = subst (λ l. IsTaken l c.in_ok-taken.taken) (same_places g d) found.2 in
    let before : AreFree c.args.self.now.places c.layer_range-first.result.0 c.in_ok-taken.taken =
    subst (λ l. AreFree l c.layer_range-first.result.0 c.in_ok-taken.taken) (same_places g d) found.3 in (
      c.requires,
      (omega (arith, found.0, first_place g d), omega (arith, found.1, last_place g d)),
      there,
      λ k at taken. none_before c.args.self.now.places c.layer_range-first.result.0 c.in_ok-taken.taken k before (omega (arith, at.0, first_place g d)) taken,
    )

pub layer_range-first-requires : goal.layer_range-first-requires
layer_range-first-requires g c =
    (moved_stripe c.self.inside.job.now _ c.stripe.result _ _ _ (c.requires ∙ sym (ap (λ (s : Book). s.job) c.self.view_is)) (sym c.stripe.ensures) refl c.layers-layers.ensures.lawful).within

pub first_taken-requires : goal.first_taken-requires
first_taken-requires g c =
    rw c.as_slice-places.ensures.value
    (end_within c.self.inside.job.now _ c.self.inside.places.items c.self.invariant c.layer_range-first.ensures.within)
