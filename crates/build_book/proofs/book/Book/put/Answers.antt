use Rattle.std.proofs.Common.{◌≡◌, ◌∙◌, ◌+◌, ◌*◌, length, refl, sym, ap, Some, None, slice_get, subst, arith}
use Rattle.std.specs.Vec.{with_items}
use Rattle.std.proofs.lemmas.List.{with_items_is}
use Rattle.build_book.specs.Job.{stripe_length}
use Rattle.build_book.specs.Piece.{IsStripe}
use Rattle.build_book.specs.Places.{with_layers, AreFree}
use Rattle.build_book.specs.declared.limits.TheConstants.{STRIPE_LAYERS}
use Rattle.build_book.proofs.lemmas.Places.{moved_stripe, stripe_lawful, stripe_filed, stripe_few, stripe_fits, below_end, length-filled}
use Rattle.build_book.proofs.book.Book.put.Goals as goal
use Rattle.build_book.proofs.book.Book.put.Goals.{After-fill_gaps, After-into_layers}

same_job : (g : _) (c : After-fill_gaps g) → c.args.piece.job ≡ c.self.inside.job.now
same_job g c = c.requires.job ∙ sym (ap (λ s. s.job) c.self.view_is)

piece_stripe : (g : _) (c : After-fill_gaps g) → IsStripe c.self.inside.job.now c.args.piece.stripe c.into_layers.result.items
piece_stripe g c = moved_stripe _ _ _ _ _ _ (same_job g c) refl c.into_layers.ensures c.layers-layers.ensures.lawful

first_place : (g : _) (c : After-fill_gaps g) → c.layer_range-first.result.0 ≡ STRIPE_LAYERS * c.args.piece.stripe
first_place g c = c.layer_range-first.ensures.first ∙ ap (λ n. STRIPE_LAYERS * n) c.stripe.ensures

filed_places : (g : _) (c : After-fill_gaps g) → c.fill_gaps.new.places ≡ with_layers c.layer_range-first.result.0 c.into_layers.result.items c.self.inside.places.items
filed_places g c = c.fill_gaps.ensures.places ∙ ap (with_layers c.layer_range-first.result.0 c.into_layers.result.items) c.as_mut_slice-places.ensures.value

whole_places : (g : _) (c : After-fill_gaps g) → (with_items c.self.inside.places c.fill_gaps.new.places).items ≡ c.fill_gaps.new.places
whole_places g c =
    with_items_is c.self.inside.places c.fill_gaps.new.places
    (ap length (filed_places g c) ∙ length-filled c.layer_range-first.result.0 c.into_layers.result.items c.self.inside.places.items ∙ sym c.self.inside.places.ok.0)

-- the stripe of the piece, by the number and the layers that its calls return
read_stripe : (g : _) (c : After-into_layers g) → IsStripe c.self.inside.job.now c.stripe.result c.into_layers.result.items
read_stripe g c =
    moved_stripe _ _ _ _ _ _ (c.requires.job ∙ sym (ap (λ s. s.job) c.self.view_is)) (sym c.stripe.ensures) c.into_layers.ensures c.layers-layers.ensures.lawful

pub layer_range-first-requires : goal.layer_range-first-requires
layer_range-first-requires g c =
    (moved_stripe c.self.inside.job.now _ c.stripe.result _ _ _ (c.requires.job ∙ sym (ap (λ s. s.job) c.self.view_is)) (sym c.stripe.ensures) refl c.layers-layers.ensures.lawful).within

pub overflow_cast-first : goal.overflow_cast-first
overflow_cast-first g c = below_end _ _ c.layer_range-first.ensures.some c.layer_range-first.ensures.few

pub fill_gaps-requires-clause-few : goal.fill_gaps-requires-clause-few
fill_gaps-requires-clause-few g c = stripe_few _ _ _ (read_stripe g c)

pub invariant_of-self : goal.invariant_of-self
invariant_of-self g c =
    let d = (goal.at.invariant_of-self g c).After-fill_gaps in
    rw (whole_places g d)
    (stripe_lawful d.self.inside.job.now d.args.piece.stripe _ _ d.self.inside.places.items _ d.self.invariant (first_place g d) (piece_stripe g d)
    (filed_places g d))

free_places : (g : _) (c : After-fill_gaps g)
    → AreFree c.self.inside.places.items c.layer_range-first.result.0 (STRIPE_LAYERS * c.args.piece.stripe + stripe_length c.self.inside.job.now.grid c.args.piece.stripe)
free_places g c k low high =
    subst (λ l. slice_get l k ≡ Some None) (sym (ap (λ s. s.places) c.self.view_is))
    (c.requires.free k (
      omega (arith, low, first_place g c),
      omega (arith, high, (piece_stripe g c).whole, ap length c.into_layers.ensures),
    ))

pub returns : goal.returns
returns g c =
    let d = (goal.at.returns g c).After-fill_gaps in
    record {
      same = c.requires.job;
      free = c.requires.free;
      job = ap (λ s. s.job) d.self.view_is;
      places = whole_places g d
          ∙ stripe_filed d.self.inside.job.now d.args.piece.stripe d.layer_range-first.result.0 (STRIPE_LAYERS * d.args.piece.stripe + stripe_length d.self.inside.job.now.grid d.args.piece.stripe) _ _ _ _
          _ d.self.invariant (piece_stripe g d) (first_place g d) refl (filed_places g d) (free_places g d)
          d.into_layers.ensures (ap (λ s. s.places) d.self.view_is);
    }

pub fill_gaps-requires-clause-room : goal.fill_gaps-requires-clause-room
fill_gaps-requires-clause-room g c =
    rw c.as_mut_slice-places.ensures.value
    (stripe_fits c.self.inside.job.now c.stripe.result _ _ _ c.self.inside.places.items c.self.invariant c.layer_range-first.ensures.first
    c.layer_range-first.ensures.end c.layer_range-first.ensures.within (read_stripe g c))
