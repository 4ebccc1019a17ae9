use Rattle.std.proofs.Common.{◌≡◌, ◌∙◌, ◌++◌, ◌∷◌, [], List, Option, ap, append-nil, flat_map, option_to_list, refl, sym}
use Rattle.std.proofs.lemmas.List.{flat_map_more}
use Rattle.build_book.proofs.lemmas.Places.{all_front, front_step}
use Rattle.build_book.proofs.places.all_layers.Goals as goal

-- what the next place has is put behind the layers
one_more : {X : Type 0} (places : List (Option X)) (place other : Option X) (kept : List X) → kept ≡ flat_map option_to_list places → place ≡ other
    → kept ++ option_to_list other ≡ flat_map option_to_list (places ++ place ∷ [])
one_more places place other kept all same =
    ap (λ l. l ++ option_to_list other) all ∙ ap (λ p. flat_map option_to_list places ++ option_to_list p) (sym same)
    ∙ flat_map_more option_to_list [] places place

pub loop-place-init : goal.loop-place-init
loop-place-init g c = record { front = refl; kept = c.in_ok-layers.ensures.items }

pub loop-place-preserved-in-Continue-branch-2 : goal.loop-place-preserved-in-Continue-branch-2
loop-place-preserved-in-Continue-branch-2 g c = record {
  front = front_step _ _ _ _ _ c.loop-place.invariant.front c.in-Some.ensures.steps.0;
  kept = c.in_ok-push.ensures.items ∙ one_more c.loop-place.yielded c.in-Some.place _ _ c.loop-place.invariant.kept c.in-Some-place.is;
}

pub loop-place-preserved : goal.loop-place-preserved
loop-place-preserved g c = record {
  front = front_step _ _ _ _ _ c.loop-place.invariant.front c.in-Some.ensures.steps.0;
  kept = sym (append-nil c.loop-place.layers.items) ∙ one_more c.loop-place.yielded c.in-Some.place _ _ c.loop-place.invariant.kept c.in_default.is;
}

pub returns : goal.returns
returns g c =
    c.loop-place.invariant.kept
    ∙ ap (flat_map option_to_list)
    (all_front _ _ _ _ _ c.loop-place.invariant.front c.loop-place.place-iterator.rest.ok.0 c.in-None.ensures.steps.0 c.into_iter-place-iterator.ensures.into_iter_gives.0)
