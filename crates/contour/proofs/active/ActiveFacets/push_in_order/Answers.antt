use Rattle.std.proofs.Common.{◌∙◌, ◌++◌, ◌∷◌, [], ◌<◌, List, ℕ, ap, sym, subst, take, drop, length, w32}
use Rattle.std.specs.Prelude.{All}
use Rattle.std.proofs.lemmas.Int.{to_z-of_z}
use Rattle.std.proofs.lemmas.List.{append_assoc}
use Rattle.std.proofs.lemmas.List.Elements.{All-take}
use Rattle.contour.proofs.lemmas.Pushes.{tops_joined}
use Rattle.contour.proofs.active.ActiveFacets.push_in_order.Goals as goal

pub push_all-requires-after_bounds : goal.push_all-requires-after_bounds
push_all-requires-after_bounds g c κs within =
    subst (λ (ks : List ℕ). All (λ n. n < length c.args.s.now.facets) ks) (sym c.split_at.ensures.front)
    (All-take (λ n. n < length c.args.s.now.facets) c.count_before.result c.args.rest.now c.requires.rest)

pub returns-clause-numbers : goal.returns-clause-numbers
returns-clause-numbers g c =
    c.in_ok-push.ensures.numbers
    ∙ ap (λ ks. ks ++ c.args.number ∷ []) c.in_ok-push_all.ensures.numbers
    ∙ append_assoc c.args.self.now.numbers.items c.split_at.result.0.now (c.args.number ∷ [])
    ∙ ap (λ ks. c.args.self.now.numbers.items ++ (ks ++ c.args.number ∷ [])) c.split_at.ensures.front
    ∙ ap (λ k. c.args.self.now.numbers.items ++ (take k c.args.rest.now ++ c.args.number ∷ [])) c.count_before.ensures.value

pub returns-clause-tops : goal.returns-clause-tops
returns-clause-tops g c = λ h.
    tops_joined c.args.s.now.facets c.push_all.new.self.numbers.items (c.args.number ∷ []) c.push.new.self.numbers.items c.push_all.new.self.tops.items c.push.new.self.tops.items
    (tops_joined c.args.s.now.facets c.args.self.now.numbers.items c.split_at.result.0.now c.push_all.new.self.numbers.items c.args.self.now.tops.items c.push_all.new.self.tops.items
    h c.in_ok-push_all.ensures.numbers c.in_ok-push_all.ensures.tops)
    c.in_ok-push.ensures.numbers
    (c.in_ok-push.ensures.tops ∙ ap (λ t. c.push_all.new.self.tops.items ++ t ∷ []) (to_z-of_z w32 c.args.top c.ranges.top ∙ c.requires.top))

pub returns-clause-left : goal.returns-clause-left
returns-clause-left g c = c.split_at.ensures.back ∙ ap (λ k. drop k c.args.rest.now) c.count_before.ensures.value
