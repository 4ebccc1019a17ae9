use Rattle.std.proofs.Common.{◌++◌, ◌∙◌, List, ap, subst, sym, ℕ}
use Rattle.mesh_weld.specs.Welder.{AreNamedMore}
use Rattle.mesh_weld.proofs.lemmas.NamedMore.{named_beside}
use Rattle.mesh_weld.proofs.lemmas.Results.{both_ok}
use Rattle.mesh_weld.proofs.adding.add_facets_beside.Goals as goal

pub returns-clause-named : goal.returns-clause-named
returns-clause-named g c =
    let own = c.args.names.now in let kept = c.args.kept.now.ids in let new = c.number_and_name-first.new in let facets = c.args.facets.now in
    both_ok c.append_named-added.result c.number_and_name-first.result.1.0.0 c.append_named-added.ensures.named
    (λ named all.
    subst (AreNamedMore own kept facets new.names) (sym (all ∙ ap (λ (l : List (List ℕ)). l ++ new.fresh) c.number_and_name-first.ensures.kept))
    (named_beside own new.names kept new.fresh facets (subst (λ (l : List (List ℕ)). AreNamedMore own l facets new.names new.fresh) c.new-fresh.ensures named)))
    c.number_and_name-first.ensures.named c.append_named-added.ensures.appended
