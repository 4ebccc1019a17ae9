use Rattle.std.proofs.Common.{◌≡◌, ◌++◌, ◌∷◌, [], ◌∙◌, List, ℕ, ap, append-nil, sym, arith}
use Rattle.std.proofs.lemmas.List.{nil_from_length}
use Rattle.mesh_weld.proofs.by_hash.numbered_facets.NumberedFacets.push.Goals as goal

pub returns : goal.returns
returns g c =
    let ids : List (List ℕ) = c.self.inside.ids.items in let more : List (List ℕ) = c.self.inside.more.items in
    let none : more ≡ [] = nil_from_length more (omega (arith, c.if-len-gt0.false, c.len.ensures, c.self.inside.more.ok.0)) in
    let with_none : (l : List (List ℕ)) → l ++ more ≡ l = λ l. ap (λ (m : List (List ℕ)). l ++ m) none ∙ append-nil l in
    with_none c.push-2.new.self.items ∙ c.in_ok-push-2.ensures.items
    ∙ ap (λ (l : List (List ℕ)). l ++ c.args.own ∷ []) (sym (with_none ids) ∙ c.self.view_is)
