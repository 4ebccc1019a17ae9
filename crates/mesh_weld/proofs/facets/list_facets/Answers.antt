use Rattle.std.proofs.Common.{◌≡◌, ◌<◌, ◌+◌, ◌++◌, ◌∷◌, [], ◌∙◌, ℕ, List, get_or, length, sym, ap, take}
use Rattle.std.proofs.lemmas.List.{map_more, take_all}
use Rattle.geometry.specs.Point.{Point}
use Rattle.geometry.specs.Facet.{Facet}
use Rattle.mesh_weld.specs.Solid.{facet_by, facets_by}
use Rattle.mesh_weld.proofs.facets.list_facets.Goals as goal

one_more : (points : List Point) (numbers : List (List ℕ)) (i : ℕ) (facets new : List Facet) (t : Facet) → i < length numbers
    → facets ≡ facets_by points (take i numbers) → t ≡ facet_by points (get_or numbers i []) → new ≡ facets ++ t ∷ []
    → new ≡ facets_by points (take (i + 1) numbers)
one_more points numbers i facets new t inside so_far is pushed =
    pushed ∙ (λ n. so_far n ++ is n ∷ []) ∙ sym (map_more (facet_by points) numbers i [] inside)

pub facet_by-requires : goal.facet_by-requires
facet_by-requires g c = c.requires c.loop-own.own-index [] c.loop-own-test.true

pub loop-own-preserved : goal.loop-own-preserved
loop-own-preserved g c =
    one_more c.args.points.now c.args.numbers.now c.loop-own.own-index c.loop-own.facets.items c.push.new.self.items c.facet_by.result
    c.loop-own-test.true c.loop-own.invariant c.facet_by.ensures c.in_ok-push.ensures.items

pub returns : goal.returns
returns g c = c.loop-own.invariant ∙ ap (facets_by c.args.points.now) (take_all c.loop-own.own-index c.args.numbers.now c.loop-own-test.false)
