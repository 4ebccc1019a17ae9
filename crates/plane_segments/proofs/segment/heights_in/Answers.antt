use Rattle.std.proofs.Common.{◌∙◌, ◌∷◌, ◌++◌, [], ap, get_or, map, sym, take}
use Rattle.std.proofs.lemmas.List.{map_more}
use Rattle.exact_cut.specs.Cut.{corner_heights}
use Rattle.mesh_weld.specs.Solid.{facet_at}
use Rattle.plane_segments.proofs.lemmas.Cutting.{facet_at-is}
use Rattle.plane_segments.proofs.segment.heights_in.Goals as goal

pub loop-n-preserved : goal.loop-n-preserved
loop-n-preserved g c =
    let facets = c.args.s.now.facets in let numbers = c.args.numbers.now in let i = c.loop-n.n-index in
    c.in_ok-push.ensures.items ∙ ap (λ hs. hs ++ c.corner_heights.result ∷ []) c.loop-n.invariant
    ∙ ap (λ h. map (λ n. corner_heights (facet_at facets n)) (take i numbers) ++ h ∷ [])
    (c.corner_heights.ensures ∙ ap corner_heights (sym (facet_at-is facets (get_or numbers i 0) c.facet.result c.facet.ensures.value)))
    ∙ sym (map_more (λ n. corner_heights (facet_at facets n)) numbers i 0 c.loop-n-test.true)
