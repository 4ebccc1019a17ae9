use Rattle.std.proofs.Common.{◌++◌, ◌∙◌, ap, arith, drop, map, slice_set, take}
use Rattle.stlslice_c.specs.Facets.{facet_told}
use Rattle.stlslice_c.proofs.lemmas.Fronts.{put_next}
use Rattle.stlslice_c.proofs.facets.write_facets.Goals as goal

pub loop-at-preserved : goal.loop-at-preserved
loop-at-preserved c =
    let l = c.loop-at in let found = c.args.found.now in let x = c.index-found-at.result in
    ap (λ zs. slice_set zs l.at c.told.result) l.invariant ∙ ap (λ z. slice_set (map facet_told (take l.at found) ++ drop l.at c.args.facets.now) l.at z) c.told.ensures
    ∙ put_next facet_told found c.args.facets.now l.at x (omega (arith, c.loop-at-test.true)) (omega (arith, c.loop-at-test.true, c.requires)) c.index-found-at.is
