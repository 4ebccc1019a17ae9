use Rattle.std.proofs.Common.{◌≡◌, ◌<◌, ◌++◌, ◌≤◌, All, length, take, drop, map, get_or, append-nil, ap, sym, subst, ◌∙◌, arith}
use Rattle.std.proofs.lemmas.List.{drop_all, take_all}
use Rattle.std.proofs.lemmas.List.Edits.{map_over_more}
use Rattle.mesh_weld.specs.CornerIds.{ranks_of}
use Rattle.mesh_weld.proofs.lemmas.Placing.{get_or-map_over, length-map_over}
use Rattle.mesh_weld.proofs.numbering.renumber.Given.{Over}
use Rattle.mesh_weld.proofs.numbering.renumber.Goals.{In-loop-at, After-index}
use Rattle.mesh_weld.proofs.numbering.renumber.Goals as goal

-- the ids and their ranks are as many as the ids
inside : (g : Over) (c : In-loop-at g) → c.loop-at.at < length c.loop-at.ids.items
inside g c =
    omega (arith, c.loop-at-test.true, c.args.ids.now.ok.0, ap length c.loop-at.invariant, length-map_over (ranks_of c.args.ranks.now) c.args.ids.now.items c.loop-at.at)

pub index-requires : goal.index-requires
index-requires g c = omega (arith, inside g c, c.loop-at.ids.ok.0)

-- the ids that are read have ranks
ranked : (g : Over) (c : After-index g) → All (λ id. id < length c.args.ranks.now) c.index.result.now
ranked g c =
    let ids = c.args.ids.now.items in let own = c.index.result.now in let at = c.loop-at.at in
    let is : own ≡ get_or ids at own = c.index.ensures ∙ (λ i. get_or (c.loop-at.invariant i) at own) ∙ get_or-map_over (ranks_of c.args.ranks.now) ids at own in
    subst (All (λ id. id < length c.args.ranks.now)) (sym is) (c.requires at own (omega (arith, c.loop-at-test.true, c.args.ids.now.ok.0)))

pub bounds-ranks-first : goal.bounds-ranks-first
bounds-ranks-first g c = ranked g (goal.at.bounds-ranks-first g c).After-index 0 0 (omega arith)

pub bounds-ranks-second : goal.bounds-ranks-second
bounds-ranks-second g c = ranked g (goal.at.bounds-ranks-second g c).After-index 1 0 (omega arith)

pub bounds-ranks-third : goal.bounds-ranks-third
bounds-ranks-third g c = ranked g (goal.at.bounds-ranks-third g c).After-index 2 0 (omega arith)

pub index_mut-requires : goal.index_mut-requires
index_mut-requires g c = omega (arith, inside g (goal.at.index_mut-requires g c).In-loop-at, c.loop-at.ids.ok.0)

pub loop-at-preserved : goal.loop-at-preserved
loop-at-preserved g c =
    map_over_more (ranks_of c.args.ranks.now) c.args.ids.now.items c.loop-at.ids.items c.loop-at.at c.index.result.now (omega (arith, c.loop-at-test.true, c.args.ids.now.ok.0))
    c.loop-at.invariant c.index.ensures

pub returns : goal.returns
returns g c =
    let ids = c.args.ids.now.items in let at = c.loop-at.at in
    let far : length ids ≤ at = omega (arith, c.loop-at-test.false, c.args.ids.now.ok.0) in
    let read = map (ranks_of c.args.ranks.now) (take at ids) ++ drop at ids in
    let whole : read ≡ map (ranks_of c.args.ranks.now) ids =
    (λ i. map (ranks_of c.args.ranks.now) (take_all at ids far i) ++ drop_all at ids far i) ∙ append-nil (map (ranks_of c.args.ranks.now) ids) in
    ◌∙◌ {b = read} c.loop-at.invariant whole
