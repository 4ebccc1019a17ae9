use Rattle.std.proofs.Common.{◌≡◌, length, take, subst, sym, arith}
use Rattle.std.proofs.lemmas.List.{take_all}
use Rattle.mesh_weld.specs.EdgeChains.{AreInHalfWords}
use Rattle.mesh_weld.specs.HalfEdge.{half_edges_from, ArePairNumbers}
use Rattle.mesh_weld.proofs.lemmas.EdgeChains.{numbered_pairs}
use Rattle.mesh_weld.proofs.by_hash.numbered_facets.FirstNumbers.of_all.Goals as goal

pub returns-clause-numbering : goal.returns-clause-numbering
returns-clause-numbering g c =
    let own = c.args.self in let ts = c.args.ids.now in
    let count : c.len.result ≡ length own.chains.edges.items = omega (arith, own.chains.edges.ok.0) in
    subst (λ l. ArePairNumbers (half_edges_from 0 l) own.numbers.items c.len.result) (take_all own.facets ts (omega arith))
    (subst (ArePairNumbers (half_edges_from 0 (take own.facets ts)) own.numbers.items) (sym count)
    (numbered_pairs (half_edges_from 0 (take own.facets ts)) own.chains.heads.items own.chains.edges.items own.numbers.items c.requires.first))

pub returns-clause-small : goal.returns-clause-small
returns-clause-small g c =
    subst (λ l. AreInHalfWords (half_edges_from 0 l)) (take_all c.args.self.facets c.args.ids.now c.if-facets-ids.false) c.requires.first.small
