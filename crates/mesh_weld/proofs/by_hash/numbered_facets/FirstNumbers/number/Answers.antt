use Rattle.std.proofs.Common.{◌*◌, List, ℕ, take, subst, arith}
use Rattle.std.proofs.lemmas.List.{take_all}
use Rattle.mesh_weld.specs.EdgeChains.{AreNumbered}
use Rattle.mesh_weld.specs.HalfEdge.{half_edges_from}
use Rattle.mesh_weld.proofs.lemmas.EdgeChains.{first_more}
use Rattle.mesh_weld.proofs.by_hash.numbered_facets.FirstNumbers.number.Goals as goal

pub loop-at-init : goal.loop-at-init
loop-at-init g c =
    c.in_ok-add_vertices.ensures (half_edges_from 0 (take c.args.self.now.facets c.args.ids.now)) c.args.self.now.numbers.items c.requires.first

pub bounds-ids-at : goal.bounds-ids-at
bounds-ids-at g c = c.loop-at-test.true

pub loop-at-smaller : goal.loop-at-smaller
loop-at-smaller g c = omega (arith, c.loop-at-test.true)

pub loop-at-preserved : goal.loop-at-preserved
loop-at-preserved g c =
    let ts : List (List ℕ) = c.args.ids.now in let i : ℕ = c.loop-at.at in
    first_more ts i (omega arith) c.numbers.new.self.heads.items c.numbers.new.self.edges.items c.loop-at.self.numbers.items c.in-Some.own c.extend_from_slice.new.self.items c.in_ok-extend_from_slice.ensures.items
    ((rw c.in-Some.is at c.in_ok-own.ensures) (half_edges_from 0 (take i ts)) c.loop-at.self.numbers.items (3 * i) c.loop-at.invariant)

pub returns-clause-numbers : goal.returns-clause-numbers
returns-clause-numbers g c = λ t.
    let own = c.loop-at.self in
    subst (λ l. AreNumbered (half_edges_from 0 l) own.chains.heads.items own.chains.edges.items own.numbers.items) (take_all c.loop-at.at c.args.ids.now (omega (arith, c.loop-at-test.false))) c.loop-at.invariant
