use Rattle.std.proofs.Common.{◌≡◌, ◌<◌, ◌-◌, ◌∙◌, ℕ, suc, length, get_or, ap, sym, subst, arith}
use Rattle.std.proofs.lemmas.List.{get_or_read}
use Rattle.contour.specs.EdgeTable.{bucket}
use Rattle.contour.proofs.lemmas.EdgeTables.{IsSearched, before-low, search-begins, search-goes}
use Rattle.contour.proofs.edge_table.EdgeTable.find.Goals as goal

pub loop-end-init : goal.loop-end-init
loop-end-init g c =
    let ends = c.args.self.now.ends.items in
    let n : c.len.result ≡ length ends = omega (arith, c.len.ensures, c.args.self.now.ends.ok.0) in
    let at : c.bucket_of.result ≡ bucket (length ends) c.args.edge = c.bucket_of.ensures.value ∙ ap (λ m. bucket m c.args.edge) n in
    let within : c.bucket_of.result < length ends = subst (λ m. c.bucket_of.result < m) n c.bucket_of.ensures.within in
    search-begins (bucket (length ends)) ends c.args.self.now.edges.items c.args.self.now.before.items c.args.edge c.index-end.result.now c.requires.chains
    (subst (λ b. b < length ends) at within)
    (get_or_read ends c.bucket_of.result c.index-end.result.now within c.index-end.ensures 0 ∙ ap (λ b. get_or ends b 0) at)

pub loop-end-smaller : goal.loop-end-smaller
loop-end-smaller g c =
    let ends = c.args.self.now.ends.items in let edges = c.args.self.now.edges.items in let before = c.args.self.now.before.items in
    let k : ℕ = c.loop-end.end - 1 in
    let up : c.loop-end.end ≡ suc k = omega (arith, c.loop-end-test.true) in
    let inside : k < length edges = (let w = c.loop-end.invariant.within in omega (arith, w, up)) in
    let size = c.requires.chains.size in
    let read : c.index-end-in-loop-end.result.now ≡ get_or before k 0 =
    get_or_read before k c.index-end-in-loop-end.result.now (omega (arith, inside, size)) c.index-end-in-loop-end.ensures 0 in
    let low = before-low (bucket (length ends)) ends edges before k c.requires.chains inside in omega (arith, read, low, up)

pub loop-end-preserved : goal.loop-end-preserved
loop-end-preserved g c =
    let ends = c.args.self.now.ends.items in let edges = c.args.self.now.edges.items in let before = c.args.self.now.before.items in
    let k : ℕ = c.loop-end.end - 1 in
    let up : c.loop-end.end ≡ suc k = omega (arith, c.loop-end-test.true) in
    let inside : k < length edges = (let w = c.loop-end.invariant.within in omega (arith, w, up)) in
    let size = c.requires.chains.size in
    let read : c.index-end-in-loop-end.result.now ≡ get_or before k 0 =
    get_or_read before k c.index-end-in-loop-end.result.now (omega (arith, inside, size)) c.index-end-in-loop-end.ensures 0 in
    subst (IsSearched (bucket (length ends)) edges c.args.edge) (sym read)
    (search-goes (bucket (length ends)) ends edges before c.args.edge c.loop-end.end k c.requires.chains c.loop-end.invariant up
    (λ q. c.if-index-edge.false (get_or_read edges k c.index.result.now inside c.index.ensures 0 ∙ q)))
