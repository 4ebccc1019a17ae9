use Rattle.std.proofs.Common.{◌≡◌, ◌+◌, ◌<◌, ◌++◌, ◌∷◌, ◌∙◌, [], length, set, ap, sym, subst, arith}
use Rattle.std.proofs.lemmas.List.{get_or_read}
use Rattle.contour.specs.EdgeTable.{IsTable, bucket}
use Rattle.contour.proofs.lemmas.EdgeTables.{table-adds}
use Rattle.contour.proofs.edge_table.EdgeTable.add.Goals as goal

pub returns-clause-table : goal.returns-clause-table
returns-clause-table g c =
    let ends = c.args.self.now.ends.items in let edges = c.args.self.now.edges.items in let before = c.args.self.now.before.items in
    let b = c.bucket_of-bucket.result in let end = c.index.result.now in
    let count : c.len-number.result ≡ length edges = omega (arith, c.len-number.ensures, c.args.self.now.edges.ok.0) in
    let n : c.len.result ≡ length ends = omega (arith, c.len.ensures, c.args.self.now.ends.ok.0) in
    let within : b < length ends = subst (λ m. c.bucket_of-bucket.result < m) n c.bucket_of-bucket.ensures.within in
    subst (λ m. IsTable (set ends b (m + 1)) c.push-2.new.self.items c.push.new.self.items) (sym count)
    (subst (λ xs. IsTable (set ends b (length edges + 1)) xs c.push.new.self.items) (sym c.in_ok-push-2.ensures.items)
    (subst (λ xs. IsTable (set ends b (length edges + 1)) (edges ++ c.args.edge ∷ []) xs) (sym c.in_ok-push.ensures.items)
    (table-adds ends edges before c.args.edge b end c.requires.table c.requires.none
    (c.bucket_of-bucket.ensures.value ∙ ap (λ m. bucket m c.args.edge) n) within
    (get_or_read ends b end within c.index.ensures 0))))
