use Rattle.std.proofs.Common.{◌≡◌, ◌∙◌, ◌++◌, [], length, take, drop, ap, sym, subst, arith}
use Rattle.contour.specs.EdgeTable.{AreNumbered}
use Rattle.contour.specs.Linker.{AreRenumbered}
use Rattle.contour.proofs.lemmas.Renumbering.{renumbered}
use Rattle.contour.proofs.lemmas.Traces.{cut}
use Rattle.contour.proofs.linker.SegmentEdges.renumber.Goals as goal

pub returns : goal.returns
returns g c =
    let starts = c.args.self.now.starts in let finishes = c.args.self.now.finishes in
    let mid = c.number_all.new.self.edges.items in let edges = c.number_all-2.new.self.edges.items in
    let new_starts = c.number_all.new.list in let new_finishes = c.number_all-2.new.list in
    let room : length new_starts ≡ starts.len = omega (arith, c.number_all.auto.list, c.as_mut_slice.ensures.len) in
    let room' : length new_finishes ≡ finishes.len = omega (arith, c.number_all-2.auto.list, c.as_mut_slice-2.ensures.len) in
    let numbered : AreNumbered [] starts.items mid new_starts (length starts.items) =
    subst (λ es. AreNumbered es starts.items mid new_starts (length starts.items)) c.in_ok-clear.ensures.empty
    (subst (λ xs. AreNumbered c.clear.new.self.edges.items xs mid new_starts (length xs)) c.as_mut_slice.ensures.value c.in_ok-number_all.ensures.numbered) in
    let numbered' : AreNumbered mid finishes.items edges new_finishes (length finishes.items) =
    subst (λ xs. AreNumbered mid xs edges new_finishes (length xs)) c.as_mut_slice-2.ensures.value c.in_ok-number_all-2.ensures.numbered in
    subst (λ xs. AreRenumbered starts.items finishes.items edges xs (take finishes.len (new_finishes ++ drop (length new_finishes) finishes.items))) (sym (cut starts.len new_starts starts.items room))
    (subst (λ xs. AreRenumbered starts.items finishes.items edges new_starts xs) (sym (cut finishes.len new_finishes finishes.items room'))
    (renumbered starts.items finishes.items mid edges new_starts new_finishes c.in_ok-number_all-2.ensures.table.chains.distinct
    (c.number_all.auto.list ∙ ap length c.as_mut_slice.ensures.value) (c.number_all-2.auto.list ∙ ap length c.as_mut_slice-2.ensures.value) numbered numbered'))
