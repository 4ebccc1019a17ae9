use Rattle.stl_text.proofs.layout.Layout.of.Goals as goal

pub invariant_of-result : goal.invariant_of-result
invariant_of-result c = record {
  opening = c.in_ok-opening.ensures;
  first = c.in_ok-first.ensures;
  next = c.in_ok-next.ensures;
  closing = c.in_ok-words_len.ensures;
}
