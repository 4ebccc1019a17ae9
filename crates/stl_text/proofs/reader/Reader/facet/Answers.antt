use Rattle.stl_text.proofs.lemmas.Layouts.{by_words}
use Rattle.stl_text.proofs.reader.Reader.facet.Goals as goal

pub returns : goal.returns
returns c =
    rw c.of.ensures
    (by_words c.in_ok-a.a c.in_ok-b.b c.in_ok-c.c c.in_ok-separator.ensures.some c.in_ok-normal_words.ensures.some c.in_ok-separator-2.ensures.some c.in_ok-a.ensures
    c.in_ok-separator-3.ensures.some c.in_ok-b.ensures c.in_ok-separator-4.ensures.some c.in_ok-c.ensures c.in_ok-separator-5.ensures.some)
