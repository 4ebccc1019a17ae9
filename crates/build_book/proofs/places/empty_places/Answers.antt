use Rattle.std.proofs.Common.{◌++◌, ◌∷◌, [], ap, ◌∙◌, None, replicate, arith}
use Rattle.std.proofs.lemmas.List.{replicate-append-replicate}
use Rattle.build_book.proofs.places.empty_places.Goals as goal

pub loop-preserved : goal.loop-preserved
loop-preserved g c =
    c.in_ok-push.ensures.items ∙ ap (λ front. front ++ (None ∷ [])) c.loop.invariant
    ∙ replicate-append-replicate c.loop.counter 1 None

pub returns : goal.returns
returns g c = c.loop.invariant ∙ ap (λ n. replicate n None) (omega (arith, c.loop.auto.counter-end, c.loop-test.false))
