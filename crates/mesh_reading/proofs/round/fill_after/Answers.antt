use Rattle.std.proofs.Common.{◌+◌, ◌++◌, ◌∙◌, ap, subst, sym, take}
use Rattle.std.specs.Io.KnownBytes.{Consumes}
use Rattle.std.proofs.KnownBytes.{Consumes-trans}
use Rattle.std.proofs.Math.Seq.{take-append-add}
use Rattle.std.proofs.lemmas.Result.{IfOk-weaker}
use Rattle.mesh_reading.proofs.round.fill_after.Goals as goal

pub returns-clause-taken : goal.returns-clause-taken
returns-clause-taken g c =
    let front = c.split_at_mut-rest.result.0.now in
    let rest = c.fill.new.window in
    let old = g.I.Source.remaining c.args.source.now in
    let new = g.I.Source.remaining c.fill.new.source in
    IfOk-weaker c.fill.result _ _
    (λ count taken start before.
    subst (Consumes start new) (sym (ap (λ n. take (n + count) (front ++ rest)) (sym c.split_at_mut-rest.ensures.front_len) ∙ take-append-add front rest count))
    (Consumes-trans start old new front (take count rest) (subst (Consumes start old) (sym c.split_at_mut-rest.ensures.front) before) taken))
    c.fill.ensures.taken
