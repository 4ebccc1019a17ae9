use Rattle.stripe_claims.specs.Machine.{hand_of}
use Rattle.stripe_claims.proofs.lemmas.Gathers.{closed_none, closed_all}
use Rattle.stripe_claims.proofs.claims.Claims.close.Goals as goal

pub returns-in-Some : goal.returns-in-Some
returns-in-Some g c =
    let joined = c.in-Some.ensures in
    let last = c.word_with.ensures in
    let told =
    closed_all c.args.self c.args.passes.items (hand_of c.in-Some.all.me.0) c.word_with.result c.requires joined.some joined.stands_for joined.times joined.length last.machine
    (record { once = last.once; count = last.count; most = last.most; whole = last.whole; all = last.all }) in
    record { machine = told.machine; once = told.once; count = told.count; ended = told.ended; most = last.most; whole = told.whole; all = told.all; given = told.given }

pub returns-in-None : goal.returns-in-None
returns-in-None g c =
    let last = c.word.ensures in
    let told = closed_none c.args.self c.args.passes.items c.word.result c.in-None.ensures.none last.machine last.some in
    record { machine = told.machine; once = told.once; count = told.count; ended = told.ended; most = last.most; whole = told.whole; all = told.all; given = told.given }
