use Rattle.std.proofs.Common.{◌≡◌}
use Rattle.deflate.proofs.lemmas.Adler.{after_run}
use Rattle.deflate.proofs.adler.Adler.run.Goals as goal

pub returns : goal.returns
returns c =
    let e : c.from-byte.result ≡ c.args.byte = c.from-byte.ensures in
    rw (e, ← c.self.view_is) (after_run c.args.count c.args.byte c.self.inside.a c.self.inside.b c.self.invariant.0 c.self.invariant.1)
