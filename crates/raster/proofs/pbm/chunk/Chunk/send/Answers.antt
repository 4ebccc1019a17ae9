use Rattle.std.proofs.Common.{◌≡◌, ◌+◌, ◌-◌, ◌∙◌, ◌≤◌, ℕ, ap, arith, length, subst, take}
use Rattle.std.proofs.Math.ListN.{replicate}
use Rattle.std.proofs.lemmas.List.{length-take-le}
use Rattle.std.specs.Io.KnownBytes.{Appends}
use Rattle.devices.specs.Devices.{AppendsFirst}
use Rattle.raster.proofs.lemmas.FreeRoom.{all-zero, same-length}
use Rattle.raster.proofs.pbm.chunk.Chunk.send.Goals as goal

pub returns-in-Ok-clause-ok : goal.returns-in-Ok-clause-ok
returns-in-Ok-clause-ok g c =
    subst (Appends (g.W.Sink.contents c.args.w.now) (g.W.Sink.contents c.put_all.new.w)) c.self.view_is c.in-Ok.ensures.ok

pub returns-in-Ok-clause-same : goal.returns-in-Ok-clause-same
returns-in-Ok-clause-same g c = c.in-Ok.ensures.same

pub returns-in-Err-clause-err : goal.returns-in-Err-clause-err
returns-in-Err-clause-err g c =
    let old = g.W.Sink.contents c.args.w.now in
    let new = g.W.Sink.contents c.put_all.new.w in
    let before = c.args.before in
    let sent = c.in-Err.fault.written in
    let more : sent ≡ before + sent - before = omega arith in
    record {
      low = omega arith;
      high = omega (arith, c.in-Err.ensures.within, ap length c.self.view_is);
      out = subst (AppendsFirst old new (before + sent - before)) c.self.view_is
          (subst (λ n. AppendsFirst old new n (take c.self.inside.filled c.self.inside.bytes)) more c.in-Err.ensures.written);
      failed = c.in-Err.ensures.failed;
    }

pub invariant_of-self : goal.invariant_of-self
invariant_of-self g c =
    let size : length (take c.self.inside.filled c.self.inside.bytes) ≡ c.self.inside.filled = length-take-le c.self.inside.filled c.self.inside.bytes (omega (arith, c.self.invariant.0, c.self.told)) in
    let e : c.fill.new.self ≡ replicate c.self.inside.filled 0 = c.fill.ensures.after (λ y h. h) ∙ ap (λ (n : ℕ). replicate n 0) size in
    let room : c.self.inside.filled ≤ length c.self.inside.bytes = omega (arith, c.self.invariant.0, c.self.told) in
    (omega arith, same-length c.self.inside.bytes c.fill.new.self c.self.inside.filled room (c.fill.ensures.len ∙ size) ∙ c.self.told, λ k low. all-zero c.self.inside.bytes c.fill.new.self c.self.inside.filled e c.self.invariant.2 k)
