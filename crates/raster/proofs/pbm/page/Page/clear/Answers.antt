use Rattle.std.proofs.Common.{◌≡◌, ◌∙◌, ℕ, List, ap, arith, drop}
use Rattle.std.proofs.Math.ListN.{replicate}
use Rattle.raster.proofs.lemmas.FreeRoom.{all-zero_within}
use Rattle.raster.proofs.pbm.page.Page.clear.Goals as goal

pub invariant_of-self : goal.invariant_of-self
invariant_of-self g c =
    let e : c.fill.new.self ≡ replicate c.self.inside.filled 0 = c.fill.ensures.after (λ y h. h) ∙ ap (λ (n : ℕ). replicate n 0) c.split_at_mut-drawn.ensures.front_len in
    let zero = all-zero_within c.self.inside.room.len c.self.inside.room.items c.fill.new.self c.split_at_mut-drawn.result.1.now c.self.inside.filled e (c.split_at_mut-drawn.ensures.back ∙ ap (λ (l : List ℕ). drop c.self.inside.filled l) c.deref_mut.ensures.value) c.self.invariant.1 in
    (omega arith, λ k low. zero k)
