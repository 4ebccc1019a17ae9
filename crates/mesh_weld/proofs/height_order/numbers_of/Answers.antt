use Rattle.std.proofs.Common.{◌^◌, ◌%◌, ℕ, List, ap, map, ◌∙◌}
use Rattle.std.proofs.lemmas.List.{take_all}
use Rattle.mesh_weld.proofs.lemmas.Listing.{one_more}
use Rattle.mesh_weld.proofs.height_order.numbers_of.Goals as goal

pub loop-key-init : goal.loop-key-init
loop-key-init g c = c.in_ok-numbers.ensures.items

pub loop-key-preserved : goal.loop-key-preserved
loop-key-preserved g c =
    let keys : List ℕ = c.args.keys.now in let at : ℕ = c.loop-key.key-index in let own : List ℕ = c.loop-key.numbers.items in
    one_more (λ key. key % 2 ^ 32) keys at own c.push.new.self.items c.loop-key-test.true c.loop-key.invariant c.in_ok-push.ensures.items

pub returns : goal.returns
returns g c = c.loop-key.invariant ∙ ap (map (λ key. key % 2 ^ 32)) (take_all c.loop-key.key-index c.args.keys.now c.loop-key-test.false)
