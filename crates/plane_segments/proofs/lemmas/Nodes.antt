-- Two nodes are the same if their numbers are.
use Rattle.std.proofs.Common.{◌≡◌, true, ap, eqb, ◌&&◌}
use Rattle.std.proofs.lemmas.Bool.{and_parts, eqb-true, eq-eqb}
use Rattle.plane_segments.specs.Node.{Node, is_node}

pub node-is : (a b : Node) → is_node a b ≡ true → a ≡ b
node-is a b h =
    let parts = and_parts (eqb a.low b.low) (eqb a.high b.high) h in
    λ i. record { low = eqb-true a.low b.low parts.0 i; high = eqb-true a.high b.high parts.1 i }

pub own_node : (a b : Node) → a ≡ b → is_node a b ≡ true
own_node a b h = λ i. (eq-eqb a.low b.low (ap (λ n. n.low) h) i) && (eq-eqb a.high b.high (ap (λ n. n.high) h) i)
