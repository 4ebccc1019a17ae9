-- A node is an edge without direction, by the numbers of its vertices, the lower one first.
use Rattle.std.specs.Prelude.{ℕ, min, max, Bool, ◌&&◌, ◌==◌}

-- an edge by the numbers of its vertices
pub record Node : Type 0 where
  pub low : ℕ
  pub high : ℕ

-- the node of the edge between two vertices, by their numbers
abbrev pub between : ℕ → ℕ → Node
between m n = record { low = min m n; high = max m n }

-- the same node
abbrev pub is_node : Node → Node → Bool
is_node a b = a.low == b.low && a.high == b.high
