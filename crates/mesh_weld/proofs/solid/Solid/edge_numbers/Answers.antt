use Rattle.std.proofs.Common.{◌≡◌, ◌/◌, List, ℕ, length, ap, ◌∙◌, arith}
use Rattle.std.specs.Simd.{first_chunks}
use Rattle.mesh_weld.specs.Numbering.{threes}
use Rattle.mesh_weld.proofs.lemmas.EdgeNumbering.{threes_by_count}
use Rattle.mesh_weld.proofs.solid.Solid.edge_numbers.Goals as goal

in_threes : (xs ys : List ℕ) → xs ≡ ys → first_chunks 3 (length xs / 3) xs ≡ threes ys
in_threes xs ys e = threes_by_count (length xs / 3) xs (omega arith) (omega arith) ∙ ap threes e

pub returns : goal.returns
returns g c =
    (c.self.inside.numbering.edges.count, rw (c.as_chunks.ensures.front ∙ in_threes _ _ c.as_slice.ensures.value, ← c.self.view_is) c.self.invariant.0.edges_are)
