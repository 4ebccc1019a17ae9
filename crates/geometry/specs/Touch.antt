-- When a point lies on a facet, and when a facet meets the segment between two points. Both are stated by whole weights of the
-- corners: barycentric coordinates without the division. All coordinates are in half-micrometres.
use Rattle.std.specs.Prelude.{◌≡◌, ℕ, ◌+◌, ◌<◌, pos, ◌+ℤ◌, ◌*ℤ◌}
use Rattle.geometry.specs.Point.{Point}
use Rattle.geometry.specs.Facet.{Facet}

-- p lies on the facet: it is a weighted mean of the corners
pub record Touches (t : Facet) (p : Point) : Type 0 where
  pub of_a : ℕ
  pub of_b : ℕ
  pub of_c : ℕ
  pub some : 0 < of_a + of_b + of_c
  pub mean_x : pos of_a *ℤ t.a.x +ℤ pos of_b *ℤ t.b.x +ℤ pos of_c *ℤ t.c.x ≡ pos (of_a + of_b + of_c) *ℤ p.x
  pub mean_y : pos of_a *ℤ t.a.y +ℤ pos of_b *ℤ t.b.y +ℤ pos of_c *ℤ t.c.y ≡ pos (of_a + of_b + of_c) *ℤ p.y
  pub mean_z : pos of_a *ℤ t.a.z +ℤ pos of_b *ℤ t.b.z +ℤ pos of_c *ℤ t.c.z ≡ pos (of_a + of_b + of_c) *ℤ p.z

-- some point of the facet lies between p and q, or is one of them
pub record Between (t : Facet) (p q : Point) : Type 0 where
  pub of_a : ℕ
  pub of_b : ℕ
  pub of_c : ℕ
  pub some : 0 < of_a + of_b + of_c
  pub of_p : ℕ
  pub of_q : ℕ
  pub some_end : 0 < of_p + of_q
  pub mean_x : pos (of_p + of_q) *ℤ (pos of_a *ℤ t.a.x +ℤ pos of_b *ℤ t.b.x +ℤ pos of_c *ℤ t.c.x)
      ≡ pos (of_a + of_b + of_c) *ℤ (pos of_p *ℤ p.x +ℤ pos of_q *ℤ q.x)
  pub mean_y : pos (of_p + of_q) *ℤ (pos of_a *ℤ t.a.y +ℤ pos of_b *ℤ t.b.y +ℤ pos of_c *ℤ t.c.y)
      ≡ pos (of_a + of_b + of_c) *ℤ (pos of_p *ℤ p.y +ℤ pos of_q *ℤ q.y)
  pub mean_z : pos (of_p + of_q) *ℤ (pos of_a *ℤ t.a.z +ℤ pos of_b *ℤ t.b.z +ℤ pos of_c *ℤ t.c.z)
      ≡ pos (of_a + of_b + of_c) *ℤ (pos of_p *ℤ p.z +ℤ pos of_q *ℤ q.z)
