-- What can be decided: limits of numbers, of points, of facets and of screens.
use Rattle.std.proofs.Common.{◌≤◌, ◌⊎◌, ℕ, List, [], ◌∷◌, inl, inr, arith}
use Rattle.std.specs.Prelude.{unsigned_abs, ℤ}
use Rattle.std.proofs.lemmas.List.Elements.{All-cons, All-head, All-nil, All-tail}
use Rattle.exact_int.specs.Bounds.{IsAtMost}
use Rattle.geometry.specs.Facet.{Facet}
use Rattle.geometry.specs.Limits.{IsStep}
use Rattle.geometry.specs.Point.{IsMeshPoint, Point}
use Rattle.geometry.specs.declared.limits.TheConstants.{COLUMN_LIMIT, COORDINATE_LIMIT, STEP_LIMIT}
use Rattle.part_on_screen.specs.Middle.{HasMeshPoints, IsInReach}
use Rattle.part_on_screen.specs.Screen.{IsCount, IsScreen, Screen}

abbrev pub OrNot : Type 0 → Type 0
OrNot X = X ⊎ (X → ⊥)

pub at-most : (m n : ℕ) → OrNot (m ≤ n)
at-most m n = grind arith

pub both : {X Y : Type 0} → OrNot X → OrNot Y → OrNot (X × Y)
both (inl x) (inl y) = inl (x, y)
both (inl x) (inr bad) = inr (λ h. bad h.1)
both (inr bad) y = inr (λ h. bad h.0)

three : {X Y Z : Type 0} → OrNot X → OrNot Y → OrNot Z → OrNot (X × Y × Z)
three (inl x) (inl y) (inl z) = inl (x, y, z)
three (inl x) (inl y) (inr bad) = inr (λ h. bad h.2)
three (inl x) (inr bad) z = inr (λ h. bad h.1)
three (inr bad) y z = inr (λ h. bad h.0)

pub near-or-not : (z : ℤ) → OrNot (IsAtMost COORDINATE_LIMIT z)
near-or-not z = by (at-most (unsigned_abs z) COORDINATE_LIMIT)
  where
    by : OrNot (unsigned_abs z ≤ COORDINATE_LIMIT) → OrNot (IsAtMost COORDINATE_LIMIT z)
    by (inl h) = inl (record { at_most = h })
    by (inr bad) = inr (λ h. bad h.at_most)

point-or-not : (p : Point) → OrNot (IsMeshPoint p)
point-or-not p = three (near-or-not p.x) (near-or-not p.y) (near-or-not p.z)

pub reach-or-not : (facets : List Facet) → OrNot (IsInReach facets)
reach-or-not [] = inl (All-nil HasMeshPoints)
reach-or-not (t ∷ ts) = by (both (three (point-or-not t.a) (point-or-not t.b) (point-or-not t.c)) (reach-or-not ts))
  where
    by : OrNot (HasMeshPoints t × IsInReach ts) → OrNot (IsInReach (t ∷ ts))
    by (inl h) = inl (All-cons HasMeshPoints t ts h.0 h.1)
    by (inr bad) = inr (λ h. bad (All-head HasMeshPoints t ts h, All-tail HasMeshPoints t ts h))

pub step-or-not : (n : ℕ) → OrNot (IsStep n)
step-or-not n = both (at-most 1 n) (at-most n STEP_LIMIT)

count-or-not : (n : ℕ) → OrNot (IsCount n)
count-or-not n = both (at-most 1 n) (at-most n COLUMN_LIMIT)

pub screen-or-not : (s : Screen) → OrNot (IsScreen s)
screen-or-not s =
    by (both (both (count-or-not s.columns) (count-or-not s.rows)) (both (step-or-not s.pitch) (both (at-most 1 s.times_x) (at-most 1 s.times_y))))
  where
    by : OrNot ((IsCount s.columns × IsCount s.rows) × (IsStep s.pitch × ((1 ≤ s.times_x) × (1 ≤ s.times_y)))) → OrNot (IsScreen s)
    by (inl h) = inl (record { columns = h.0.0; rows = h.0.1; pitch = h.1.0; times_x = h.1.1.0; times_y = h.1.1.1 })
    by (inr bad) = inr (λ h. bad ((h.columns, h.rows), (h.pitch, (h.times_x, h.times_y))))
