-- Facets where they are placed: out of range or not, with an open edge between points of the part, and with one grid or one fault.
use Rattle.std.proofs.Common.{◌≡◌, ◌∙◌, ◌⊎◌, ℕ, Bool, true, false, ◌+◌, ◌≤◌, List, [], ◌∷◌, ap, arith, inl, inr, refl, subst, sym}
use Rattle.std.specs.Prelude.{Err, Ok, Result, cond, count_by, ◌&&◌}
use Rattle.geometry.specs.Facet.{Edge, Facet, edge, edges}
use Rattle.geometry.specs.Limits.{IsStep}
use Rattle.geometry.specs.Point.{Point, same}
use Rattle.mesh_weld.specs.Balance.{IsBalanced, IsLeastOpen, half_edge_count}
use Rattle.mesh_weld.specs.declared.weld_fault.WeldFault.TheVariants as weld
use Rattle.mesh_weld.proofs.lemmas.Edges.{count_by-cons, same-is}
use Rattle.mesh_weld.proofs.lemmas.LeastOpen.{closed_not_open, one_open}
use Rattle.part_on_screen.specs.Middle.{IsGridOfPart, IsNoGridOfPart}
use Rattle.part_on_screen.specs.Screen.{Screen}
use Rattle.part_on_screen.specs.Stretched.{on_screen, part_on_screen}
use Rattle.part_on_screen.specs.declared.screen_fault.ScreenFault.{ScreenFault}
use Rattle.part_on_screen.proofs.lemmas.Decided.{OrNot, reach-or-not, screen-or-not, step-or-not}
use Rattle.part_on_screen.proofs.lemmas.OneGrid.{grid-and-fault, one-fault, one-grid}
use Rattle.part_on_screen.proofs.lemmas.SomeGrid.{some-grid}
use Rattle.part_on_screen.proofs.lemmas.Standing.{points-stay-apart}
use Rattle.raster.specs.Grid.{Grid}
use Rattle.raster.specs.Placing.{placed_grid}
use Rattle.raster.specs.declared.grid.GridFault.{GridFault}
use Rattle.raster.specs.declared.placing.Placing.{Placing}
use Rattle.layer_session.specs.Place.{HasPitch, IsGridAt, IsInReach, IsNoGridAt, IsNoSolidAt, placed, point_placed}
use Rattle.layer_session.specs.declared.place.Place.{Place}
use Rattle.layer_session.specs.declared.place.Place.TheVariants as place
use Rattle.layer_session.specs.declared.session_fault.SessionFault.{SessionFault}
use Rattle.layer_session.specs.declared.session_fault.SessionFault.TheVariants as fault

-- ---- ends of edges
abbrev Stands : Screen → Point → Type 0
Stands s u = (p : Point) × (on_screen s p ≡ u)

abbrev HasEnds : Screen → Point → Point → Type 0
HasEnds s u v = Stands s u × Stands s v

first-of : (a b : Bool) → (a && b) ≡ true → a ≡ true
first-of true b h = refl
first-of false b h = h

second-of : (a b : Bool) → (a && b) ≡ true → b ≡ true
second-of true b h = h
second-of false b h = cc

ends-of : (s : Screen) (p q u v : Point) → (same (on_screen s p) u && same (on_screen s q) v) ≡ true → HasEnds s u v
ends-of s p q u v h = (
  (p, same-is (on_screen s p) u (first-of (same (on_screen s p) u) (same (on_screen s q) v) h)),
  (q, same-is (on_screen s q) v (second-of (same (on_screen s p) u) (same (on_screen s q) v) h)),
)

some-of-three : {E : Type 0} (a b c : Bool) (n : ℕ) → (a ≡ true → E) → (b ≡ true → E) → (c ≡ true → E) → (1 ≤ n → E)
    → 1 ≤ cond a 1 0 + (cond b 1 0 + (cond c 1 0 + n)) → E
some-of-three true b c n f g h k e = f refl
some-of-three false true c n f g h k e = g refl
some-of-three false false true n f g h k e = h refl
some-of-three false false false n f g h k e = k (omega (arith, e))

abbrev runs : Point → Point → Edge → Bool
runs u v e = same e.from u && same e.to v

three-more : (p : Edge → Bool) (a b c : Edge) (es : List Edge)
    → count_by p (a ∷ b ∷ c ∷ es) ≡ cond (p a) 1 0 + (cond (p b) 1 0 + (cond (p c) 1 0 + count_by p es))
three-more p a b c es =
    count_by-cons p a (b ∷ c ∷ es)
    ∙ ap (λ (n : ℕ). cond (p a) 1 0 + n)
    (count_by-cons p b (c ∷ es) ∙ ap (λ (n : ℕ). cond (p b) 1 0 + n) (count_by-cons p c es))

counted : (s : Screen) (facets : List Facet) (u v : Point) → 1 ≤ half_edge_count (part_on_screen s facets) u v → HasEnds s u v
counted s [] u v h = absurd (omega (arith, h))
counted s (t ∷ ts) u v h =
    some-of-three (same (on_screen s t.a) u && same (on_screen s t.b) v) (same (on_screen s t.b) u && same (on_screen s t.c) v)
    (same (on_screen s t.c) u && same (on_screen s t.a) v) (half_edge_count (part_on_screen s ts) u v)
    (ends-of s t.a t.b u v) (ends-of s t.b t.c u v) (ends-of s t.c t.a u v) (counted s ts u v)
    (subst (λ (n : ℕ). 1 ≤ n)
    (three-more (runs u v) (edge (on_screen s t.a) (on_screen s t.b)) (edge (on_screen s t.b) (on_screen s t.c)) (edge (on_screen s t.c) (on_screen s t.a))
    (edges (part_on_screen s ts))) h)

some-or-none : (n : ℕ) → (1 ≤ n) ⊎ (n ≡ 0)
some-or-none n = grind arith

on-screen-ends : (s : Screen) (facets : List Facet) (u v : Point) (there back : ℕ) → IsLeastOpen (part_on_screen s facets) u v there back → HasEnds s u v
on-screen-ends s facets u v there back h = by (some-or-none (half_edge_count (part_on_screen s facets) u v)) (some-or-none (half_edge_count (part_on_screen s facets) v u))
  where
    by : (1 ≤ half_edge_count (part_on_screen s facets) u v) ⊎ (half_edge_count (part_on_screen s facets) u v ≡ 0)
        → (1 ≤ half_edge_count (part_on_screen s facets) v u) ⊎ (half_edge_count (part_on_screen s facets) v u ≡ 0) → HasEnds s u v
    by (inl some) k = counted s facets u v some
    by (inr none) (inl some) = let ends = counted s facets v u some in (ends.1, ends.0)
    by (inr none) (inr none') = absurd (h.differ (h.there_is ∙ none ∙ sym none' ∙ sym h.back_is))

-- the ends of an open edge are points of the part
abbrev pub IsPlaced : Place → Point → Type 0
IsPlaced p there = (own : Point) × (point_placed p own ≡ there)

pub open-ends : (p : Place) (facets : List Facet) (u v : Point) (there back : ℕ) → IsLeastOpen (placed p facets) u v there back → IsPlaced p u × IsPlaced p v
open-ends (place.Grid pitch placing) facets u v there back h = ((u, refl), (v, refl))
open-ends (place.Screen s) facets u v there back h = on-screen-ends s facets u v there back h

point-apart : (p : Place) (u v : Point) → HasPitch p → point_placed p u ≡ point_placed p v → u ≡ v
point-apart (place.Grid pitch placing) u v is e = e
point-apart (place.Screen s) u v is e = points-stay-apart s u v is e

-- ---- range
pub reach-or-not-at : (p : Place) (facets : List Facet) → OrNot (IsInReach p facets)
reach-or-not-at (place.Grid pitch placing) facets = inl tt
reach-or-not-at (place.Screen s) facets = reach-or-not (part_on_screen s facets)

pub pitch-or-not : (p : Place) → OrNot (HasPitch p)
pitch-or-not (place.Grid pitch placing) = step-or-not pitch
pitch-or-not (place.Screen s) = screen-or-not s

-- ---- one solid or one fault
pub solid-and-fault : (p : Place) (facets : List Facet) (f : SessionFault) → IsInReach p facets → IsBalanced (placed p facets) → IsNoSolidAt p facets f → ⊥
solid-and-fault p facets f reach closed (inl (is, out)) = out reach
solid-and-fault p facets f reach closed (inr (reach', (from, to, there, back, is, o))) =
    closed_not_open (placed p facets) (point_placed p from) (point_placed p to) there back closed o

pub one-no-solid : (p : Place) (facets : List Facet) (f g : SessionFault) → HasPitch p → IsNoSolidAt p facets f → IsNoSolidAt p facets g → f ≡ g
one-no-solid p facets f g pitch (inl (is, out)) (inl (js, out')) = is ∙ sym js
one-no-solid p facets f g pitch (inl (is, out)) (inr (reach, bad)) = absurd (out reach)
one-no-solid p facets f g pitch (inr (reach, bad)) (inl (js, out)) = absurd (out reach)
one-no-solid p facets f g pitch (inr (reach, (a, b, m, n, is, o))) (inr (reach', (c, d, m', n', js, o'))) =
    let same = one_open (placed p facets) (point_placed p a) (point_placed p b) (point_placed p c) (point_placed p d) m n m' n' o o' in
    let from = point-apart p a c pitch same.0 in
    let to = point-apart p b d pitch same.1 in
    is ∙ (λ i. fault.Weld (weld.Open (from i) (to i) (same.2 i) (same.3 i))) ∙ sym js

-- ---- one grid or one fault
pub one-grid-at : (p : Place) (layer : ℕ) (facets : List Facet) (g h : Grid) → IsGridAt p layer facets g → IsGridAt p layer facets h → g ≡ h
one-grid-at (place.Grid pitch placing) layer facets g h is js = cc
one-grid-at (place.Screen s) layer facets g h is js = one-grid s facets layer g h is js

pub grid-and-fault-at : (p : Place) (layer : ℕ) (facets : List Facet) (g : Grid) (f : SessionFault) → IsGridAt p layer facets g → IsNoGridAt p layer facets f → ⊥
grid-and-fault-at (place.Grid pitch placing) layer facets g f is (cause, e, bad) = cc
grid-and-fault-at (place.Screen s) layer facets g f is (cause, e, bad) = grid-and-fault s facets layer g cause is bad

pub one-fault-at : (p : Place) (layer : ℕ) (facets : List Facet) (f g : SessionFault) → IsNoGridAt p layer facets f → IsNoGridAt p layer facets g → f ≡ g
one-fault-at (place.Grid pitch placing) layer facets f g (cause, e, bad) (cause', h, bad') = cc
one-fault-at (place.Screen s) layer facets f g (cause, e, bad) (cause', h, bad') =
    e ∙ ap (λ (x : ScreenFault). fault.Screen x) (one-fault s facets layer cause cause' bad bad') ∙ sym h

abbrev Outcome : Place → ℕ → List Facet → Type 0
Outcome p layer facets = ((g : Grid) × IsGridAt p layer facets g) ⊎ ((f : SessionFault) × IsNoGridAt p layer facets f)

of-placed : (pitch : ℕ) (placing : Placing) (layer : ℕ) (facets : List Facet) (r : Result Grid GridFault) → placed_grid placing facets pitch layer ≡ r
    → Outcome (place.Grid pitch placing) layer facets
of-placed pitch placing layer facets (Ok g) e = inl (g, e)
of-placed pitch placing layer facets (Err cause) e = inr (fault.Grid cause, (cause, refl, e))

of-screen : (s : Screen) (layer : ℕ) (facets : List Facet)
    → ((g : Grid) × IsGridOfPart s facets layer g) ⊎ ((f : ScreenFault) × IsNoGridOfPart s facets layer f) → Outcome (place.Screen s) layer facets
of-screen s layer facets (inl (g, is)) = inl (g, is)
of-screen s layer facets (inr (cause, bad)) = inr (fault.Screen cause, (cause, refl, bad))

pub some-grid-at : (p : Place) (layer : ℕ) (facets : List Facet) → IsStep layer → Outcome p layer facets
some-grid-at (place.Grid pitch placing) layer facets step = of-placed pitch placing layer facets (placed_grid placing facets pitch layer) refl
some-grid-at (place.Screen s) layer facets step = of-screen s layer facets (some-grid s facets layer step)
