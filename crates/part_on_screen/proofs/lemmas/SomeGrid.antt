-- Facets on a screen have a grid or a fault.
use Rattle.std.proofs.Common.{◌≡◌, ℕ, Bool, true, false, ◌+◌, ◌-◌, ◌*◌, ◌/◌, ◌≤◌, ◌<◌, ◌⊎◌, inl, inr, List, [], ◌∷◌, Some, None, max, refl, subst, arith}
use Rattle.std.specs.Prelude.{IfSome, IsTrue, Option, length, nat_abs, neg_ℤ, option_map, pos, ◌+ℤ◌, ◌-ℤ◌, ◌<ℤ◌, ◌≤ℤ◌, ℤ, ◌↔◌}
use Rattle.std.proofs.lemmas.Int.{ints}
use Rattle.std.proofs.lemmas.Bool.{false≢true}
use Rattle.exact_int.specs.Bounds.{IsAtMost}
use Rattle.exact_int.proofs.lemmas.Signs.{at_most_or_above}
use Rattle.geometry.specs.BoundingBox.{Bounds, IsBox, bounds, corner_pair}
use Rattle.geometry.specs.Facet.{Facet}
use Rattle.geometry.specs.Limits.{IsStep}
use Rattle.geometry.specs.Point.{Point}
use Rattle.geometry.specs.declared.limits.TheConstants.{COORDINATE_LIMIT, LAYER_LIMIT}
use Rattle.raster.specs.Grid.{Grid, grid_with}
use Rattle.raster.proofs.lemmas.Boxes.{bounds-box}
use Rattle.part_on_screen.specs.Middle.{Fits, IsGridOfPart, IsGridOn, IsInMiddle, IsInRange, IsLayerCount, IsNoGrid, IsNoGridOfPart, extent, screen_depth, screen_width}
use Rattle.part_on_screen.specs.Screen.{Screen}
use Rattle.part_on_screen.specs.declared.screen_fault.ScreenFault.{ScreenFault}
use Rattle.part_on_screen.specs.declared.screen_fault.ScreenFault.TheVariants as fault
use Rattle.part_on_screen.proofs.lemmas.Decided.{OrNot, at-most, both, near-or-not}
use Rattle.part_on_screen.proofs.lemmas.Layers.{layers-of}
use Rattle.part_on_screen.proofs.lemmas.Places.{all-in-range, grid-on, point_at}

-- ---- the start of a range in the middle
half-down : (n : ℕ) → (2 * (n / 2) ≤ n) × (n ≤ 2 * (n / 2) + 1)
half-down n = (omega arith, omega arith)

start-of : (low high : ℤ) (length : ℕ) → (start : ℤ) × IsInMiddle low high length start
start-of low high length = by (at_most_or_above (pos 0) (low +ℤ high -ℤ pos length))
  where
    by : (pos 0 ≤ℤ (low +ℤ high -ℤ pos length)) ⊎ ((low +ℤ high -ℤ pos length) <ℤ pos 0) → (start : ℤ) × IsInMiddle low high length start
    by (inl some) = above (nat_abs (low +ℤ high -ℤ pos length)) (omega (arith, ints, some))
      where
        above : (n : ℕ) → pos n ≡ low +ℤ high -ℤ pos length → (start : ℤ) × IsInMiddle low high length start
        above n e = half (n / 2) (half-down n)
          where
            half : (m : ℕ) → (2 * m ≤ n) × (n ≤ 2 * m + 1) → (start : ℤ) × IsInMiddle low high length start
            half m h = (pos m, record { not_above = omega (arith, ints, e, h.0); near = omega (arith, ints, e, h.1) })
    by (inr none) = below (nat_abs (low +ℤ high -ℤ pos length)) (omega (arith, ints, none))
      where
        below : (n : ℕ) → neg_ℤ (pos n) ≡ low +ℤ high -ℤ pos length → (start : ℤ) × IsInMiddle low high length start
        below n e = half ((n + 1) / 2) (half-down (n + 1))
          where
            half : (m : ℕ) → (2 * m ≤ n + 1) × (n + 1 ≤ 2 * m + 1) → (start : ℤ) × IsInMiddle low high length start
            half m h = (neg_ℤ (pos m), record { not_above = omega (arith, ints, e, h.1); near = omega (arith, ints, e, h.0) })

in-range-or-not : (length : ℕ) (start : ℤ) → OrNot (IsInRange length start)
in-range-or-not length start = by (both (near-or-not start) (near-or-not (start +ℤ pos length)))
  where
    by : OrNot (IsAtMost COORDINATE_LIMIT start × IsAtMost COORDINATE_LIMIT (start +ℤ pos length)) → OrNot (IsInRange length start)
    by (inl h) = inl (record { first = h.0; last = h.1 })
    by (inr bad) = inr (λ h. bad (h.first, h.last))

fits-or-not : (s : Screen) (low high : Point) → OrNot (Fits s low high)
fits-or-not s low high = by (both (at-most (extent low.x high.x) (screen_width s)) (at-most (extent low.y high.y) (screen_depth s)))
  where
    by : OrNot ((extent low.x high.x ≤ screen_width s) × (extent low.y high.y ≤ screen_depth s)) → OrNot (Fits s low high)
    by (inl h) = inl (record { along_x = h.0; along_y = h.1 })
    by (inr bad) = inr (λ h. bad (h.along_x, h.along_y))

told : {X : Type 0} → OrNot X → (b : Bool) × (IsTrue b ↔ X)
told (inl x) = (true, ((λ h. x), (λ h. refl)))
told (inr bad) = (false, ((λ h. absurd (false≢true h)), (λ x. absurd (bad x))))

-- ---- a box
abbrev Outcome : Screen → Point → Point → ℕ → Type 0
Outcome s low high layer_height = ((g : Grid) × IsGridOn s low high layer_height g) ⊎ ((f : ScreenFault) × IsNoGrid s low high layer_height f)

box-outcome : (s : Screen) (low high : Point) (layer_height : ℕ) → IsBox low high → 1 ≤ layer_height → Outcome s low high layer_height
box-outcome s low high layer_height box some = by-fit (fits-or-not s low high)
  where
    count : ℕ
    count = max ((2 * extent low.z high.z + layer_height - 1) / (2 * layer_height)) 1

    layers : IsLayerCount low.z high.z layer_height count
    layers = layers-of low.z high.z layer_height (extent low.z high.z) count refl box.z some refl

    by-count : (x y : ℤ) → Fits s low high → IsInMiddle low.x high.x (screen_width s) x → IsInMiddle low.y high.y (screen_depth s) y
        → IsInRange (screen_width s) x → IsInRange (screen_depth s) y → OrNot (count ≤ LAYER_LIMIT) → Outcome s low high layer_height
    by-count x y fits in_x in_y range_x range_y (inl few) =
        inl (
          grid_with (point_at x y low.z) s.pitch layer_height s.columns s.rows count,
          grid-on s low high layer_height x y count _ (point_at x y low.z) refl refl fits in_x in_y range_x range_y layers few,
        )
    by-count x y fits in_x in_y range_x range_y (inr many) =
        inr (
          fault.TooHigh count,
          (
            fits,
            record {
              along_x = all-in-range low.x high.x (screen_width s) x in_x range_x;
              along_y = all-in-range low.y high.y (screen_depth s) y in_y range_y;
            },
            layers,
            above count LAYER_LIMIT many,
          ),
        )
      where
        above : (m n : ℕ) → (m ≤ n → ⊥) → n < m
        above m n bad = grind (arith, bad)

    by-range : (x y : ℤ) → Fits s low high → IsInMiddle low.x high.x (screen_width s) x → IsInMiddle low.y high.y (screen_depth s) y
        → OrNot (IsInRange (screen_width s) x × IsInRange (screen_depth s) y) → Outcome s low high layer_height
    by-range x y fits in_x in_y (inl range) = by-count x y fits in_x in_y range.0 range.1 (at-most count LAYER_LIMIT)
    by-range x y fits in_x in_y (inr out) = inr (fault.ScreenOutOfRange, (fits, λ r. out (r.along_x x in_x, r.along_y y in_y)))

    by-fit : OrNot (Fits s low high) → Outcome s low high layer_height
    by-fit (inl fits) =
        let x = start-of low.x high.x (screen_width s) in
        let y = start-of low.y high.y (screen_depth s) in
        by-range x.0 y.0 fits x.1 y.1 (both (in-range-or-not (screen_width s) x.0) (in-range-or-not (screen_depth s) y.0))
    by-fit (inr out) = misfit (extent low.x high.x / s.times_x) (extent low.y high.y / s.times_y) (screen_width s / s.times_x) (screen_depth s / s.times_y) refl refl refl refl
      where
        misfit : (w d wide deep : ℕ) → w ≡ extent low.x high.x / s.times_x → d ≡ extent low.y high.y / s.times_y → wide ≡ screen_width s / s.times_x → deep ≡ screen_depth s / s.times_y
            → Outcome s low high layer_height
        misfit w d wide deep e f g h =
            let turned = told (both (at-most d wide) (at-most w deep)) in
            inr (fault.DoesNotFit w d wide deep turned.0, (out, record { width_is = e; depth_is = f; screen_width_is = g; screen_depth_is = h }, turned.1))

-- ---- facets
pub some-grid : (s : Screen) (facets : List Facet) (layer_height : ℕ) → IsStep layer_height
    → ((g : Grid) × IsGridOfPart s facets layer_height g) ⊎ ((f : ScreenFault) × IsNoGridOfPart s facets layer_height f)
some-grid s facets layer_height step = by facets (bounds facets) refl
  where
    box-in : (facets : List Facet) (b : Bounds) → bounds facets ≡ Some b → IsBox b.low b.high
    box-in facets b e = subst (λ (o : Option Bounds). IfSome (option_map corner_pair o) (λ c. IsBox c.0 c.1)) e (bounds-box facets)

    of-box : (facets : List Facet) (b : Bounds) → bounds facets ≡ Some b → Outcome s b.low b.high layer_height
        → ((g : Grid) × IsGridOfPart s facets layer_height g) ⊎ ((f : ScreenFault) × IsNoGridOfPart s facets layer_height f)
    of-box facets b e (inl (g, on)) = inl (g, (b, e, on))
    of-box facets b e (inr (f, bad)) = inr (f, inr (b, e, bad))

    by : (facets : List Facet) (o : Option Bounds) → bounds facets ≡ o
        → ((g : Grid) × IsGridOfPart s facets layer_height g) ⊎ ((f : ScreenFault) × IsNoGridOfPart s facets layer_height f)
    by [] None e = inr (fault.NoFacets, inl (refl, refl))
    by (t ∷ ts) None e = absurd (cc)
    by [] (Some b) e = absurd (cc)
    by (t ∷ ts) (Some b) e = of-box (t ∷ ts) b e (box-outcome s b.low b.high layer_height (box-in (t ∷ ts) b e) step.0)
