-- Facets on a screen have a grid, or a fault, and just one.
use Rattle.std.proofs.Common.{◌≡◌, ◌∙◌, ℕ, Bool, ◌≤◌, ◌<◌, ◌⊎◌, inl, inr, List, [], ◌∷◌, Some, refl, ap, sym, subst, arith}
use Rattle.std.specs.Prelude.{IsTrue, length, pos, ◌*ℤ◌, ◌<ℤ◌, ◌≤ℤ◌, ℤ, ◌↔◌}
use Rattle.std.proofs.lemmas.Int.{ints}
use Rattle.geometry.specs.BoundingBox.{Bounds, bounds}
use Rattle.geometry.specs.Facet.{Facet}
use Rattle.geometry.specs.Point.{Point}
use Rattle.raster.specs.Grid.{Grid, grid_with, middle}
use Rattle.part_on_screen.specs.Middle.{AreSizes, Fits, IsGridOfPart, IsGridOn, IsLayerCount, IsNoGrid, IsNoGridOfPart, ScreenIsInRange, screen_depth, screen_width}
use Rattle.part_on_screen.specs.Screen.{Screen}
use Rattle.part_on_screen.specs.declared.screen_fault.ScreenFault.{ScreenFault}
use Rattle.part_on_screen.specs.declared.screen_fault.ScreenFault.TheVariants as fault
use Rattle.part_on_screen.proofs.lemmas.Places.{all-in-range, one-start, point_at}
use Rattle.part_on_screen.proofs.lemmas.StretchedRays.{same-test}

-- ---- layers
not-fewer : (low high : ℤ) (step n m : ℕ) → IsLayerCount low high step n → IsLayerCount low high step m → n < m → ⊥
not-fewer low high step n m h k less = clash (middle low step n) (k.below_top n h.some less) h.no_more
  where
    clash : (z : ℤ) → z <ℤ (pos 2 *ℤ high) → (pos 2 *ℤ high) ≤ℤ z → ⊥
    clash z a b = omega (arith, ints, a, b)

one-count : (low high : ℤ) (step n m : ℕ) → IsLayerCount low high step n → IsLayerCount low high step m → n ≡ m
one-count low high step n m h k = by (not-fewer low high step n m h k) (not-fewer low high step m n k h)
  where
    by : (n < m → ⊥) → (m < n → ⊥) → n ≡ m
    by f g = grind (arith, f, g)

-- ---- one grid
same-grid : (g h : Grid) → g.origin.x ≡ h.origin.x → g.origin.y ≡ h.origin.y → g.origin.z ≡ h.origin.z → g.pitch ≡ h.pitch → g.layer_height ≡ h.layer_height
    → g.columns ≡ h.columns → g.rows ≡ h.rows → g.layers ≡ h.layers → g ≡ h
same-grid g h x y z pitch height columns rows layers =
    λ i. grid_with (point_at (x i) (y i) (z i)) (pitch i) (height i) (columns i) (rows i) (layers i)

one-grid-on : (s : Screen) (low high : Point) (layer_height : ℕ) (g h : Grid) → IsGridOn s low high layer_height g → IsGridOn s low high layer_height h → g ≡ h
one-grid-on s low high layer_height g h a b =
    same-grid g h
    (one-start low.x high.x (screen_width s) g.origin.x h.origin.x a.middle_x b.middle_x)
    (one-start low.y high.y (screen_depth s) g.origin.y h.origin.y a.middle_y b.middle_y)
    (a.first_layer ∙ sym b.first_layer) (a.pitch ∙ sym b.pitch) (a.layer_height_is ∙ sym b.layer_height_is)
    (a.columns ∙ sym b.columns) (a.rows ∙ sym b.rows)
    (one-count low.z high.z layer_height g.layers h.layers a.layers b.layers)

one-box : (facets : List Facet) (b c : Bounds) → bounds facets ≡ Some b → bounds facets ≡ Some c → c ≡ b
one-box facets b c e f = cc

pub one-grid : (s : Screen) (facets : List Facet) (layer_height : ℕ) (g h : Grid) → IsGridOfPart s facets layer_height g → IsGridOfPart s facets layer_height h → g ≡ h
one-grid s facets layer_height g h (b, e, on) (c, f, there) =
    one-grid-on s b.low b.high layer_height g h on
    (subst (λ (d : Bounds). IsGridOn s d.low d.high layer_height h) (one-box facets b c e f) there)

-- ---- no grid and a fault
no-box : (facets : List Facet) (b : Bounds) → bounds facets ≡ Some b → length facets ≡ 0 → ⊥
no-box [] b e h = cc
no-box (t ∷ ts) b e h = omega (arith, h)

clash-on : (s : Screen) (low high : Point) (layer_height : ℕ) (g : Grid) (f : ScreenFault) → IsGridOn s low high layer_height g → IsNoGrid s low high layer_height f → ⊥
clash-on s low high layer_height g (fault.DoesNotFit width depth width_of_screen depth_of_screen fits_turned) on (out, sizes, turned) = out on.fits
clash-on s low high layer_height g fault.ScreenOutOfRange on (fits, out) =
    out
    (record {
      along_x = all-in-range low.x high.x (screen_width s) g.origin.x on.middle_x on.range_x;
      along_y = all-in-range low.y high.y (screen_depth s) g.origin.y on.middle_y on.range_y;
    })
clash-on s low high layer_height g (fault.TooHigh layers) on (fits, range, count, many) =
    let same : g.layers ≡ layers = one-count low.z high.z layer_height g.layers layers on.layers count in
    omega (arith, same, many, on.few_layers)
clash-on s low high layer_height g fault.NoPixels on bad = bad
clash-on s low high layer_height g (fault.TooManyPixels columns rows) on bad = bad
clash-on s low high layer_height g fault.NoSide on bad = bad
clash-on s low high layer_height g fault.NoPitch on bad = bad
clash-on s low high layer_height g fault.NoFacets on bad = bad
clash-on s low high layer_height g fault.OutOfRange on bad = bad

pub grid-and-fault : (s : Screen) (facets : List Facet) (layer_height : ℕ) (g : Grid) (f : ScreenFault) → IsGridOfPart s facets layer_height g → IsNoGridOfPart s facets layer_height f → ⊥
grid-and-fault s facets layer_height g f (b, e, on) (inl (is, none)) = no-box facets b e none
grid-and-fault s facets layer_height g f (b, e, on) (inr (c, h, bad)) =
    clash-on s b.low b.high layer_height g f on
    (subst (λ (d : Bounds). IsNoGrid s d.low d.high layer_height f) (one-box facets b c e h) bad)

-- ---- one fault
-- the three faults of a box
abbrev Misfit : Screen → Point → Point → ScreenFault → Type 0
Misfit s low high f =
    (width : ℕ) × (depth : ℕ) × (wide : ℕ) × (deep : ℕ) × (turned : Bool) × (f ≡ fault.DoesNotFit width depth wide deep turned) × (Fits s low high → ⊥)
    × AreSizes s low high width depth wide deep × (IsTrue turned ↔ ((depth ≤ wide) × (width ≤ deep)))

abbrev Far : Screen → Point → Point → ScreenFault → Type 0
Far s low high f = (f ≡ fault.ScreenOutOfRange) × Fits s low high × (ScreenIsInRange s low high → ⊥)

abbrev High : Screen → Point → Point → ℕ → ScreenFault → Type 0
High s low high layer_height f =
    (layers : ℕ) × (f ≡ fault.TooHigh layers) × Fits s low high × ScreenIsInRange s low high × IsLayerCount low.z high.z layer_height layers

abbrev OneOf : Screen → Point → Point → ℕ → ScreenFault → Type 0
OneOf s low high layer_height f = Misfit s low high f ⊎ Far s low high f ⊎ High s low high layer_height f

one-of : (s : Screen) (low high : Point) (layer_height : ℕ) (f : ScreenFault) → IsNoGrid s low high layer_height f → OneOf s low high layer_height f
one-of s low high layer_height (fault.DoesNotFit width depth wide deep turned) (out, sizes, is) = inl (width, depth, wide, deep, turned, refl, out, sizes, is)
one-of s low high layer_height fault.ScreenOutOfRange (fits, out) = inr (inl (refl, fits, out))
one-of s low high layer_height (fault.TooHigh layers) (fits, range, count, many) = inr (inr (layers, refl, fits, range, count))
one-of s low high layer_height fault.NoPixels bad = absurd bad
one-of s low high layer_height (fault.TooManyPixels columns rows) bad = absurd bad
one-of s low high layer_height fault.NoSide bad = absurd bad
one-of s low high layer_height fault.NoPitch bad = absurd bad
one-of s low high layer_height fault.NoFacets bad = absurd bad
one-of s low high layer_height fault.OutOfRange bad = absurd bad

same-turn : (a b c d p q r u : ℕ) (t v : Bool) → a ≡ p → b ≡ q → c ≡ r → d ≡ u → (IsTrue t ↔ ((b ≤ c) × (a ≤ d))) → (IsTrue v ↔ ((q ≤ r) × (p ≤ u))) → t ≡ v
same-turn a b c d p q r u t v e f g h is js =
    same-test t v
    (λ k. let fits = is.0 k in js.1 (omega (arith, e, f, g, h, fits.0, fits.1), omega (arith, e, f, g, h, fits.0, fits.1)))
    (λ k. let fits = js.0 k in is.1 (omega (arith, e, f, g, h, fits.0, fits.1), omega (arith, e, f, g, h, fits.0, fits.1)))

one-of-one : (s : Screen) (low high : Point) (layer_height : ℕ) (f g : ScreenFault) → OneOf s low high layer_height f → OneOf s low high layer_height g → f ≡ g
one-of-one s low high layer_height f g (inl (a, b, c, d, t, e, out, m, is)) (inl (p, q, r, u, v, h, out', n, js)) =
    let width : a ≡ p = m.width_is ∙ sym n.width_is in
    let depth : b ≡ q = m.depth_is ∙ sym n.depth_is in
    let wide : c ≡ r = m.screen_width_is ∙ sym n.screen_width_is in
    let deep : d ≡ u = m.screen_depth_is ∙ sym n.screen_depth_is in
    e ∙ (λ i. fault.DoesNotFit (width i) (depth i) (wide i) (deep i) (same-turn a b c d p q r u t v width depth wide deep is js i)) ∙ sym h
one-of-one s low high layer_height f g (inl (a, b, c, d, t, e, out, m, is)) (inr (inl (h, fits, far))) = absurd (out fits)
one-of-one s low high layer_height f g (inl (a, b, c, d, t, e, out, m, is)) (inr (inr (n, h, fits, range, count))) = absurd (out fits)
one-of-one s low high layer_height f g (inr (inl (e, fits, far))) (inl (p, q, r, u, v, h, out, n, js)) = absurd (out fits)
one-of-one s low high layer_height f g (inr (inl (e, fits, far))) (inr (inl (h, fits', far'))) = e ∙ sym h
one-of-one s low high layer_height f g (inr (inl (e, fits, far))) (inr (inr (n, h, fits', range, count))) = absurd (far range)
one-of-one s low high layer_height f g (inr (inr (m, e, fits, range, count))) (inl (p, q, r, u, v, h, out, n, js)) = absurd (out fits)
one-of-one s low high layer_height f g (inr (inr (m, e, fits, range, count))) (inr (inl (h, fits', far))) = absurd (far range)
one-of-one s low high layer_height f g (inr (inr (m, e, fits, range, count))) (inr (inr (n, h, fits', range', count'))) =
    e ∙ ap (λ (k : ℕ). fault.TooHigh k) (one-count low.z high.z layer_height m n count count') ∙ sym h

pub one-fault : (s : Screen) (facets : List Facet) (layer_height : ℕ) (f g : ScreenFault) → IsNoGridOfPart s facets layer_height f → IsNoGridOfPart s facets layer_height g → f ≡ g
one-fault s facets layer_height f g (inl (e, none)) (inl (h, none')) = e ∙ sym h
one-fault s facets layer_height f g (inl (e, none)) (inr (b, h, bad)) = absurd (no-box facets b h none)
one-fault s facets layer_height f g (inr (b, e, bad)) (inl (h, none)) = absurd (no-box facets b e none)
one-fault s facets layer_height f g (inr (b, e, bad)) (inr (c, h, bad')) =
    one-of-one s b.low b.high layer_height f g (one-of s b.low b.high layer_height f bad)
    (one-of s b.low b.high layer_height g (subst (λ (d : Bounds). IsNoGrid s d.low d.high layer_height g) (one-box facets b c e h) bad'))
