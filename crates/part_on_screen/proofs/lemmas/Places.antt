-- A screen with a part in its middle, and its grid.
use Rattle.std.proofs.Common.{◌≡◌, ℕ, ◌+◌, ◌-◌, ◌*◌, ◌/◌, ◌<◌, ◌≤◌, ◌⊎◌, inl, inr, List, [], ◌∷◌, Some, None, Ok, Err, Result, refl, ap, sym, ◌∙◌, subst, arith}
use Rattle.std.specs.Prelude.{IfErr, IfSome, Option, length, option_map, ℤ, pos, ◌+ℤ◌, ◌-ℤ◌, ◌*ℤ◌, ◌≤ℤ◌, ◌<ℤ◌, unsigned_abs}
use Rattle.std.proofs.lemmas.Int.{ints}
use Rattle.exact_int.specs.Bounds.{IsAtMost}
use Rattle.exact_int.specs.Division.{IsCeilDiv}
use Rattle.exact_int.proofs.lemmas.Signs.{antisym}
use Rattle.exact_int.proofs.lemmas.Sizes.{at_most_by}
use Rattle.geometry.specs.BoundingBox.{Bounds, bounds, extent}
use Rattle.geometry.specs.Facet.{Facet}
use Rattle.geometry.specs.Limits.{IsStep}
use Rattle.geometry.specs.declared.limits.TheConstants.{CENTRE_LIMIT, COORDINATE_LIMIT, LAYER_LIMIT}
use Rattle.geometry.specs.Point.{Point}
use Rattle.raster.specs.Grid.{Grid, given_grid, grid_with, middle}
use Rattle.raster.specs.declared.grid.GridFault.{GridFault}
use Rattle.raster.proofs.lemmas.Boxes.{bounds-back, box_of}
use Rattle.raster.proofs.lemmas.Grids.{grid-given}
use Rattle.part_on_screen.specs.Screen.{IsScreen, Screen}
use Rattle.part_on_screen.proofs.lemmas.Pitches.{below-or-not}
use Rattle.part_on_screen.specs.Middle.{Fits, IsGridOn, IsInMiddle, IsInRange, IsLayerCount, screen_depth, screen_width}

-- half of a number, rounded down, by the division that rounds up
pub half-of : (low high : ℤ) (length : ℕ) (n q : ℤ) → n ≡ low +ℤ high -ℤ pos length -ℤ pos 1 → IsCeilDiv q n (pos 2) → IsInMiddle low high length q
half-of low high length n q e h =
    let up : n ≤ℤ (q *ℤ pos 2) = (h q).0 (omega (arith, ints)) in
    let down : ((q -ℤ pos 1) *ℤ pos 2) <ℤ n = above n ((q -ℤ pos 1) *ℤ pos 2) (λ le. never q ((h (q -ℤ pos 1)).1 le)) in
    record { not_above = omega (arith, ints, e, down); near = omega (arith, ints, e, up) }
  where
    never : (q : ℤ) → q ≤ℤ (q -ℤ pos 1) → ⊥
    never q h = omega (arith, ints, h)

    above : (a b : ℤ) → (a ≤ℤ b → ⊥) → b <ℤ a
    above a b h = grind (arith, ints, h)

pub middle-from : {n : ℤ} (low high : ℤ) (length : ℕ) (a b m q : ℤ) → IsCeilDiv q n (pos 2) → n ≡ a +ℤ b -ℤ m -ℤ pos 1 → a ≡ low → b ≡ high → m ≡ pos length → IsInMiddle low high length q
middle-from {n} low high length a b m q h e f g k =
    half-of low high length n q (e ∙ ap (λ u. u +ℤ b -ℤ m -ℤ pos 1) f ∙ ap (λ u. low +ℤ u -ℤ m -ℤ pos 1) g ∙ ap (λ u. low +ℤ high -ℤ u -ℤ pos 1) k) h

-- there is one such start
pub one-start : (low high : ℤ) (length : ℕ) (a b : ℤ) → IsInMiddle low high length a → IsInMiddle low high length b → a ≡ b
one-start low high length a b h k =
    antisym a b (omega (arith, ints, h.not_above, k.near)) (omega (arith, ints, k.not_above, h.near))

pub all-in-range : (low high : ℤ) (length : ℕ) (a : ℤ) → IsInMiddle low high length a → IsInRange length a
    → (start : ℤ) → IsInMiddle low high length start → IsInRange length start
all-in-range low high length a h k start m = subst (IsInRange length) (one-start low high length a start h m) k

pub still-in-range : {y : ℤ} (x r m : ℤ) (length : ℕ) → IsAtMost COORDINATE_LIMIT y → y ≡ r +ℤ m → x ≡ r → m ≡ pos length → IsAtMost COORDINATE_LIMIT (x +ℤ pos length)
still-in-range {y} x r m length h e f g = at_most_by y (ap (λ u. u +ℤ pos length) f ∙ ap (λ u. r +ℤ u) (sym g) ∙ sym e) h

-- the centre of the last pixel
pub last-pixel : (start : ℤ) (count step : ℕ) → 1 ≤ count → IsInRange (count * step) start → middle start step (count - 1) ≤ℤ pos CENTRE_LIMIT
last-pixel start count step some h =
    within (count * step) (step * (2 * (count - 1) + 1)) (shorter (count - 1) count (omega (arith, some))) h.last.at_most
  where
    shorter : (m n : ℕ) → n ≡ m + 1 → step * (2 * m + 1) ≤ 2 * (n * step)
    shorter m n e = rw e (omega arith)

    within : (n k : ℕ) → k ≤ 2 * n → unsigned_abs (start +ℤ pos n) ≤ COORDINATE_LIMIT → (pos 2 *ℤ start +ℤ pos k) ≤ℤ pos CENTRE_LIMIT
    within n k le near = omega (arith, ints, le, near)

-- the plane of the last layer
pub last-layer : (low high : ℤ) (step count : ℕ) → IsAtMost COORDINATE_LIMIT low → high ≤ℤ pos COORDINATE_LIMIT → IsStep step → IsLayerCount low high step count
    → middle low step (count - 1) ≤ℤ pos CENTRE_LIMIT
last-layer low high step count near top step_in h = by (below-or-not 1 count)
  where
    first : (k : ℕ) → k ≡ step → (pos 2 *ℤ low +ℤ pos k) ≤ℤ pos CENTRE_LIMIT
    first k e = let n = near.at_most in let s = step_in.1 in omega (arith, ints, e, n, s)

    single : (m : ℕ) → m ≡ 0 → step * (2 * m + 1) ≡ step
    single m e = rw e (omega arith)

    below : (k : ℕ) → (pos 2 *ℤ low +ℤ pos k) <ℤ (pos 2 *ℤ high) → (pos 2 *ℤ low +ℤ pos k) ≤ℤ pos CENTRE_LIMIT
    below k under = omega (arith, ints, under, top)

    by : (1 < count) ⊎ (count ≤ 1) → middle low step (count - 1) ≤ℤ pos CENTRE_LIMIT
    by (inl more) = below (step * (2 * (count - 1) + 1)) (h.below_top (count - 1) (omega (arith, more)) (omega (arith, more)))
    by (inr one) = first (step * (2 * (count - 1) + 1)) (single (count - 1) (omega (arith, one)))

abbrev pub point_at : ℤ → ℤ → ℤ → Point
point_at x y z = record { x = x; y = y; z = z }

-- the grid with its least corner at a point
pub grid-there : (s : Screen) (x y z high : ℤ) (step count : ℕ) → IsScreen s → IsInRange (screen_width s) x → IsInRange (screen_depth s) y → IsAtMost COORDINATE_LIMIT z → IsStep step
    → count ≤ LAYER_LIMIT → high ≤ℤ pos COORDINATE_LIMIT → IsLayerCount z high step count
    → given_grid (grid_with (point_at x y z) s.pitch step s.columns s.rows count) ≡ Ok (grid_with (point_at x y z) s.pitch step s.columns s.rows count)
grid-there s x y z high step count is along_x along_y near step_in few top layers =
    (grid-given (grid_with (point_at x y z) s.pitch step s.columns s.rows count) (along_x.first, along_y.first, near) is.pitch step_in).1
    (record {
      origin = (along_x.first, along_y.first, near);
      pitch = is.pitch;
      layer_height = step_in;
      columns_low = is.columns.0;
      columns_high = is.columns.1;
      rows_low = is.rows.0;
      rows_high = is.rows.1;
      layers_low = layers.some;
      layers_high = few;
      last_x = last-pixel x s.columns s.pitch is.columns.0 along_x;
      last_y = last-pixel y s.rows s.pitch is.rows.0 along_y;
      last_z = last-layer z high step count near top step_in layers;
    })

-- the box that a call returned
pub bounds-from : (facets : List Facet) (c : _) → extent facets ≡ Some c → bounds facets ≡ Some (box_of c)
bounds-from facets c e = sym (bounds-back (bounds facets)) ∙ ap (option_map box_of) e

pub empty-from : (facets : List Facet) → extent facets ≡ None → length facets ≡ 0
empty-from [] e = refl
empty-from (t ∷ ts) e = cc

-- what holds of a fault, by what it follows from
pub of-fault : {X E : Type 0} {P : E → Type 0} (r : Result X E) (Q : E → Type 0) → IfErr r P → ((e : E) → P e → Q e) → IfErr r Q
of-fault (Ok x) Q h f = tt
of-fault (Err e) Q h f = f e h

pub moved : {y : ℤ} (r m : ℤ) (length : ℕ) → y ≡ r +ℤ m → m ≡ pos length → y ≡ r +ℤ pos length
moved r m length e f = e ∙ ap (λ u. r +ℤ u) f

pub of-some : {X : Type 0} (r : Option X) (P Q : X → Type 0) → ((x : X) → P x → Q x) → IfSome r P → IfSome r Q
of-some None P Q f h = tt
of-some (Some x) P Q f h = f x h

-- a point by its coordinates
pub point-by : (p q : Point) → p.x ≡ q.x → p.y ≡ q.y → p.z ≡ q.z → p ≡ q
point-by p q e f g = λ i. record { x = e i; y = f i; z = g i }

-- what `Grid::given` returns
pub given-there : {s : Screen} {o : Point} (t : Screen) (r : Result Grid GridFault) (x y z high : ℤ) (step count : ℕ) → s ≡ t
    → r ≡ given_grid (grid_with o s.pitch step s.columns s.rows count) → o ≡ point_at x y z → IsScreen s
    → IsInRange (screen_width t) x → IsInRange (screen_depth t) y → IsAtMost COORDINATE_LIMIT z → IsStep step
    → count ≤ LAYER_LIMIT → high ≤ℤ pos COORDINATE_LIMIT → IsLayerCount z high step count
    → r ≡ Ok (grid_with (point_at x y z) t.pitch step t.columns t.rows count)
given-there {s} {o} t r x y z high step count g e f is along_x along_y near step_in few top layers =
    e ∙ ap (λ (p : Point). given_grid (grid_with p s.pitch step s.columns s.rows count)) f
    ∙ ap (λ (u : Screen). given_grid (grid_with (point_at x y z) u.pitch step u.columns u.rows count)) g
    ∙ grid-there t x y z high step count (subst IsScreen g is) along_x along_y near step_in few top layers

pub not-both : {X E : Type 0} (r : Result X E) (x : X) (e : E) → r ≡ Ok x → r ≡ Err e → ⊥
not-both r x e f g = cc

pub same-ok : {X E : Type 0} (r : Result X E) (x y : X) → r ≡ Ok x → r ≡ Ok y → y ≡ x
same-ok r x y f g = cc

-- a box that has this, by the corners that a call returned
pub with-box : (facets : List Facet) (c : Point × Point) (P : Bounds → Type 0) → extent facets ≡ Some c → P (box_of c) → (b : Bounds) × (bounds facets ≡ Some b) × P b
with-box facets c P e h = (box_of c, bounds-from facets c e, h)

-- the same of equal numbers
abbrev pub AllInRange : ℤ → ℤ → ℕ → Type 0
AllInRange low high length = (start : ℤ) → IsInMiddle low high length start → IsInRange length start

pub all-by : (a b low high : ℤ) (m length : ℕ) → a ≡ low → b ≡ high → m ≡ length → AllInRange low high length → AllInRange a b m
all-by a b low high m length e f g h =
    subst (λ (z : ℤ). AllInRange z b m) (sym e) (subst (λ (z : ℤ). AllInRange low z m) (sym f) (subst (λ (n : ℕ). AllInRange low high n) (sym g) h))

pub middle-by : (a b low high : ℤ) (m length : ℕ) (x : ℤ) → a ≡ low → b ≡ high → m ≡ length → IsInMiddle a b m x → IsInMiddle low high length x
middle-by a b low high m length x e f g h =
    subst (λ (n : ℕ). IsInMiddle low high n x) g (subst (λ (z : ℤ). IsInMiddle low z m x) f (subst (λ (z : ℤ). IsInMiddle z b m x) e h))

pub range-by : (m length : ℕ) (x : ℤ) → m ≡ length → IsInRange m x → IsInRange length x
range-by m length x e h = subst (λ (n : ℕ). IsInRange n x) e h

pub layers-by : (a b low high : ℤ) (step n : ℕ) → a ≡ low → b ≡ high → IsLayerCount a b step n → IsLayerCount low high step n
layers-by a b low high step n e f h = subst (λ (z : ℤ). IsLayerCount low z step n) f (subst (λ (z : ℤ). IsLayerCount z b step n) e h)

pub at-most-limit : (z high : ℤ) → z ≡ high → IsAtMost COORDINATE_LIMIT z → high ≤ℤ pos COORDINATE_LIMIT
at-most-limit z high e h = let n = h.at_most in omega (arith, ints, e, n)

pub quotient : (a b n m : ℕ) → a ≡ b → n ≡ m → a / n ≡ b / m
quotient a b n m e f = ap (λ k. k / n) e ∙ ap (λ k. b / k) f

-- the grid of a part, by what was found of it
pub grid-on : (s : Screen) (low high : Point) (layer_height : ℕ) (x y : ℤ) (n : ℕ) (g : Grid) (o : Point)
    → g ≡ grid_with o s.pitch layer_height s.columns s.rows n → o ≡ point_at x y low.z → Fits s low high
    → IsInMiddle low.x high.x (screen_width s) x → IsInMiddle low.y high.y (screen_depth s) y → IsInRange (screen_width s) x → IsInRange (screen_depth s) y
    → IsLayerCount low.z high.z layer_height n → n ≤ LAYER_LIMIT → IsGridOn s low high layer_height g
grid-on s low high layer_height x y n g o e f fits middle_x middle_y range_x range_y layers few =
    subst (IsGridOn s low high layer_height) (sym (e ∙ ap (λ (p : Point). grid_with p s.pitch layer_height s.columns s.rows n) f))
    (record {
      columns = refl;
      rows = refl;
      pitch = refl;
      layer_height_is = refl;
      fits = fits;
      middle_x = middle_x;
      middle_y = middle_y;
      range_x = range_x;
      range_y = range_y;
      first_layer = refl;
      layers = layers;
      few_layers = few;
    })
