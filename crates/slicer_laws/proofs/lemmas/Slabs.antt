-- A grid cut between two layers: where the centres of its parts lie, and how their layers are counted.
use Rattle.std.proofs.Common.{◌≡◌, ◌↔◌, ℕ, zero, suc, ◌+◌, ◌-◌, ◌*◌, ◌≤◌, ◌<◌, List, ◌∷◌, ◌++◌, ℤ, pos, ◌+ℤ◌, ◌≤ℤ◌, refl, sym, ◌∙◌, ap, subst, arith}
use Rattle.std.specs.Prelude.{count_by, flat_map, sum_by}
use Rattle.std.specs.List.{range_with_len}
use Rattle.std.proofs.lemmas.Int.{ints}
use Rattle.std.proofs.lemmas.Grind.{flat_map-append}
use Rattle.std.proofs.Math.Nat.{mul-le-mul}
use lib.IntN.{+ℤ_idr}
use Rattle.exact_int.specs.Bounds.{IsAtMost}
use Rattle.exact_int.proofs.lemmas.Signs.{le_trans}
use Rattle.geometry.specs.Facet.{Facet}
use Rattle.geometry.specs.declared.limits.TheConstants.{CENTRE_LIMIT, COORDINATE_LIMIT}
use Rattle.raster.specs.declared.rule.Rule.{Rule}
use Rattle.raster.specs.Grid.{Grid, IsGrid, centre, middle}
use Rattle.raster.specs.Filler.{area_of, below, is_filled}
use Rattle.raster.specs.Image.{image_of_pixels, images, layer_image}
use Rattle.slicer_laws.specs.Slabs.{first_layers, layers_from}

-- ---- centres
pub middle-raised : (start : ℤ) (step m k : ℕ) → middle (start +ℤ pos (m * step)) step k ≡ middle start step (m + k)
middle-raised start step m k =
    let far : step * (2 * (m + k) + 1) ≡ 2 * (m * step) + step * (2 * k + 1) = products step m k in
    omega (arith, ints, far)
  where
    products : (s m k : ℕ) → s * (2 * (m + k) + 1) ≡ 2 * (m * s) + s * (2 * k + 1)
    products s m k = omega arith

centre-from : (m : ℕ) (g : Grid) (i j k : ℕ) → centre (layers_from m g) i j k ≡ centre g i j (m + k)
centre-from m g i j k =
    λ n. record {
      x = middle (+ℤ_idr g.origin.x n) g.pitch i;
      y = middle (+ℤ_idr g.origin.y n) g.pitch j;
      z = middle-raised g.origin.z g.layer_height m k n;
    }

layer-from : (m : ℕ) (g : Grid) (rule : Rule) (facets : List Facet) (k : ℕ)
    → layer_image (layers_from m g) rule facets k ≡ layer_image g rule facets (m + k)
layer-from m g rule facets k = λ n. image_of_pixels g.columns g.rows (λ i j. is_filled rule facets (centre-from m g i j k n))

pub area-from : (g : Grid) (rule : Rule) (facets : List Facet) (m k : ℕ)
    → area_of (layers_from m g) rule facets k ≡ area_of g rule facets (m + k)
area-from g rule facets m k =
    λ n. sum_by (λ j. count_by (λ i. is_filled rule facets (centre-from m g i j k n)) (below g.columns)) (below g.rows)

-- ---- layers
pub range-split : (a m n : ℕ) → range_with_len a (m + n) ≡ range_with_len a m ++ range_with_len (a + m) n
range-split a zero n = rw (zero_plus n, plus_zero a)
  where
    zero_plus : (n : ℕ) → 0 + n ≡ n
    zero_plus n = omega arith

    plus_zero : (a : ℕ) → a + 0 ≡ a
    plus_zero a = omega arith
range-split a (suc m) n =
    ap (range_with_len a) (later m n) ∙ ap (λ xs. a ∷ xs) (range-split (a + 1) m n ∙ ap (λ b. range_with_len (a + 1) m ++ range_with_len b n) (shifted a m))
  where
    later : (m n : ℕ) → suc m + n ≡ suc (m + n)
    later m n = omega arith

    shifted : (a m : ℕ) → a + 1 + m ≡ a + suc m
    shifted a m = omega arith

flat_map-shifted : {X : Type 0} (f g : ℕ → List X) (a b n : ℕ) → ((k : ℕ) → f (b + k) ≡ g k) → (c : ℕ) → c ≡ b + a
    → flat_map f (range_with_len c n) ≡ flat_map g (range_with_len a n)
flat_map-shifted f g a b zero h c e = refl
flat_map-shifted f g a b (suc n) h c e =
    (λ i. (ap f e ∙ h a) i ++ flat_map-shifted f g (a + 1) b n h (c + 1) (one_on a b c e) i)
  where
    one_on : (a b c : ℕ) → c ≡ b + a → c + 1 ≡ b + (a + 1)
    one_on a b c e = omega arith

pub slabs : (g : Grid) (rule : Rule) (facets : List Facet) (m : ℕ) → m ≤ g.layers
    → images g rule facets ≡ images (first_layers m g) rule facets ++ images (layers_from m g) rule facets
slabs g rule facets m h =
    ap (λ n. flat_map (layer_image g rule facets) (range_with_len 0 n)) (whole m g.layers h)
    ∙ ap (flat_map (layer_image g rule facets)) (range-split 0 m (g.layers - m))
    ∙ flat_map-append (layer_image g rule facets) (range_with_len 0 m) (range_with_len (0 + m) (g.layers - m))
    ∙ ap (λ rest. images (first_layers m g) rule facets ++ rest)
    (flat_map-shifted (layer_image g rule facets) (layer_image (layers_from m g) rule facets) 0 m (g.layers - m)
    (λ k. sym (layer-from m g rule facets k)) (0 + m) (start m))
  where
    whole : (m n : ℕ) → m ≤ n → n ≡ m + (n - m)
    whole m n h = omega arith

    start : (m : ℕ) → 0 + m ≡ m + 0
    start m = omega arith

-- ---- limits
middle-le : (start : ℤ) (step a b : ℕ) → a ≤ b → middle start step a ≤ℤ middle start step b
middle-le start step a b h =
    let k : step * (2 * a + 1) ≤ step * (2 * b + 1) = mul-le-mul (same step) (twice_more a b h) in
    omega (arith, ints, k)
  where
    same : (n : ℕ) → n ≤ n
    same n = omega arith

    twice_more : (a b : ℕ) → a ≤ b → 2 * a + 1 ≤ 2 * b + 1
    twice_more a b h = omega arith

pub lower_part : (g : Grid) (m : ℕ) → IsGrid g → 1 ≤ m → m < g.layers → IsGrid (first_layers m g)
lower_part g m h low high =
    record {
      origin = h.origin;
      pitch = h.pitch;
      layer_height = h.layer_height;
      columns_low = h.columns_low;
      columns_high = h.columns_high;
      rows_low = h.rows_low;
      rows_high = h.rows_high;
      layers_low = low;
      layers_high = omega (arith, h.layers_high);
      last_x = h.last_x;
      last_y = h.last_y;
      last_z =
          le_trans (middle g.origin.z g.layer_height (m - 1)) (middle g.origin.z g.layer_height (g.layers - 1)) (pos CENTRE_LIMIT)
          (middle-le g.origin.z g.layer_height (m - 1) (g.layers - 1) (omega arith)) h.last_z;
    }

raised_in : (z : ℤ) (n : ℕ) → IsAtMost COORDINATE_LIMIT z → (z +ℤ pos n) ≤ℤ pos COORDINATE_LIMIT → IsAtMost COORDINATE_LIMIT (z +ℤ pos n)
raised_in z n h k = record { at_most = omega (arith, ints, h.at_most) }

in_limit : (z : ℤ) → IsAtMost COORDINATE_LIMIT z → z ≤ℤ pos COORDINATE_LIMIT
in_limit z h = omega (arith, ints, h.at_most)

pub upper_part : (g : Grid) (m : ℕ) → IsGrid g → 1 ≤ m → m < g.layers
    → IsGrid (layers_from m g) ↔ ((layers_from m g).origin.z ≤ℤ pos COORDINATE_LIMIT)
upper_part g m h low high = (λ k. in_limit (layers_from m g).origin.z k.origin.2, from_limit)
  where
    last : (m n : ℕ) → m < n → m + (n - m - 1) ≡ n - 1
    last m n h = omega arith

    from_limit : (layers_from m g).origin.z ≤ℤ pos COORDINATE_LIMIT → IsGrid (layers_from m g)
    from_limit k =
        record {
          origin = (
            subst (IsAtMost COORDINATE_LIMIT) (sym (+ℤ_idr g.origin.x)) h.origin.0,
            subst (IsAtMost COORDINATE_LIMIT) (sym (+ℤ_idr g.origin.y)) h.origin.1,
            raised_in g.origin.z (m * g.layer_height) h.origin.2 k,
          );
          pitch = h.pitch;
          layer_height = h.layer_height;
          columns_low = h.columns_low;
          columns_high = h.columns_high;
          rows_low = h.rows_low;
          rows_high = h.rows_high;
          layers_low = omega arith;
          layers_high = omega (arith, h.layers_high);
          last_x = subst (λ x. middle x g.pitch (g.columns - 1) ≤ℤ pos CENTRE_LIMIT) (sym (+ℤ_idr g.origin.x)) h.last_x;
          last_y = subst (λ y. middle y g.pitch (g.rows - 1) ≤ℤ pos CENTRE_LIMIT) (sym (+ℤ_idr g.origin.y)) h.last_y;
          last_z =
              subst (λ (z : ℤ). z ≤ℤ pos CENTRE_LIMIT)
              (sym (middle-raised g.origin.z g.layer_height m (g.layers - m - 1) ∙ ap (middle g.origin.z g.layer_height) (last m g.layers high)))
              h.last_z;
        }
