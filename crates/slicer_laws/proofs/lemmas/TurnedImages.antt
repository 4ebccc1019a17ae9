-- Voxels and areas after a quarter turn. A row from its end is a column from its start, so the sums over a layer are the same.
use Rattle.std.proofs.Common.{◌≡◌, ℕ, zero, suc, ◌+◌, ◌*◌, ◌<◌, Bool, cond, List, [], ◌∷◌, ◌++◌, ℤ, pos, neg_ℤ, ◌+ℤ◌, ◌*ℤ◌, refl, sym, ◌∙◌, ap, arith}
use Rattle.std.specs.Prelude.{sum_by}
use Rattle.std.specs.List.{range_with_len}
use Rattle.std.proofs.lemmas.Int.{ints}
use Rattle.std.proofs.lemmas.List.Sums.{sum_by-cons, sum_by_push}
use Rattle.geometry.specs.Facet.{Facet}
use Rattle.mesh_weld.specs.Balance.{IsBalanced}
use Rattle.mesh_weld.specs.Probing.{NoneTouches}
use Rattle.exact_cut.proofs.lemmas.Shifts.{point_by}
use Rattle.raster.specs.declared.rule.Rule.{Rule}
use Rattle.raster.specs.Grid.{Grid, centre, middle}
use Rattle.raster.specs.Rule.{is_inside}
use Rattle.raster.specs.Filler.{area_of, below, is_filled}
use Rattle.part_on_screen.specs.Stands.{turned_part}
use Rattle.part_on_screen.specs.Turned.{quarter_turned}
use Rattle.part_on_screen.specs.declared.quarters.Quarters.TheVariants.{One}
use Rattle.slicer_laws.specs.QuarterTurns.{IsLayerFree, turned_grid}
use Rattle.slicer_laws.proofs.lemmas.QuarterTurns.{rays-turn}
use Rattle.slicer_laws.proofs.lemmas.Slabs.{range-split}

-- ---- voxels
middle-turned : (start : ℤ) (step rows j m : ℕ) → j + m + 1 ≡ rows
    → middle (neg_ℤ (start +ℤ pos (step * rows))) step m ≡ neg_ℤ (middle start step j)
middle-turned start step rows j m e =
    ap (λ n. middle (neg_ℤ (start +ℤ pos (step * n))) step m) (sym e)
    ∙ across start (step * (j + m + 1)) (step * (2 * m + 1)) (step * (2 * j + 1)) (both step j m)
  where
    both : (s j m : ℕ) → s * (2 * m + 1) + s * (2 * j + 1) ≡ 2 * (s * (j + m + 1))
    both s j m = omega arith

    across : (start : ℤ) (whole a b : ℕ) → a + b ≡ 2 * whole
        → pos 2 *ℤ neg_ℤ (start +ℤ pos whole) +ℤ pos a ≡ neg_ℤ (pos 2 *ℤ start +ℤ pos b)
    across start whole a b e = omega (arith, ints, e)

centre-turned : (g : Grid) (i j m k : ℕ) → j + m + 1 ≡ g.rows → centre (turned_grid g) m i k ≡ quarter_turned (centre g i j k)
centre-turned g i j m k e = point_by (middle-turned g.origin.y g.pitch g.rows j m e) refl refl

pub voxels-turn : (g : Grid) (rule : Rule) (facets : List Facet) (i j m k : ℕ) → IsBalanced facets
    → NoneTouches facets (centre g i j k) → j + m + 1 ≡ g.rows
    → is_filled rule (turned_part One facets) (centre (turned_grid g) m i k) ≡ is_filled rule facets (centre g i j k)
voxels-turn g rule facets i j m k closed free e =
    ap (is_filled rule (turned_part One facets)) (centre-turned g i j m k e)
    ∙ ap (is_inside rule) (rays-turn One facets (centre g i j k) closed free)

-- ---- sums
range-last : (a n : ℕ) → range_with_len a (suc n) ≡ range_with_len a n ++ (a + n) ∷ []
range-last a n = ap (range_with_len a) (one_more n) ∙ range-split a n 1
  where
    one_more : (n : ℕ) → suc n ≡ n + 1
    one_more n = omega arith

-- one range from its start, and one from its end
sum_by-mirrored : (f g : ℕ → ℕ) (n a b : ℕ) → ((p q : ℕ) → p + q + 1 ≡ a + b + n → f p ≡ g q)
    → sum_by f (range_with_len a n) ≡ sum_by g (range_with_len b n)
sum_by-mirrored f g zero a b h = refl
sum_by-mirrored f g (suc n) a b h =
    sum_by-cons f a (range_with_len (a + 1) n)
    ∙ ends (f a) (g (b + n)) _ _ (h a (b + n) (whole a b n)) (sum_by-mirrored f g n (a + 1) b (λ p q e. h p q (e ∙ one_on a b n)))
    ∙ sym (ap (sum_by g) (range-last b n) ∙ sum_by_push g (range_with_len b n) (b + n))
  where
    ends : (p q s t : ℕ) → p ≡ q → s ≡ t → p + s ≡ t + q
    ends p q s t d e = omega arith

    whole : (a b n : ℕ) → a + (b + n) + 1 ≡ a + b + suc n
    whole a b n = omega arith

    one_on : (a b n : ℕ) → a + 1 + b + n ≡ a + b + suc n
    one_on a b n = omega arith

sum_by-same : (f g : ℕ → ℕ) (n a : ℕ) → ((k : ℕ) → k < a + n → f k ≡ g k)
    → sum_by f (range_with_len a n) ≡ sum_by g (range_with_len a n)
sum_by-same f g zero a h = refl
sum_by-same f g (suc n) a h =
    sum_by-cons f a (range_with_len (a + 1) n)
    ∙ (λ i. h a (first a n) i + sum_by-same f g n (a + 1) (λ k l. h k (later a n k l)) i)
    ∙ sym (sum_by-cons g a (range_with_len (a + 1) n))
  where
    first : (a n : ℕ) → a < a + suc n
    first a n = omega arith

    later : (a n k : ℕ) → k < a + 1 + n → k < a + suc n
    later a n k l = omega arith

sum_by-none : (xs : List ℕ) → sum_by (λ x. 0) xs ≡ 0
sum_by-none [] = refl
sum_by-none (x ∷ xs) = sum_by-cons (λ x. 0) x xs ∙ ap (λ n. 0 + n) (sum_by-none xs)

sum_by-plus : (f g : ℕ → ℕ) (xs : List ℕ) → sum_by (λ x. f x + g x) xs ≡ sum_by f xs + sum_by g xs
sum_by-plus f g [] = refl
sum_by-plus f g (x ∷ xs) =
    sum_by-cons (λ y. f y + g y) x xs
    ∙ regroup (f x) (g x) _ _ _ (sum_by-plus f g xs)
    ∙ sym (λ i. sum_by-cons f x xs i + sum_by-cons g x xs i)
  where
    regroup : (a b s t u : ℕ) → s ≡ t + u → (a + b) + s ≡ (a + t) + (b + u)
    regroup a b s t u e = omega arith

-- a sum of sums, in either order
sum_by-exchanged : (f : ℕ → ℕ → ℕ) (xs ys : List ℕ)
    → sum_by (λ y. sum_by (λ x. f x y) xs) ys ≡ sum_by (λ x. sum_by (λ y. f x y) ys) xs
sum_by-exchanged f xs [] = sym (sum_by-none xs)
sum_by-exchanged f xs (y ∷ ys) =
    sum_by-cons (λ z. sum_by (λ x. f x z) xs) y ys
    ∙ ap (λ n. sum_by (λ x. f x y) xs + n) (sum_by-exchanged f xs ys)
    ∙ sym (sum_by-plus (λ x. f x y) (λ x. sum_by (λ z. f x z) ys) xs)
    ∙ sym (λ i. sum_by (λ x. sum_by-cons (λ z. f x z) y ys i) xs)

-- ---- areas
pub areas-turn : (g : Grid) (rule : Rule) (facets : List Facet) (k : ℕ) → IsBalanced facets → IsLayerFree g k facets
    → area_of (turned_grid g) rule (turned_part One facets) k ≡ area_of g rule facets k
areas-turn g rule facets k closed free =
    sum_by-same (λ i. sum_by (after i) (below g.rows)) (λ i. sum_by (before i) (below g.rows)) g.columns 0
    (λ i h. sum_by-mirrored (after i) (before i) g.rows 0 0 (λ m j e. one i j m (below_end i g.columns h) (turned_round m j g.rows e)))
    ∙ sum_by-exchanged (λ j i. before i j) (below g.rows) (below g.columns)
  where
    after : ℕ → ℕ → ℕ
    after i m = cond (is_filled rule (turned_part One facets) (centre (turned_grid g) m i k)) 1 0

    before : ℕ → ℕ → ℕ
    before i j = cond (is_filled rule facets (centre g i j k)) 1 0

    below_end : (i n : ℕ) → i < 0 + n → i < n
    below_end i n h = omega arith

    turned_round : (m j n : ℕ) → m + j + 1 ≡ 0 + 0 + n → j + m + 1 ≡ n
    turned_round m j n e = omega arith

    inside : (j m n : ℕ) → j + m + 1 ≡ n → j < n
    inside j m n e = omega arith

    one : (i j m : ℕ) → i < g.columns → j + m + 1 ≡ g.rows → after i m ≡ before i j
    one i j m h e = ap (λ (b : Bool). cond b 1 0) (voxels-turn g rule facets i j m k closed (free i j h (inside j m g.rows e)) e)
