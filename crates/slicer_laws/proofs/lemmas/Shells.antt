-- Two meshes sliced together: what a voxel's rays say by each rule, and counts over a layer.
use Rattle.std.proofs.Common.{◌≡◌, ℕ, zero, suc, ◌+◌, ◌%◌, ◌<◌, ◌⊎◌, inl, inr, Bool, true, false, cond, ◌&&◌, ◌||◌, List, ◌++◌, ℤ, pos, ◌+ℤ◌, ◌≤ℤ◌, refl, sym, ◌∙◌, ap, arith}
use Rattle.std.specs.Prelude.{◌==◌, nat_abs, sum_by}
use Rattle.std.specs.List.{range_with_len}
use Rattle.std.proofs.lemmas.Bool.{and_cases}
use Rattle.std.proofs.lemmas.Bool.Decides.{nat_tests}
use Rattle.std.proofs.lemmas.Int.{ints}
use Rattle.std.proofs.lemmas.List.Sums.{sum_by-cons}
use Rattle.geometry.specs.Facet.{Facet, twice}
use Rattle.geometry.specs.Point.{Point}
use Rattle.geometry.specs.Winding.{hit, hit_y, ray, ray_y}
use Rattle.mesh_weld.proofs.lemmas.Sums.{total-append}
use Rattle.raster.specs.declared.rule.Rule.{Rule}
use Rattle.raster.specs.declared.rule.Rule.TheVariants.{EvenOdd, NonZero, Positive}
use Rattle.raster.specs.Grid.{Grid, centre}
use Rattle.raster.specs.Filler.{area_of, is_filled}
use Rattle.raster.specs.Rule.{is_inside}
use Rattle.slicer_laws.specs.Shells.{AreApart, HasNoNegativeRay}

pub ray-append : (a b : List Facet) (c : Point) → ray (a ++ b) c ≡ ray a c +ℤ ray b c
ray-append a b c = total-append (λ t. hit (twice t) c) a b

pub ray_y-append : (a b : List Facet) (c : Point) → ray_y (a ++ b) c ≡ ray_y a c +ℤ ray_y b c
ray_y-append a b c = total-append (λ t. hit_y (twice t) c) a b

-- ---- a ray that is not inside adds nothing that the rule sees
-- at the rays m and n, and at their sum
record IsSkipped (rule : Rule) (m n : ℤ) : Type 0 where
  left : is_inside rule m ≡ false → is_inside rule (m +ℤ n) ≡ is_inside rule n
  right : is_inside rule n ≡ false → is_inside rule (m +ℤ n) ≡ is_inside rule m

even_amount : (a b : ℤ) → nat_abs a % 2 ≡ 0 → nat_abs (a +ℤ b) % 2 ≡ nat_abs b % 2
even_amount a b h = omega (arith, ints)

not_odd : (n : ℕ) → is_inside EvenOdd (pos n) ≡ false → n % 2 ≡ 0
not_odd n h = grind (arith, nat_tests)

swapped : (a b : ℤ) → a +ℤ b ≡ b +ℤ a
swapped a b = omega (arith, ints)

evenodd-left : (a b : ℤ) → is_inside EvenOdd a ≡ false → is_inside EvenOdd (a +ℤ b) ≡ is_inside EvenOdd b
evenodd-left a b h = ap (λ n. n == 1) (even_amount a b (not_odd (nat_abs a) h))

no_more : (a b : ℤ) → a ≡ pos 0 → a +ℤ b ≡ b
no_more a b h = omega (arith, ints)

zero_ray : (a : ℤ) → is_inside NonZero a ≡ false → a ≡ pos 0
zero_ray a h = grind (arith, ints)

zero_or_less : (a : ℤ) → pos 0 ≤ℤ a → is_inside Positive a ≡ false → a ≡ pos 0
zero_or_less a h k = grind (arith, ints)

evenodd-skips : (a b : ℤ) → IsSkipped EvenOdd a b
evenodd-skips a b =
    record {
      left = evenodd-left a b;
      right = λ h. ap (is_inside EvenOdd) (swapped a b) ∙ evenodd-left b a h;
    }

zero-skips : (rule : Rule) (a b : ℤ) → (is_inside rule a ≡ false → a ≡ pos 0) → (is_inside rule b ≡ false → b ≡ pos 0)
    → IsSkipped rule a b
zero-skips rule a b first second =
    record {
      left = λ h. ap (is_inside rule) (no_more a b (first h));
      right = λ h. ap (is_inside rule) (swapped a b ∙ no_more b a (second h));
    }

-- if not both rays are inside, their sum is inside exactly if one of them is
joined : (rule : Rule) (a b : ℤ) → IsSkipped rule a b → (is_inside rule a && is_inside rule b) ≡ false
    → is_inside rule (a +ℤ b) ≡ (is_inside rule a || is_inside rule b)
joined rule a b skips apart = by (and_cases (is_inside rule a) (is_inside rule b) apart)
  where
    nothing_first : (p q r : Bool) → p ≡ false → r ≡ q → r ≡ (p || q)
    nothing_first p q r e f = f ∙ sym (ap (λ b. b || q) e)

    nothing_second : (p q r : Bool) → q ≡ false → r ≡ p → r ≡ (p || q)
    nothing_second true q r e f = f
    nothing_second false q r e f = f ∙ sym e

    by : (is_inside rule a ≡ false) ⊎ (is_inside rule b ≡ false) → is_inside rule (a +ℤ b) ≡ (is_inside rule a || is_inside rule b)
    by (inl e) = nothing_first _ _ _ e (skips.left e)
    by (inr e) = nothing_second _ _ _ e (skips.right e)

voxels-joined : (rule : Rule) (a b : List Facet) (c : Point) → IsSkipped rule (ray a c) (ray b c)
    → (is_filled rule a c && is_filled rule b c) ≡ false → is_filled rule (a ++ b) c ≡ (is_filled rule a c || is_filled rule b c)
voxels-joined rule a b c skips apart = ap (is_inside rule) (ray-append a b c) ∙ joined rule (ray a c) (ray b c) skips apart

pub evenodd-voxels : (a b : List Facet) (c : Point) → (is_filled EvenOdd a c && is_filled EvenOdd b c) ≡ false
    → is_filled EvenOdd (a ++ b) c ≡ (is_filled EvenOdd a c || is_filled EvenOdd b c)
evenodd-voxels a b c apart = voxels-joined EvenOdd a b c (evenodd-skips (ray a c) (ray b c)) apart

pub nonzero-voxels : (a b : List Facet) (c : Point) → (is_filled NonZero a c && is_filled NonZero b c) ≡ false
    → is_filled NonZero (a ++ b) c ≡ (is_filled NonZero a c || is_filled NonZero b c)
nonzero-voxels a b c apart =
    voxels-joined NonZero a b c (zero-skips NonZero (ray a c) (ray b c) (zero_ray (ray a c)) (zero_ray (ray b c))) apart

pub positive-voxels : (a b : List Facet) (c : Point) → pos 0 ≤ℤ ray a c → pos 0 ≤ℤ ray b c
    → (is_filled Positive a c && is_filled Positive b c) ≡ false
    → is_filled Positive (a ++ b) c ≡ (is_filled Positive a c || is_filled Positive b c)
positive-voxels a b c above_a above_b apart =
    voxels-joined Positive a b c
    (zero-skips Positive (ray a c) (ray b c) (zero_or_less (ray a c) above_a) (zero_or_less (ray b c) above_b)) apart

-- ---- counts over a layer
sum_by-added : (f g h : ℕ → ℕ) (a n : ℕ) → ((k : ℕ) → k < a + n → f k ≡ g k + h k)
    → sum_by f (range_with_len a n) ≡ sum_by g (range_with_len a n) + sum_by h (range_with_len a n)
sum_by-added f g h a zero e = refl
sum_by-added f g h a (suc n) e =
    sum_by-cons f a (range_with_len (a + 1) n)
    ∙ regroup (f a) (g a) (h a) _ _ _ (e a (first a n)) (sum_by-added f g h (a + 1) n (λ k l. e k (later a n k l)))
    ∙ sym (λ i. sum_by-cons g a (range_with_len (a + 1) n) i + sum_by-cons h a (range_with_len (a + 1) n) i)
  where
    regroup : (p q r s t u : ℕ) → p ≡ q + r → s ≡ t + u → p + s ≡ (q + t) + (r + u)
    regroup p q r s t u d e = omega arith

    first : (a n : ℕ) → a < a + suc n
    first a n = omega arith

    later : (a n k : ℕ) → k < a + 1 + n → k < a + suc n
    later a n k l = omega arith

one_of_two : (p q : Bool) → (p && q) ≡ false → cond (p || q) 1 0 ≡ cond p 1 0 + cond q 1 0
one_of_two true true e = cc
one_of_two true false e = refl
one_of_two false true e = refl
one_of_two false false e = refl

area-added : (g : Grid) (rule : Rule) (k : ℕ) (a b : List Facet) → AreApart g rule k a b
    → ((i j : ℕ) → i < g.columns → j < g.rows
    → is_filled rule (a ++ b) (centre g i j k) ≡ (is_filled rule a (centre g i j k) || is_filled rule b (centre g i j k)))
    → area_of g rule (a ++ b) k ≡ area_of g rule a k + area_of g rule b k
area-added g rule k a b apart either =
    sum_by-added (row (a ++ b)) (row a) (row b) 0 g.rows
    (λ j h. sum_by-added (voxel (a ++ b) j) (voxel a j) (voxel b j) 0 g.columns (λ i l. one i j (below_end i g.columns l) (below_end j g.rows h)))
  where
    voxel : List Facet → ℕ → ℕ → ℕ
    voxel facets j i = cond (is_filled rule facets (centre g i j k)) 1 0

    row : List Facet → ℕ → ℕ
    row facets j = sum_by (voxel facets j) (range_with_len 0 g.columns)

    below_end : (i n : ℕ) → i < 0 + n → i < n
    below_end i n h = omega arith

    one : (i j : ℕ) → i < g.columns → j < g.rows → voxel (a ++ b) j i ≡ voxel a j i + voxel b j i
    one i j h l = ap (λ p. cond p 1 0) (either i j h l) ∙ one_of_two _ _ (apart i j h l)

pub evenodd-areas : (g : Grid) (k : ℕ) (a b : List Facet) → AreApart g EvenOdd k a b
    → area_of g EvenOdd (a ++ b) k ≡ area_of g EvenOdd a k + area_of g EvenOdd b k
evenodd-areas g k a b apart =
    area-added g EvenOdd k a b apart (λ i j h l. evenodd-voxels a b (centre g i j k) (apart i j h l))

pub nonzero-areas : (g : Grid) (k : ℕ) (a b : List Facet) → AreApart g NonZero k a b
    → area_of g NonZero (a ++ b) k ≡ area_of g NonZero a k + area_of g NonZero b k
nonzero-areas g k a b apart =
    area-added g NonZero k a b apart (λ i j h l. nonzero-voxels a b (centre g i j k) (apart i j h l))

pub positive-areas : (g : Grid) (k : ℕ) (a b : List Facet) → HasNoNegativeRay g k a → HasNoNegativeRay g k b
    → AreApart g Positive k a b
    → area_of g Positive (a ++ b) k ≡ area_of g Positive a k + area_of g Positive b k
positive-areas g k a b above_a above_b apart =
    area-added g Positive k a b apart
    (λ i j h l. positive-voxels a b (centre g i j k) (above_a i j h l) (above_b i j h l) (apart i j h l))
