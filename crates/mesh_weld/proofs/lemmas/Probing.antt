-- Rays of a closed mesh: those along x and y agree if no facet touches, and a step that passes no facet keeps them.
use Rattle.std.proofs.Common.{◌≡◌, ◌⊎◌, List, [], ◌∷◌, length, take, get_or, ◌<◌, ◌≤◌, ◌+◌, ◌^◌, ℕ, ℤ, unsigned_abs, w32, to_z, of_z, pos, ◌+ℤ◌, ◌-ℤ◌, ◌*ℤ◌, refl, sym, ◌∙◌, ap, subst, inl, inr, arith}
use Rattle.std.specs.Prelude.{All, Some, slice_get}
use Rattle.std.proofs.lemmas.Int.{ints, to_z-of_z, fits_signed_from_abs}
use Rattle.std.proofs.lemmas.List.{take_more}
use Rattle.std.proofs.lemmas.Option.{get_or_from_slice_get, slice_get_within}
use Rattle.std.proofs.lemmas.List.Elements.{All-head, All-tail, All-weaker}
use Rattle.exact_int.specs.Bounds.{IsAtMost}
use Rattle.exact_int.proofs.lemmas.Sizes.{sum_of}
use Rattle.exact_int.proofs.lemmas.Identity.{reads, identity}
use Rattle.geometry.specs.Point.{Point, half_micrometres_of}
use Rattle.geometry.specs.Facet.{Facet, twice}
use Rattle.geometry.specs.Touch.{Touches, Between}
use Rattle.geometry.specs.Winding.{total, hit, hit_y, ray, ray_y}
use Rattle.exact_cut.specs.Laws.{corner_turn}
use Rattle.exact_cut.proofs.lemmas.Touching.{ray-difference, corner_turn-opposite}
use Rattle.exact_cut.proofs.lemmas.Steps.{step-x, step-y}
use Rattle.mesh_weld.specs.Balance.{IsBalanced}
use Rattle.mesh_weld.specs.Laws.{round}
use Rattle.mesh_weld.specs.Probing.{NoneTouches, NoneBetween}
use Rattle.mesh_weld.proofs.lemmas.Sums.{total-append, total-difference, amounts_cancel}
use Rattle.geometry.specs.declared.limits.TheConstants.{FACET_LIMIT}

total-agree : (f g : Facet → ℤ) (xs : List Facet) → All (λ x. f x ≡ g x) xs → total f xs ≡ total g xs
total-agree f g [] h = refl
total-agree f g (x ∷ xs) h = λ i. All-head (λ y. f y ≡ g y) x xs h i +ℤ total-agree f g xs (All-tail (λ y. f y ≡ g y) x xs h) i

-- ---- along x and along y
abbrev corner_amount : Point → Point → Point → ℤ
corner_amount c u v = corner_turn c (half_micrometres_of u) (half_micrometres_of v)

pub rays_agree : (facets : List Facet) → IsBalanced facets → (c : Point) → NoneTouches facets c → ray facets c ≡ ray_y facets c
rays_agree facets balanced c free = same_rays _ _ _ (total-difference (λ t. hit (twice t) c) (λ t. hit_y (twice t) c) facets) nothing
  where
    same_rays : (d x y : ℤ) → d ≡ x -ℤ y → d ≡ pos 0 → x ≡ y
    same_rays d x y e h = omega (arith, ints)

    nothing : total (λ t. hit (twice t) c -ℤ hit_y (twice t) c) facets ≡ pos 0
    nothing =
        total-agree (λ t. hit (twice t) c -ℤ hit_y (twice t) c) (round (corner_amount c)) facets
        (All-weaker (λ t. ¬ Touches (twice t) c) (λ t. hit (twice t) c -ℤ hit_y (twice t) c ≡ round (corner_amount c) t)
        (λ t h. ray-difference (twice t) c h) facets free)
        ∙ amounts_cancel (corner_amount c) (λ u v. corner_turn-opposite c (half_micrometres_of u) (half_micrometres_of v)) facets balanced

-- ---- steps
-- a facet that touches an end of a step has a point on the way
at_start : (n m a b : ℤ) → n ≡ m *ℤ a → pos 1 *ℤ n ≡ m *ℤ (pos 1 *ℤ a +ℤ pos 0 *ℤ b)
at_start n m a b h = ap (λ z. pos 1 *ℤ z) h ∙ identity (m ∷ a ∷ b ∷ []) (search reads depth 40) refl

at_end : (n m a b : ℤ) → n ≡ m *ℤ b → pos 1 *ℤ n ≡ m *ℤ (pos 0 *ℤ a +ℤ pos 1 *ℤ b)
at_end n m a b h = ap (λ z. pos 1 *ℤ z) h ∙ identity (m ∷ a ∷ b ∷ []) (search reads depth 40) refl

abbrev weight : (t : Facet) (p : Point) → Touches t p → ℤ
weight t p h = pos (h.of_a + h.of_b + h.of_c)

touches-start : (t : Facet) (c d : Point) → Touches t c → Between t c d
touches-start t c d h =
    record {
      of_a = h.of_a;
      of_b = h.of_b;
      of_c = h.of_c;
      some = h.some;
      of_p = 1;
      of_q = 0;
      some_end = omega arith;
      mean_x = at_start _ (weight t c h) c.x d.x h.mean_x;
      mean_y = at_start _ (weight t c h) c.y d.y h.mean_y;
      mean_z = at_start _ (weight t c h) c.z d.z h.mean_z;
    }

touches-end : (t : Facet) (c d : Point) → Touches t d → Between t c d
touches-end t c d h =
    record {
      of_a = h.of_a;
      of_b = h.of_b;
      of_c = h.of_c;
      some = h.some;
      of_p = 0;
      of_q = 1;
      some_end = omega arith;
      mean_x = at_end _ (weight t d h) c.x d.x h.mean_x;
      mean_y = at_end _ (weight t d h) c.y d.y h.mean_y;
      mean_z = at_end _ (weight t d h) c.z d.z h.mean_z;
    }

none_at_start : (facets : List Facet) (c d : Point) → NoneBetween facets c d → NoneTouches facets c
none_at_start facets c d =
    All-weaker (λ t. ¬ Between (twice t) c d) (λ t. ¬ Touches (twice t) c) (λ t h k. h (touches-start (twice t) c d k)) facets

none_at_end : (facets : List Facet) (c d : Point) → NoneBetween facets c d → NoneTouches facets d
none_at_end facets c d =
    All-weaker (λ t. ¬ Between (twice t) c d) (λ t. ¬ Touches (twice t) d) (λ t h k. h (touches-end (twice t) c d k)) facets

abbrev at : ℤ → ℤ → ℤ → Point
at x y z = record { x = x; y = y; z = z }

steps-x : (facets : List Facet) (x1 x2 y z : ℤ) → NoneBetween facets (at x1 y z) (at x2 y z)
    → ray facets (at x1 y z) ≡ ray facets (at x2 y z)
steps-x facets x1 x2 y z free =
    total-agree (λ t. hit (twice t) (at x1 y z)) (λ t. hit (twice t) (at x2 y z)) facets
    (All-weaker (λ t. ¬ Between (twice t) (at x1 y z) (at x2 y z)) (λ t. hit (twice t) (at x1 y z) ≡ hit (twice t) (at x2 y z))
    (λ t h. step-x (twice t) x1 x2 y z h) facets free)

steps-y : (facets : List Facet) (x y1 y2 z : ℤ) → NoneBetween facets (at x y1 z) (at x y2 z)
    → ray_y facets (at x y1 z) ≡ ray_y facets (at x y2 z)
steps-y facets x y1 y2 z free =
    total-agree (λ t. hit_y (twice t) (at x y1 z)) (λ t. hit_y (twice t) (at x y2 z)) facets
    (All-weaker (λ t. ¬ Between (twice t) (at x y1 z) (at x y2 z)) (λ t. hit_y (twice t) (at x y1 z) ≡ hit_y (twice t) (at x y2 z))
    (λ t h. step-y (twice t) x y1 y2 z h) facets free)

pub steps_keep_rays : (facets : List Facet) → IsBalanced facets → (c d : Point) → c.z ≡ d.z → (c.x ≡ d.x) ⊎ (c.y ≡ d.y)
    → NoneBetween facets c d → ray facets c ≡ ray facets d
steps_keep_rays facets balanced c d level (inr same_y) free =
    steps-x facets c.x d.x c.y c.z (subst (NoneBetween facets c) (sym moved) free) ∙ ap (ray facets) moved
  where
    moved : at d.x c.y c.z ≡ d
    moved = λ i. at d.x (same_y i) (level i)
steps_keep_rays facets balanced c d level (inl same_x) free =
    rays_agree facets balanced c (none_at_start facets c d free)
    ∙ steps-y facets c.x c.y d.y c.z (subst (NoneBetween facets c) (sym moved) free)
    ∙ ap (ray_y facets) moved
    ∙ sym (rays_agree facets balanced d (none_at_end facets c d free))
  where
    moved : at c.x d.y c.z ≡ d
    moved = λ i. at (same_x i) d.y (level i)

-- ---- the sum so far
total_more : {X : Type 0} (f : X → ℤ) (xs : List X) (i : ℕ) (d : X) → i < length xs
    → total f (take (i + 1) xs) ≡ total f (take i xs) +ℤ f (get_or xs i d)
total_more f xs i d h =
    ap (total f) (take_more xs i d h) ∙ total-append f (take i xs) (get_or xs i d ∷ []) ∙ last (total f (take i xs)) (f (get_or xs i d))
  where
    last : (a b : ℤ) → a +ℤ (b +ℤ pos 0) ≡ a +ℤ b
    last a b = omega (arith, ints)

-- a small number that went to 32 bits, and was read again, is the same
read_back : (n : ℕ) (z : ℤ) → IsAtMost n z → n ≤ FACET_LIMIT + 1 → to_z w32 (of_z w32 z) ≡ z
read_back n z small few = to_z-of_z w32 z (fits_signed_from_abs w32 z (below small.at_most))
  where
    below : unsigned_abs z ≤ n → unsigned_abs z < 2 ^ 31
    below h = omega arith

-- the sum over the first i elements of a list
pub record Summed {X : Type 0} (f : X → ℤ) (xs : List X) (i : ℕ) (sum : ℤ) : Type 0 where
  pub sum_is : sum ≡ total f (take i xs)
  pub small : IsAtMost i sum

-- one more element in a sum of 32 bits
pub sum_more : {X : Type 0} (f : X → ℤ) (xs : List X) (i : ℕ) (d : X) (sum more : ℤ) → i < length xs → i ≤ FACET_LIMIT
    → Summed f xs i sum → more ≡ f (get_or xs i d) → IsAtMost 1 more
    → Summed f xs (i + 1) (to_z w32 (of_z w32 (sum +ℤ to_z w32 (of_z w32 more))))
sum_more f xs i d sum more inside few so_far more_is unit =
    subst (Summed f xs (i + 1)) (sym (ap (λ z. to_z w32 (of_z w32 (sum +ℤ z))) (read_back 1 more unit (omega arith)) ∙ whole))
    (record { sum_is = sum_is; small = small })
  where
    small : IsAtMost (i + 1) (sum +ℤ more)
    small = record { at_most = sum_of sum more i 1 so_far.small.at_most unit.at_most }

    whole : to_z w32 (of_z w32 (sum +ℤ more)) ≡ sum +ℤ more
    whole = read_back (i + 1) (sum +ℤ more) small (omega arith)

    sum_is : sum +ℤ more ≡ total f (take (i + 1) xs)
    sum_is = (λ j. so_far.sum_is j +ℤ more_is j) ∙ sym (total_more f xs i d inside)

-- one more facet of a mesh
pub facet_more : (f : Facet → ℤ) (facets : List Facet) (i : ℕ) (t : Facet) (sum more : ℤ) → i < FACET_LIMIT
    → slice_get facets i ≡ Some t → Summed f facets i sum → more ≡ f t → IsAtMost 1 more
    → Summed f facets (i + 1) (to_z w32 (of_z w32 (sum +ℤ to_z w32 (of_z w32 more))))
facet_more f facets i t sum more few at_i so_far more_is unit =
    sum_more f facets i t sum more (slice_get_within facets i t at_i) (omega arith) so_far
    (more_is ∙ ap f (sym (get_or_from_slice_get facets i t t at_i))) unit
