-- Sums of areas are small.
use Rattle.std.proofs.Common.{◌≡◌, ℕ, zero, suc, ◌+◌, ◌*◌, ◌<◌, ◌≤◌, List, [], ◌∷◌, length, take, get_or, sum_by, refl, sym, subst, ap, ◌∙◌, arith, Fits, w64, Option, Some, None, slice_get}
use Rattle.std.proofs.Math.Nat.{mul-le-mul}
use Rattle.std.proofs.lemmas.List.{take_all}
use Rattle.std.proofs.lemmas.List.Sums.{sum_by-cons, sum_by_more, sum_by_more_le}
use Rattle.build_book.specs.Job.{Job}
use Rattle.build_book.specs.Layer.{Layer, IsLawful, AreLawfulFrom, layers_area}
use Rattle.build_book.specs.Places.{place_area, total_area}
use Rattle.build_book.specs.Book.{IsLawfulPlace, IsLawfulBook}
use Rattle.build_book.specs.Build.{IsComplete}
use Rattle.build_book.specs.declared.limits.TheConstants.{VOXEL_LIMIT}
use Rattle.build_book.proofs.lemmas.Areas.{area_of-le}
use Rattle.geometry.specs.declared.limits.TheConstants.{COLUMN_LIMIT, LAYER_LIMIT}

layer_small : (job : Job) (k : ℕ) (layer : Layer) → IsLawful job k layer → layer.area ≤ job.grid.rows * job.grid.columns
layer_small job k layer lawful = subst (λ n. n ≤ job.grid.rows * job.grid.columns) (sym lawful.area) (area_of-le job.grid job.rule job.solid.facets k)

place_small : (job : Job) (k : ℕ) (place : Option Layer) → IsLawfulPlace job k place → place_area place ≤ job.grid.rows * job.grid.columns
place_small job k None lawful = omega arith
place_small job k (Some layer) lawful = layer_small job k layer lawful

places_small : (job : Job) (at : ℕ) (ps : List (Option Layer))
    → ((n : ℕ) (place : Option Layer) → slice_get ps n ≡ Some place → IsLawfulPlace job (at + n) place)
    → total_area ps ≤ length ps * (job.grid.rows * job.grid.columns)
places_small job at [] lawful = omega arith
places_small job at (p ∷ ps) lawful =
    let head : place_area p ≤ job.grid.rows * job.grid.columns = place_small job (at + 0) p (lawful zero p refl) in
    let rest : total_area ps ≤ length ps * (job.grid.rows * job.grid.columns) =
    places_small job (at + 1) ps (λ n q h. subst (λ j. IsLawfulPlace job j q) (omega arith) (lawful (suc n) q h)) in
    simp sum_by-cons (omega (arith, head, rest))

layers_small : (job : Job) (at : ℕ) (layers : List Layer) → AreLawfulFrom job at layers
    → layers_area layers ≤ length layers * (job.grid.rows * job.grid.columns)
layers_small job at [] lawful = omega arith
layers_small job at (l ∷ ls) lawful =
    let head : l.area ≤ job.grid.rows * job.grid.columns = layer_small job at l lawful.0 in
    let rest : layers_area ls ≤ length ls * (job.grid.rows * job.grid.columns) = layers_small job (at + 1) ls lawful.1 in
    simp sum_by-cons (omega (arith, head, rest))

product_small : (n rows columns : ℕ) → n ≤ LAYER_LIMIT → rows ≤ COLUMN_LIMIT → columns ≤ COLUMN_LIMIT → n * (rows * columns) ≤ VOXEL_LIMIT
product_small n rows columns few r c =
    let area : rows * columns ≤ COLUMN_LIMIT * COLUMN_LIMIT = mul-le-mul r c in
    let all : n * (rows * columns) ≤ LAYER_LIMIT * (COLUMN_LIMIT * COLUMN_LIMIT) = mul-le-mul few area in
    omega (arith, all)

pub book_small : (job : Job) (ps : List (Option Layer)) → IsLawfulBook (record { job = job; places = ps })
    → job.grid.layers ≤ LAYER_LIMIT → job.grid.rows ≤ COLUMN_LIMIT → job.grid.columns ≤ COLUMN_LIMIT → total_area ps ≤ VOXEL_LIMIT
book_small job ps lawful few rows columns =
    omega (
      arith,
      places_small job 0 ps (λ n q h. subst (λ j. IsLawfulPlace job j q) (omega arith) (lawful.lawful n q h)),
      product_small (length ps) job.grid.rows job.grid.columns (omega (arith, lawful.one_each, few)) rows columns,
    )

pub build_small : (job : Job) (layers : List Layer) → IsComplete job layers
    → job.grid.layers ≤ LAYER_LIMIT → job.grid.rows ≤ COLUMN_LIMIT → job.grid.columns ≤ COLUMN_LIMIT → layers_area layers ≤ VOXEL_LIMIT
build_small job layers complete few rows columns =
    omega (
      arith,
      layers_small job 0 layers complete.lawful,
      product_small (length layers) job.grid.rows job.grid.columns (omega (arith, complete.whole, few)) rows columns,
    )

-- the sum of the elements before i, and element i
pub more_sum : {X : Type 0} (f : X → ℕ) (xs : List X) (i : ℕ) (x : X) (sum more : ℕ) → sum ≡ sum_by f (take i xs) → more ≡ f x
    → x ≡ get_or xs i x → i < length xs → sum + more ≡ sum_by f (take (i + 1) xs)
more_sum f xs i x sum more so now at low =
    (λ j. so j + (now ∙ ap f at) j) ∙ sym (sum_by_more f xs i x low)

pub more_fits : {X : Type 0} (f : X → ℕ) (xs : List X) (i : ℕ) (x : X) (sum more : ℕ) → sum ≡ sum_by f (take i xs) → more ≡ f x
    → x ≡ get_or xs i x → i < length xs → sum_by f xs ≤ VOXEL_LIMIT → Fits w64 (sum + more)
more_fits f xs i x sum more so now at low small =
    let below : sum_by f (take i xs) + f (get_or xs i x) ≤ sum_by f xs = sum_by_more_le f xs i x low in
    let this : more ≡ f (get_or xs i x) = now ∙ ap f at in
    omega (arith, so, this, below, small)

pub all_sum : {X : Type 0} (f : X → ℕ) (xs : List X) (i : ℕ) (sum : ℕ) → sum ≡ sum_by f (take i xs) → length xs ≤ i → sum ≡ sum_by f xs
all_sum f xs i sum so high = so ∙ ap (sum_by f) (take_all i xs high)
