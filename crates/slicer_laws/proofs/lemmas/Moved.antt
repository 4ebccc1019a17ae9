-- A facet and a point that are moved together keep their winding, volume and hit.
use Rattle.std.proofs.Common.{◌≡◌, ℕ, List, [], ◌∷◌, ℤ, pos, ◌+ℤ◌, ◌-ℤ◌, ◌*ℤ◌, ◌+◌, ◌*◌, refl, sym, ◌∙◌, ap}
use Rattle.std.specs.Prelude.{count_by, flat_map, sum_by}
use Rattle.exact_int.proofs.lemmas.Identity.{reads, identity}
use Rattle.geometry.specs.Point.{Point, half_micrometres_of, origin}
use Rattle.geometry.specs.Facet.{Facet, facet_with, twice}
use Rattle.geometry.specs.Winding.{hit, hit_y, ray, ray_y, total, volume, wind, wind_y}
use Rattle.exact_cut.specs.RelativeFacet.{minus, relative_to}
use Rattle.exact_cut.proofs.lemmas.Quadrants.{ahead_only}
use Rattle.exact_cut.proofs.lemmas.Shifts.{hit_from, hit_y_from, point_by}
use Rattle.mesh_weld.proofs.lemmas.Sums.{total-map}
use Rattle.raster.specs.declared.rule.Rule.{Rule}
use Rattle.raster.specs.Grid.{Grid, centre, middle}
use Rattle.raster.specs.Filler.{area_of, below, is_filled}
use Rattle.raster.specs.Image.{image_of_pixels, images}
use Rattle.raster.specs.Rule.{is_inside}
use Rattle.slicer_laws.specs.Moves.{moved, moved_facet, moved_grid, moved_mesh}

-- ---- rays
same_way : (a c by : ℤ) → pos 2 *ℤ a -ℤ c ≡ pos 2 *ℤ (a +ℤ by) -ℤ (c +ℤ pos 2 *ℤ by)
same_way a c by = identity (a ∷ c ∷ by ∷ []) (search reads depth 40) refl

minus-moved : (by p c : Point) → minus (half_micrometres_of p) c ≡ minus (half_micrometres_of (moved by p)) (moved (half_micrometres_of by) c)
minus-moved by p c = point_by (same_way p.x c.x by.x) (same_way p.y c.y by.y) (same_way p.z c.z by.z)

relative-moved : (by : Point) (t : Facet) (c : Point)
    → relative_to (twice t) c ≡ relative_to (twice (moved_facet by t)) (moved (half_micrometres_of by) c)
relative-moved by t c = λ i. facet_with (minus-moved by t.a c i) (minus-moved by t.b c i) (minus-moved by t.c c i)

hit-moved : (by : Point) (t : Facet) (c : Point) → hit (twice (moved_facet by t)) (moved (half_micrometres_of by) c) ≡ hit (twice t) c
hit-moved by t c =
    let s : Facet = relative_to (twice t) c in
    let seen : ℤ = ahead_only (wind s (pos 0) (pos 0)) (volume s origin) in
    let after : seen ≡ hit (twice (moved_facet by t)) (moved (half_micrometres_of by) c) =
    hit_from (twice (moved_facet by t)) s (moved (half_micrometres_of by) c) (relative-moved by t c) refl refl refl in
    let before : seen ≡ hit (twice t) c = hit_from (twice t) s c refl refl refl refl in
    sym after ∙ before

hit_y-moved : (by : Point) (t : Facet) (c : Point) → hit_y (twice (moved_facet by t)) (moved (half_micrometres_of by) c) ≡ hit_y (twice t) c
hit_y-moved by t c =
    let s : Facet = relative_to (twice t) c in
    let seen : ℤ = ahead_only (wind_y s (pos 0) (pos 0)) (volume s origin) in
    let after : seen ≡ hit_y (twice (moved_facet by t)) (moved (half_micrometres_of by) c) =
    hit_y_from (twice (moved_facet by t)) s (moved (half_micrometres_of by) c) (relative-moved by t c) refl refl refl in
    let before : seen ≡ hit_y (twice t) c = hit_y_from (twice t) s c refl refl refl refl in
    sym after ∙ before

pub ray-moved : (by : Point) (facets : List Facet) (c : Point)
    → ray (moved_mesh by facets) (moved (half_micrometres_of by) c) ≡ ray facets c
ray-moved by facets c =
    total-map (λ t. hit (twice t) (moved (half_micrometres_of by) c)) (moved_facet by) facets
    ∙ (λ i. total (λ t. hit-moved by t c i) facets)

pub ray_y-moved : (by : Point) (facets : List Facet) (c : Point)
    → ray_y (moved_mesh by facets) (moved (half_micrometres_of by) c) ≡ ray_y facets c
ray_y-moved by facets c =
    total-map (λ t. hit_y (twice t) (moved (half_micrometres_of by) c)) (moved_facet by) facets
    ∙ (λ i. total (λ t. hit_y-moved by t c i) facets)

-- ---- voxels
middle-moved : (start by : ℤ) (step n : ℕ) → middle (start +ℤ by) step n ≡ middle start step n +ℤ pos 2 *ℤ by
middle-moved start by step n = moved_start start by (pos (step * (2 * n + 1)))
  where
    moved_start : (a b c : ℤ) → pos 2 *ℤ (a +ℤ b) +ℤ c ≡ (pos 2 *ℤ a +ℤ c) +ℤ pos 2 *ℤ b
    moved_start a b c = identity (a ∷ b ∷ c ∷ []) (search reads depth 40) refl

centre-moved : (by : Point) (g : Grid) (i j k : ℕ) → centre (moved_grid by g) i j k ≡ moved (half_micrometres_of by) (centre g i j k)
centre-moved by g i j k =
    point_by (middle-moved g.origin.x by.x g.pitch i) (middle-moved g.origin.y by.y g.pitch j)
    (middle-moved g.origin.z by.z g.layer_height k)

filled-moved : (by : Point) (g : Grid) (rule : Rule) (facets : List Facet) (i j k : ℕ)
    → is_filled rule (moved_mesh by facets) (centre (moved_grid by g) i j k) ≡ is_filled rule facets (centre g i j k)
filled-moved by g rule facets i j k =
    ap (is_inside rule)
    (ap (ray (moved_mesh by facets)) (centre-moved by g i j k) ∙ ray-moved by facets (centre g i j k))

pub images-moved : (by : Point) (g : Grid) (rule : Rule) (facets : List Facet)
    → images (moved_grid by g) rule (moved_mesh by facets) ≡ images g rule facets
images-moved by g rule facets =
    λ n. flat_map (λ k. image_of_pixels g.columns g.rows (λ i j. filled-moved by g rule facets i j k n)) (below g.layers)

pub areas-moved : (by : Point) (g : Grid) (rule : Rule) (facets : List Facet) (k : ℕ)
    → area_of (moved_grid by g) rule (moved_mesh by facets) k ≡ area_of g rule facets k
areas-moved by g rule facets k =
    λ n. sum_by (λ j. count_by (λ i. filled-moved by g rule facets i j k n) (below g.columns)) (below g.rows)
