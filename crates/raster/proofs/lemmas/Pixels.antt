-- The centres of a layer's pixels are those of its voxels, and the rows' spans cover those that are filled.
use Rattle.std.proofs.Common.{◌≡◌, ℕ, ◌+◌, ◌-◌, ◌*◌, ◌<◌, ◌≤◌, Bool, true, ◌&&◌, List, [], ◌∷◌, refl, ap, subst, sym, ◌∙◌, arith}
use Rattle.std.specs.Prelude.{ℤ, pos, ◌+ℤ◌, ◌-ℤ◌, ◌≤ℤ◌, neg_ℤ, nat_lt, nat_le}
use Rattle.std.specs.List.{list_all}
use Rattle.std.proofs.lemmas.Bool.{and_parts}
use Rattle.std.proofs.lemmas.Int.{ints}
use Rattle.geometry.specs.Point.{Point}
use Rattle.geometry.specs.Facet.{Facet, twice}
use Rattle.geometry.specs.Winding.{hit, neg_ray_back, ray_back, total, wind}
use Rattle.exact_cut.specs.Column.{centre_x}
use Rattle.exact_cut.specs.Lattice.{pixel, row_y}
use Rattle.exact_cut.specs.declared.dda.lattice.Lattice.{Lattice}
use Rattle.mesh_weld.specs.Balance.{IsBalanced}
use Rattle.mesh_weld.proofs.lemmas.Sums.{ray_from_left}
use Rattle.raster.specs.declared.crossings.RowCrossing.{RowCrossing}
use Rattle.raster.specs.declared.rule.Rule.{Rule}
use Rattle.raster.specs.declared.span.Span.{Span}
use Rattle.raster.specs.Crossings.{AreCrossingsWithin, row_passed}
use Rattle.raster.specs.Filler.{AreSpansBelow, IsFillOf, is_filled}
use Rattle.raster.specs.Rule.{is_inside}
use Rattle.raster.specs.Span.{AreSpans, covers, is_span_within}
use Rattle.raster.specs.Grid.{Grid, centre, middle, plane}
use Rattle.geometry.specs.declared.limits.TheConstants.{CENTRE_LIMIT}

step-on : (o : ℤ) (p i : ℕ) → centre_x (middle o p 0) p i ≡ middle o p i
step-on o p i = omega (arith, ints)

last-at : (o : ℤ) (p m : ℕ) → middle o p m ≤ℤ pos CENTRE_LIMIT → (middle o p 0 +ℤ pos (2 * p * (m + 1))) ≤ℤ pos (CENTRE_LIMIT + 2 * p)
last-at o p m k =
    let far : p * (2 * m + 1) + p ≡ 2 * p * (m + 1) = products p m in
    let near : p * (2 * 0 + 1) ≡ p = first p in
    omega (arith, ints, far, near, k)
  where
    products : (p m : ℕ) → p * (2 * m + 1) + p ≡ 2 * p * (m + 1)
    products p m = omega arith

    first : (p : ℕ) → p * (2 * 0 + 1) ≡ p
    first p = omega arith

pub last-row : (o : ℤ) (p n : ℕ) → 1 ≤ n → middle o p (n - 1) ≤ℤ pos CENTRE_LIMIT → (middle o p 0 +ℤ pos (2 * p * n)) ≤ℤ pos (CENTRE_LIMIT + 2 * p)
last-row o p n h k =
    let last : n - 1 + 1 ≡ n = omega (arith, h) in
    subst (λ (m : ℕ). (middle o p 0 +ℤ pos (2 * p * m)) ≤ℤ pos (CENTRE_LIMIT + 2 * p)) last (last-at o p (n - 1) k)

-- a lattice with the centres of a layer's pixels
pub record ArePixels (g : Grid) (l : Lattice) : Type 0 where
  pub x2 : l.x2 ≡ middle g.origin.x g.pitch 0
  pub y2 : l.y2 ≡ middle g.origin.y g.pitch 0
  pub step : l.step ≡ g.pitch
  pub columns : l.columns ≡ g.columns
  pub rows : l.rows ≡ g.rows

pixel-is : (g : Grid) (l : Lattice) (k : ℕ) (z : ℤ) → ArePixels g l → z ≡ plane g k → (i j : ℕ) → pixel l z i j ≡ centre g i j k
pixel-is g l k z h e i j =
    let x : centre_x l.x2 l.step i ≡ middle g.origin.x g.pitch i = (λ n. centre_x (h.x2 n) (h.step n) i) ∙ step-on g.origin.x g.pitch i in
    let y : centre_x l.y2 l.step j ≡ middle g.origin.y g.pitch j = (λ n. centre_x (h.y2 n) (h.step n) j) ∙ step-on g.origin.y g.pitch j in
    λ n. record { x = x n; y = y n; z = e n }

all-both : (p q r : Span → Bool) → ((s : Span) → p s ≡ true → q s ≡ true → r s ≡ true) → (spans : List Span)
    → list_all p spans ≡ true → list_all q spans ≡ true → list_all r spans ≡ true
all-both p q r f [] h k = refl
all-both p q r f (s ∷ spans) h k =
    ap (λ b. b && list_all r spans) (f s (and_parts (p s) (list_all p spans) h).0 (and_parts (q s) (list_all q spans) k).0)
    ∙ all-both p q r f spans (and_parts (p s) (list_all p spans) h).1 (and_parts (q s) (list_all q spans) k).1

all-three : (a b c : Bool) → a ≡ true → (b && c) ≡ true → (a && b && c) ≡ true
all-three a b c e f = ap (λ d. d && b && c) e ∙ f

spans-form : (rule : Rule) (columns rows : ℕ) (list : List (List RowCrossing)) (spans : List Span) → AreSpansBelow rule columns rows list spans → AreSpans columns rows spans
spans-form rule columns rows list spans h =
    record {
      within = all-both (λ s. nat_lt s.row rows) (λ s. nat_lt s.from s.to && nat_le s.to columns) (is_span_within columns rows)
          (λ s e f. all-three (nat_lt s.row rows) (nat_lt s.from s.to) (nat_le s.to columns) e f) spans h.rows h.within;
      apart = h.apart;
    }

-- the spans of all rows of a grid
pub spans-below : (rule : Rule) (g : Grid) (l : Lattice) (rows : ℕ) (list : List (List RowCrossing)) (spans copied : List Span) → ArePixels g l → rows ≡ g.rows → copied ≡ spans
    → AreCrossingsWithin l.columns list
    → ((columns : ℕ) → AreCrossingsWithin columns list → AreSpansBelow rule columns rows list spans)
    → AreSpansBelow rule g.columns g.rows list copied
spans-below rule g l rows list spans copied same count kept inside below =
    subst (λ (x : List Span). AreSpansBelow rule g.columns g.rows list x) (sym kept)
    (subst (λ (n : ℕ). AreSpansBelow rule g.columns n list spans) count
    (below g.columns (subst (λ (n : ℕ). AreCrossingsWithin n list) same.columns inside)))

-- if the sums of a row are those over all facets, its spans cover what is inside by the crossings that do not lie ahead
pub spans-swept : (facets : List Facet) (g : Grid) (l : Lattice) (k : ℕ) (z : ℤ) (rule : Rule) (list : List (List RowCrossing)) (spans : List Span)
    → ArePixels g l → z ≡ plane g k
    → ((i j : ℕ) → i < l.columns → j < l.rows → row_passed list j i ≡ total (λ t. wind (twice t) (row_y l j) z -ℤ hit (twice t) (pixel l z i j)) facets)
    → AreSpansBelow rule g.columns g.rows list spans
    → (i j : ℕ) → i < g.columns → j < g.rows → covers spans i j ≡ is_inside rule (neg_ray_back facets (centre g i j k))
spans-swept facets g l k z rule list spans same height sums below i j inside low =
    below.filled i j low
    ∙ ap (λ (a : ℤ). is_inside rule (neg_ℤ a))
    (sums i j (omega (arith, same.columns, inside)) (omega (arith, same.rows, low)) ∙ ap (λ (c : Point). ray_back facets c) (pixel-is g l k z same height i j))

spans-filled : (facets : List Facet) (rule : Rule) (g : Grid) (k : ℕ) (spans : List Span) → IsBalanced facets
    → ((i j : ℕ) → i < g.columns → j < g.rows → covers spans i j ≡ is_inside rule (neg_ray_back facets (centre g i j k)))
    → (i j : ℕ) → i < g.columns → j < g.rows → covers spans i j ≡ is_filled rule facets (centre g i j k)
spans-filled facets rule g k spans closed h i j inside low =
    h i j inside low ∙ ap (is_inside rule) (ray_from_left facets closed (centre g i j k))

-- the spans of all rows are the filled pixels of the layer
pub fill-of : (facets : List Facet) (rule : Rule) (g : Grid) (k : ℕ) (list : List (List RowCrossing)) (spans : List Span) → IsBalanced facets
    → AreSpansBelow rule g.columns g.rows list spans
    → (AreSpansBelow rule g.columns g.rows list spans → (i j : ℕ) → i < g.columns → j < g.rows → covers spans i j ≡ is_inside rule (neg_ray_back facets (centre g i j k)))
    → IsFillOf g rule facets k spans
fill-of facets rule g k list spans closed below swept =
    record {
      form = spans-form rule g.columns g.rows list spans below;
      filled = spans-filled facets rule g k spans closed (swept below);
      swept = swept below;
    }
