-- The edges of a closed mesh, all reversed, are the same edges in another order: so what changes its sign with an edge's
-- direction sums to 0.
use Rattle.std.proofs.Common.{◌≡◌, ℕ, ◌+◌, Bool, true, false, cond, List, [], ◌∷◌, ◌++◌, map, ◌⊎◌, ℤ, pos, ◌+ℤ◌, ◌-ℤ◌, neg_ℤ, refl, sym, ◌∙◌, ap, inl, inr, arith}
use Rattle.std.specs.Prelude.{count_by}
use Rattle.std.proofs.lemmas.Int.{ints}
use lib.IntN.{+ℤ_assoc}
use Rattle.std.proofs.lemmas.Bool.{and_from}
use Rattle.exact_int.proofs.lemmas.Laws.{move_left, neg_of_difference}
use Rattle.geometry.specs.Point.{Point, same, half_micrometres_of}
use Rattle.geometry.specs.Facet.{Facet, Edge, edges, half_edges, twice}
use Rattle.geometry.specs.Winding.{total, turn, turn_x, wind, wind_y, hit, ray, neg_ray_back}
use Rattle.mesh_weld.specs.Balance.{IsBalanced}
use Rattle.mesh_weld.specs.Laws.{IsOpposite, round}
use Rattle.mesh_weld.proofs.lemmas.Edges.{back, count_by-cons, runs, runs-is}
use Rattle.mesh_weld.proofs.lemmas.Order.{same-self}
use Rattle.mesh_weld.proofs.lemmas.Degenerate.{and_swap, own_opposite}
use Rattle.exact_cut.proofs.lemmas.Turns.{turn-opposite, turn_x-opposite}

-- ---- sums over lists
pub total-append : {X : Type 0} (f : X → ℤ) (xs ys : List X) → total f (xs ++ ys) ≡ total f xs +ℤ total f ys
total-append f [] ys = omega (arith, ints)
total-append f (x ∷ xs) ys = ap (λ z. f x +ℤ z) (total-append f xs ys) ∙ sym (+ℤ_assoc (f x) (total f xs) (total f ys))

pub total-difference : {X : Type 0} (f g : X → ℤ) (xs : List X) → total (λ x. f x -ℤ g x) xs ≡ total f xs -ℤ total g xs
total-difference f g [] = refl
total-difference f g (x ∷ xs) = ap (λ z. (f x -ℤ g x) +ℤ z) (total-difference f g xs) ∙ paired (f x) (g x) (total f xs) (total g xs)
  where
    paired : (a b c d : ℤ) → (a -ℤ b) +ℤ (c -ℤ d) ≡ (a +ℤ c) -ℤ (b +ℤ d)
    paired a b c d = omega (arith, ints)

pub total-neg : {X : Type 0} (f g : X → ℤ) → ((x : X) → f x ≡ neg_ℤ (g x)) → (xs : List X) → total f xs ≡ neg_ℤ (total g xs)
total-neg f g h [] = refl
total-neg f g h (x ∷ xs) = (λ i. h x i +ℤ total-neg f g h xs i) ∙ negated (g x) (total g xs)
  where
    negated : (a b : ℤ) → neg_ℤ a +ℤ neg_ℤ b ≡ neg_ℤ (a +ℤ b)
    negated a b = omega (arith, ints)

pub total-map : {X Y : Type 0} (f : Y → ℤ) (g : X → Y) (xs : List X) → total f (map g xs) ≡ total (λ x. f (g x)) xs
total-map f g [] = refl
total-map f g (x ∷ xs) = ap (λ z. f (g x) +ℤ z) (total-map f g xs)

-- ---- lists with equal numbers of each edge have the same sums
pub runs-own : (c : Edge) (u v : Point) → c.from ≡ u → c.to ≡ v → runs u v c ≡ true
runs-own c u v h k =
    and_from (same c.from u) (same c.to v) (ap (same c.from) (sym h) ∙ same-self c.from) (ap (same c.to) (sym k) ∙ same-self c.to)

-- a list is one edge and the rest, in another order
record Taken (x : Edge) (ys : List Edge) : Type 0 where
  rest : List Edge
  sums : (f : Edge → ℤ) → total f ys ≡ f x +ℤ total f rest
  counts : (p : Edge → Bool) → count_by p ys ≡ cond (p x) 1 0 + count_by p rest

taken_first : (x y : Edge) (ys : List Edge) → y ≡ x → Taken x (y ∷ ys)
taken_first x y ys e =
    record {
      rest = ys;
      sums = λ f. ap (λ d. f d +ℤ total f ys) e;
      counts = λ p. count_by-cons p y ys ∙ ap (λ d. cond (p d) 1 0 + count_by p ys) e;
    }

taken_later : (x y : Edge) (ys : List Edge) → Taken x ys → Taken x (y ∷ ys)
taken_later x y ys taken =
    record {
      rest = y ∷ taken.rest;
      sums = λ f. ap (λ z. f y +ℤ z) (taken.sums f) ∙ move_left (f y) (f x) (total f taken.rest);
      counts = λ p.
          count_by-cons p y ys ∙ ap (λ n. cond (p y) 1 0 + n) (taken.counts p)
          ∙ moved_count (cond (p y) 1 0) (cond (p x) 1 0) (count_by p taken.rest)
          ∙ ap (λ n. cond (p x) 1 0 + n) (sym (count_by-cons p y taken.rest));
    }
  where
    moved_count : (a b c : ℕ) → a + (b + c) ≡ b + (a + c)
    moved_count a b c = omega arith

take_out : (x : Edge) (ys : List Edge) → (count_by (runs x.from x.to) ys ≡ 0) ⊎ Taken x ys
take_out x [] = inl refl
take_out x (y ∷ ys) = by_test (take_out x ys) (runs x.from x.to y) refl
  where
    Found : List Edge → Type 0
    Found zs = (count_by (runs x.from x.to) zs ≡ 0) ⊎ Taken x zs

    later : Found ys → runs x.from x.to y ≡ false → Found (y ∷ ys)
    later (inl none) fails =
        inl (count_by-cons (runs x.from x.to) y ys ∙ ap (λ b. cond b 1 0 + count_by (runs x.from x.to) ys) fails ∙ ap (λ n. 0 + n) none)
    later (inr taken) fails = inr (taken_later x y ys taken)

    by_test : Found ys → (b : Bool) → runs x.from x.to y ≡ b → Found (y ∷ ys)
    by_test found true passes = inr (taken_first x y ys (runs-is x.from x.to y passes))
    by_test found false fails = later found fails

abbrev HaveSameEdges : List Edge → List Edge → Type 0
HaveSameEdges xs ys = (u v : Point) → count_by (runs u v) xs ≡ count_by (runs u v) ys

own_one : (x : Edge) (xs : List Edge) → count_by (runs x.from x.to) (x ∷ xs) ≡ 1 + count_by (runs x.from x.to) xs
own_one x xs = count_by-cons (runs x.from x.to) x xs ∙ ap (λ b. cond b 1 0 + count_by (runs x.from x.to) xs) (runs-own x x.from x.to refl refl)

not_none : (n m : ℕ) → m ≡ 1 + n → m ≡ 0 → ⊥
not_none n m e h = omega arith

same_edges-sum : (xs ys : List Edge) → HaveSameEdges xs ys → (f : Edge → ℤ) → total f xs ≡ total f ys
same_edges-sum [] [] h f = refl
same_edges-sum [] (y ∷ ys) h f = absurd (not_none _ _ (own_one y ys) (sym (h y.from y.to)))
same_edges-sum (x ∷ xs) ys h f = by_place (λ zs g. same_edges-sum xs zs g f) (take_out x ys)
  where
    fewer : (a b c d e : ℕ) → a ≡ c + d → b ≡ c + e → a ≡ b → d ≡ e
    fewer a b c d e p q r = omega arith

    by_place : ((zs : List Edge) → HaveSameEdges xs zs → total f xs ≡ total f zs)
        → (count_by (runs x.from x.to) ys ≡ 0) ⊎ Taken x ys → total f (x ∷ xs) ≡ total f ys
    by_place rest (inl none) = absurd (not_none _ _ (own_one x xs) (h x.from x.to ∙ none))
    by_place rest (inr taken) =
        ap (λ z. f x +ℤ z)
        (rest taken.rest (λ u v. fewer _ _ _ _ _ (count_by-cons (runs u v) x xs) (taken.counts (runs u v)) (h u v)))
        ∙ sym (taken.sums f)

-- ---- the edges reversed
pub count-back : (u v : Point) (es : List Edge) → count_by (runs u v) (map back es) ≡ count_by (runs v u) es
count-back u v [] = refl
count-back u v (e ∷ es) =
    count_by-cons (runs u v) (back e) (map back es)
    ∙ (λ i. cond (and_swap (same e.to u) (same e.from v) i) 1 0 + count-back u v es i)
    ∙ sym (count_by-cons (runs v u) e es)

total-edges : (amount : Point → Point → ℤ) (facets : List Facet)
    → total (round amount) facets ≡ total (λ e. amount e.from e.to) (edges facets)
total-edges amount [] = refl
total-edges amount (t ∷ ts) =
    ap (λ z. round amount t +ℤ z) (total-edges amount ts)
    ∙ grouped (amount t.a t.b) (amount t.b t.c) (amount t.c t.a) (total (λ e. amount e.from e.to) (edges ts))
    ∙ sym (total-append (λ e. amount e.from e.to) (half_edges t) (edges ts))
  where
    grouped : (a b c d : ℤ) → (a +ℤ b +ℤ c) +ℤ d ≡ (a +ℤ (b +ℤ (c +ℤ pos 0))) +ℤ d
    grouped a b c d = omega (arith, ints)

pub amounts_cancel : (amount : Point → Point → ℤ) → IsOpposite amount → (facets : List Facet) → IsBalanced facets
    → total (round amount) facets ≡ pos 0
amounts_cancel amount opposite facets balanced = total-edges amount facets ∙ own_opposite _ (there_is_back ∙ back_is_opposite)
  where
    there_is_back : total (λ e. amount e.from e.to) (edges facets) ≡ total (λ e. amount e.from e.to) (map back (edges facets))
    there_is_back =
        same_edges-sum (edges facets) (map back (edges facets)) (λ u v. balanced u v ∙ sym (count-back u v (edges facets)))
        (λ e. amount e.from e.to)

    back_is_opposite : total (λ e. amount e.from e.to) (map back (edges facets)) ≡ neg_ℤ (total (λ e. amount e.from e.to) (edges facets))
    back_is_opposite =
        total-map (λ e. amount e.from e.to) back (edges facets)
        ∙ total-neg (λ e. amount e.to e.from) (λ e. amount e.from e.to) (λ e. opposite e.from e.to) (edges facets)

-- ---- windings
pub winds_cancel : (facets : List Facet) → IsBalanced facets → (y z : ℤ) → total (λ t. wind (twice t) y z) facets ≡ pos 0
unfolding wind
winds_cancel facets balanced y z =
    amounts_cancel (λ u v. turn (half_micrometres_of u) (half_micrometres_of v) y z) (λ u v. turn-opposite (half_micrometres_of u) (half_micrometres_of v) y z) facets balanced

abbrev side_turn : ℤ → ℤ → Point → Point → ℤ
side_turn x z u v = turn_x (half_micrometres_of u) (half_micrometres_of v) x z

pub winds_along_y_cancel : (facets : List Facet) → IsBalanced facets → (x z : ℤ) → total (λ t. wind_y (twice t) x z) facets ≡ pos 0
unfolding wind_y
winds_along_y_cancel facets balanced x z =
    total-neg (λ t. wind_y (twice t) x z) (round (side_turn x z)) (λ t. refl) facets
    ∙ ap neg_ℤ (amounts_cancel (side_turn x z) (λ u v. turn_x-opposite (half_micrometres_of u) (half_micrometres_of v) x z) facets balanced)

pub ray_from_left : (facets : List Facet) → IsBalanced facets → (c : Point) → neg_ray_back facets c ≡ ray facets c
ray_from_left facets balanced c =
    neg_of_difference _ _ _ (total-difference (λ t. wind (twice t) c.y c.z) (λ t. hit (twice t) c) facets)
    (winds_cancel facets balanced c.y c.z)
