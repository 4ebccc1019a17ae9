-- Degenerate facets: their edges balance one another, and no ray crosses them. So a mesh without them has the same rays,
-- and is closed exactly if the whole mesh is.
use Rattle.std.proofs.Common.{◌≡◌, ◌≢◌, ℕ, ◌+◌, Bool, true, false, cond, not, ◌&&◌, ◌||◌, List, [], ◌∷◌, ◌⊎◌, ℤ, pos, ◌+ℤ◌, ◌*ℤ◌, neg_ℤ, refl, sym, ◌∙◌, ap, inl, inr, arith}
use Rattle.std.specs.Prelude.{count_by, int_lt}
use Rattle.std.proofs.lemmas.List.Sums.{sum_by-append}
use Rattle.std.proofs.lemmas.Bool.{true≢false}
use Rattle.std.proofs.lemmas.Int.{ints}
use Rattle.geometry.specs.Point.{Point, same, half_micrometres_of}
use Rattle.geometry.specs.Facet.{Facet, edges, half_edges, twice}
use Rattle.geometry.specs.Winding.{turn, turn_x, wind, hit, wind_y, hit_y, volume, total, ray, ray_y}
use Rattle.mesh_weld.specs.Balance.{half_edge_count, IsBalanced}
use Rattle.mesh_weld.specs.Solid.{is_kept, kept_facets}
use Rattle.mesh_weld.proofs.lemmas.Edges.{same-is}
use Rattle.mesh_weld.proofs.lemmas.Order.{same-self}
use Rattle.exact_cut.proofs.lemmas.Turns.{turn-opposite, turn_x-opposite}

-- ---- which facets are dropped
either_of_three : (a b c : Bool) → not (a || b || c) ≡ false → (a ≡ true) ⊎ (b ≡ true) ⊎ (c ≡ true)
either_of_three true b c h = inl refl
either_of_three false true c h = inr (inl refl)
either_of_three false false true h = inr (inr refl)
either_of_three false false false h = cc

abbrev HasEqualCorners : Facet → Type 0
HasEqualCorners t = (t.a ≡ t.b) ⊎ (t.b ≡ t.c) ⊎ (t.c ≡ t.a)

pub dropped-is : (t : Facet) → is_kept t ≡ false → HasEqualCorners t
dropped-is t h = by_corners (either_of_three (same t.a t.b) (same t.b t.c) (same t.c t.a) h)
  where
    by_corners : (same t.a t.b ≡ true) ⊎ (same t.b t.c ≡ true) ⊎ (same t.c t.a ≡ true) → HasEqualCorners t
    by_corners (inl e) = inl (same-is t.a t.b e)
    by_corners (inr (inl e)) = inr (inl (same-is t.b t.c e))
    by_corners (inr (inr e)) = inr (inr (same-is t.c t.a e))

-- ---- the others have three distinct corners
none_of_three : (a b c : Bool) → not (a || b || c) ≡ true → (a ≡ false) × (b ≡ false) × (c ≡ false)
none_of_three true b c h = cc
none_of_three false true c h = cc
none_of_three false false true h = cc
none_of_three false false false h = (refl, refl, refl)

apart : (u v : Point) → same u v ≡ false → u ≡ v → ⊥
apart u v h e = absurd (true≢false (sym (same-self u) ∙ ap (same u) e ∙ h))

pub kept-distinct : (t : Facet) → is_kept t ≡ true → (t.a ≢ t.b) × (t.b ≢ t.c) × (t.c ≢ t.a)
kept-distinct t h =
    let parts = none_of_three (same t.a t.b) (same t.b t.c) (same t.c t.a) h in
    (apart t.a t.b parts.0, apart t.b t.c parts.1, apart t.c t.a parts.2)

-- ---- an amount of edges that is opposite at opposite edges
pub own_opposite : (z : ℤ) → z ≡ neg_ℤ z → z ≡ pos 0
own_opposite z h = grind (arith, ints)

cancels-first : (s l k : ℤ) → s ≡ pos 0 → k ≡ neg_ℤ l → s +ℤ l +ℤ k ≡ pos 0
cancels-first s l k h e = omega (arith, ints)

cancels-second : (s l k : ℤ) → s ≡ pos 0 → k ≡ neg_ℤ l → l +ℤ s +ℤ k ≡ pos 0
cancels-second s l k h e = omega (arith, ints)

cancels-third : (s l k : ℤ) → s ≡ pos 0 → k ≡ neg_ℤ l → l +ℤ k +ℤ s ≡ pos 0
cancels-third s l k h e = omega (arith, ints)

degenerate_amount : (q : Point → Point → ℤ) → ((u v : Point) → q v u ≡ neg_ℤ (q u v)) → (t : Facet)
    → HasEqualCorners t → q t.a t.b +ℤ q t.b t.c +ℤ q t.c t.a ≡ pos 0
degenerate_amount q opposite t (inl e) =
    cancels-first _ _ _ (ap (q t.a) (sym e) ∙ own_opposite (q t.a t.a) (opposite t.a t.a))
    (opposite t.a t.c ∙ ap (λ p. neg_ℤ (q p t.c)) e)
degenerate_amount q opposite t (inr (inl e)) =
    cancels-second _ _ _ (ap (q t.b) (sym e) ∙ own_opposite (q t.b t.b) (opposite t.b t.b))
    (ap (λ p. q p t.a) (sym e) ∙ opposite t.a t.b)
degenerate_amount q opposite t (inr (inr e)) =
    cancels-third _ _ _ (ap (q t.c) (sym e) ∙ own_opposite (q t.c t.c) (opposite t.c t.c))
    (ap (q t.b) e ∙ opposite t.a t.b)

-- ---- no ray crosses them
degenerate_wind : (t : Facet) → HasEqualCorners t → (y z : ℤ) → wind (twice t) y z ≡ pos 0
unfolding wind
degenerate_wind t h y z =
    degenerate_amount (λ u v. turn (half_micrometres_of u) (half_micrometres_of v) y z) (λ u v. turn-opposite (half_micrometres_of u) (half_micrometres_of v) y z) t h

degenerate_wind_y : (t : Facet) → HasEqualCorners t → (x z : ℤ) → wind_y (twice t) x z ≡ pos 0
unfolding wind_y
degenerate_wind_y t h x z =
    ap neg_ℤ (degenerate_amount (λ u v. turn_x (half_micrometres_of u) (half_micrometres_of v) x z) (λ u v. turn_x-opposite (half_micrometres_of u) (half_micrometres_of v) x z) t h)

unpassed : (w v : ℤ) → w ≡ pos 0 → cond (int_lt (pos 0) (w *ℤ v)) w (pos 0) ≡ pos 0
unpassed w v e = by_test (int_lt (pos 0) (w *ℤ v))
  where
    by_test : (b : Bool) → cond b w (pos 0) ≡ pos 0
    by_test true = e
    by_test false = refl

pub degenerate_hit : (t : Facet) → HasEqualCorners t → (c : Point) → hit (twice t) c ≡ pos 0
unfolding hit
degenerate_hit t h c = unpassed (wind (twice t) c.y c.z) (volume (twice t) c) (degenerate_wind t h c.y c.z)

pub degenerate_hit_y : (t : Facet) → HasEqualCorners t → (c : Point) → hit_y (twice t) c ≡ pos 0
unfolding hit_y
degenerate_hit_y t h c = unpassed (wind_y (twice t) c.x c.z) (volume (twice t) c) (degenerate_wind_y t h c.x c.z)

-- ---- their edges balance one another
abbrev pub own_count : Facet → Point → Point → ℕ
own_count t u v = count_by (λ e. same e.from u && same e.to v) (half_edges t)

one_if : Point → Point → Point → Point → ℕ
one_if u v p q = cond (same p u && same q v) 1 0

pub and_swap : (a b : Bool) → (a && b) ≡ (b && a)
and_swap true true = refl
and_swap true false = refl
and_swap false true = refl
and_swap false false = refl

one_if-back : (u v p q : Point) → one_if v u p q ≡ one_if u v q p
unfolding one_if
one_if-back u v p q = ap (λ b. cond b 1 0) (and_swap (same p v) (same q u))

own_count-is : (t : Facet) (u v : Point) → own_count t u v ≡ one_if u v t.a t.b + one_if u v t.b t.c + one_if u v t.c t.a
unfolding one_if
own_count-is t u v = omega arith

own_count-back : (t : Facet) (u v : Point) → own_count t v u ≡ one_if u v t.b t.a + one_if u v t.c t.b + one_if u v t.a t.c
own_count-back t u v =
    own_count-is t v u ∙ (λ i. one_if-back u v t.a t.b i + one_if-back u v t.b t.c i + one_if-back u v t.c t.a i)

degenerate_balance : (t : Facet) → HasEqualCorners t → (u v : Point) → own_count t u v ≡ own_count t v u
degenerate_balance t h u v = own_count-is t u v ∙ by_corners h ∙ sym (own_count-back t u v)
  where
    n : Point → Point → ℕ
    n = one_if u v

    first : (k l m k' l' m' : ℕ) → k ≡ k' → l ≡ m' → m ≡ l' → k + l + m ≡ k' + l' + m'
    first k l m k' l' m' e f g = omega arith

    second : (k l m k' l' m' : ℕ) → l ≡ l' → k ≡ m' → m ≡ k' → k + l + m ≡ k' + l' + m'
    second k l m k' l' m' e f g = omega arith

    third : (k l m k' l' m' : ℕ) → m ≡ m' → k ≡ l' → l ≡ k' → k + l + m ≡ k' + l' + m'
    third k l m k' l' m' e f g = omega arith

    by_corners : HasEqualCorners t → n t.a t.b + n t.b t.c + n t.c t.a ≡ n t.b t.a + n t.c t.b + n t.a t.c
    by_corners (inl e) = first _ _ _ _ _ _ (λ i. n (e i) (sym e i)) (ap (λ p. n p t.c) (sym e)) (ap (n t.c) e)
    by_corners (inr (inl e)) = second _ _ _ _ _ _ (λ i. n (e i) (sym e i)) (ap (n t.a) e) (ap (λ p. n p t.a) (sym e))
    by_corners (inr (inr e)) = third _ _ _ _ _ _ (λ i. n (e i) (sym e i)) (ap (λ p. n p t.b) (sym e)) (ap (n t.b) e)

-- ---- the mesh without them
pub half_edge_count-cons : (t : Facet) (ts : List Facet) (u v : Point) → half_edge_count (t ∷ ts) u v ≡ own_count t u v + half_edge_count ts u v
half_edge_count-cons t ts u v = sum_by-append (λ e. cond (same e.from u && same e.to v) 1 0) (half_edges t) (edges ts)

-- equal numbers of edges of dropped facets run from u to v and back
pub record Dropped (facets : List Facet) (u v : Point) : Type 0 where
  pub many : ℕ
  pub there : half_edge_count facets u v ≡ half_edge_count (kept_facets facets) u v + many
  pub back : half_edge_count facets v u ≡ half_edge_count (kept_facets facets) v u + many

pub dropped : (facets : List Facet) (u v : Point) → Dropped facets u v
dropped [] u v = record { many = 0; there = refl; back = refl }
dropped (t ∷ ts) u v = by_test (dropped ts u v) (is_kept t) refl
  where
    kept : (k l m n o : ℕ) → k ≡ l + m → m ≡ n + o → k ≡ l + n + o
    kept k l m n o e h = omega arith

    kept_out : (k l m n o : ℕ) → k ≡ l + m → m ≡ n + o → k ≡ n + (l + o)
    kept_out k l m n o e h = omega arith

    by_test : Dropped ts u v → (b : Bool) → is_kept t ≡ b → Dropped (t ∷ ts) u v
    by_test rest true h =
        let same_list : kept_facets (t ∷ ts) ≡ t ∷ kept_facets ts = ap (λ b. cond b (t ∷ kept_facets ts) (kept_facets ts)) h in
        record {
          many = rest.many;
          there = kept _ _ _ _ _ (half_edge_count-cons t ts u v) rest.there
              ∙ ap (λ n. n + rest.many) (sym (half_edge_count-cons t (kept_facets ts) u v))
              ∙ ap (λ list. half_edge_count list u v + rest.many) (sym same_list);
          back = kept _ _ _ _ _ (half_edge_count-cons t ts v u) rest.back
              ∙ ap (λ n. n + rest.many) (sym (half_edge_count-cons t (kept_facets ts) v u))
              ∙ ap (λ list. half_edge_count list v u + rest.many) (sym same_list);
        }
    by_test rest false h =
        let same_list : kept_facets (t ∷ ts) ≡ kept_facets ts = ap (λ b. cond b (t ∷ kept_facets ts) (kept_facets ts)) h in
        record {
          many = own_count t u v + rest.many;
          there = kept_out _ _ _ _ _ (half_edge_count-cons t ts u v) rest.there
              ∙ ap (λ list. half_edge_count list u v + (own_count t u v + rest.many)) (sym same_list);
          back = kept_out _ _ _ _ _ (half_edge_count-cons t ts v u) rest.back
              ∙ ap (λ n. half_edge_count (kept_facets ts) v u + (n + rest.many)) (sym (degenerate_balance t (dropped-is t h) u v))
              ∙ ap (λ list. half_edge_count list v u + (own_count t u v + rest.many)) (sym same_list);
        }

-- a degenerate facet by itself is closed
pub degenerate_closed : (t : Facet) → HasEqualCorners t → IsBalanced (t ∷ [])
degenerate_closed t h u v =
    half_edge_count-cons t [] u v ∙ ap (λ n. n + 0) (degenerate_balance t h u v) ∙ sym (half_edge_count-cons t [] v u)

pub same_without : (k l m n o : ℕ) → k ≡ m + o → l ≡ n + o → k ≡ l → m ≡ n
same_without k l m n o e f h = omega arith

pub same_with : (k l m n o : ℕ) → k ≡ m + o → l ≡ n + o → m ≡ n → k ≡ l
same_with k l m n o e f h = omega arith

pub kept_balanced : (facets : List Facet) → IsBalanced facets → IsBalanced (kept_facets facets)
kept_balanced facets h u v =
    let d : Dropped facets u v = dropped facets u v in same_without _ _ _ _ d.many d.there d.back (h u v)

pub balanced_by_kept : (facets : List Facet) → IsBalanced (kept_facets facets) → IsBalanced facets
balanced_by_kept facets h u v =
    let d : Dropped facets u v = dropped facets u v in same_with _ _ _ _ d.many d.there d.back (h u v)

-- a sum over the mesh of what no dropped facet adds to
kept_total : (f : Facet → ℤ) → ((t : Facet) → HasEqualCorners t → f t ≡ pos 0) → (facets : List Facet)
    → total f (kept_facets facets) ≡ total f facets
kept_total f none [] = refl
kept_total f none (t ∷ ts) = by_test (kept_total f none ts) (is_kept t) refl
  where
    nothing_more : (x y z : ℤ) → x ≡ y → z ≡ pos 0 → x ≡ z +ℤ y
    nothing_more x y z e h = omega (arith, ints)

    by_test : total f (kept_facets ts) ≡ total f ts → (b : Bool) → is_kept t ≡ b → total f (kept_facets (t ∷ ts)) ≡ f t +ℤ total f ts
    by_test rest true h = ap (λ b. total f (cond b (t ∷ kept_facets ts) (kept_facets ts))) h ∙ ap (λ z. f t +ℤ z) rest
    by_test rest false h =
        ap (λ b. total f (cond b (t ∷ kept_facets ts) (kept_facets ts))) h
        ∙ nothing_more _ _ _ rest (none t (dropped-is t h))

pub kept_ray : (facets : List Facet) (c : Point) → ray (kept_facets facets) c ≡ ray facets c
kept_ray facets c = kept_total (λ t. hit (twice t) c) (λ t h. degenerate_hit t h c) facets

pub kept_ray_y : (facets : List Facet) (c : Point) → ray_y (kept_facets facets) c ≡ ray_y facets c
kept_ray_y facets c = kept_total (λ t. hit_y (twice t) c) (λ t h. degenerate_hit_y t h c) facets
