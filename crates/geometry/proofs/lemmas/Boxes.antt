-- The bounding box of a list of points holds each of them, and each of its six coordinates is one of theirs.
use Rattle.std.proofs.Common.{◌≡◌, zero, suc, get_or, List, [], ◌∷◌, ◌⊎◌, inl, inr, refl, sym, ◌∙◌, ap, subst, arith, map, fold}
use Rattle.std.specs.Prelude.{All, Contains, None, Option, Some, ◌++◌, flat_map, option_map, slice_get, ℤ, ◌≤ℤ◌}
use Rattle.std.specs.Int.{int_min, int_max}
use Rattle.std.proofs.lemmas.Int.{fold-int_min_bounds, fold-int_min_reached, fold-int_max_bounds, fold-int_max_reached}
use Rattle.std.proofs.lemmas.Grind.{flat_map-append}
use Rattle.std.proofs.lemmas.List.Sums.{fold-append}
use Rattle.std.proofs.lemmas.List.{get_or-map, length-map}
use Rattle.std.proofs.lemmas.List.Elements.{All-cons, All-contains, Contains-append_right}
use Rattle.exact_int.proofs.lemmas.Signs.{antisym}
use Rattle.geometry.specs.Point.{Point}
use Rattle.geometry.specs.Facet.{Facet, corners}
use Rattle.geometry.specs.BoundingBox.{IsInBox, IsTight, bounds_of, corner_pair, extent, greatest_of, least_of}

unmapped : (pick : Point → ℤ) (P : ℤ → Type 0) (ps : List Point) → All P (map pick ps) → All (λ q. P (pick q)) ps
unmapped pick P ps all k d l =
    let long = length-map ps pick in
    subst P (get_or-map pick ps k d (pick d) l) (all k (pick d) (omega (arith, l, long)))

contained : (x r : ℤ) (xs : List ℤ) → (r ≡ x) ⊎ Contains xs r → Contains (x ∷ xs) r
contained x r xs (inl e) = (0, omega arith, sym e)
contained x r xs (inr h) = Contains-append_right (x ∷ []) xs r h

-- a fold of points that does to one coordinate what g does to numbers
module _ (pick : Point → ℤ) (f : Point → Point → Point) (g : ℤ → ℤ → ℤ) (each : (p q : Point) → pick (f p q) ≡ g (pick p) (pick q)) where
  folded : (p : Point) (ps : List Point) → pick (fold f p ps) ≡ fold g (pick p) (map pick ps)
  folded p [] = refl
  folded p (q ∷ ps) = folded (f p q) ps ∙ ap (λ a. fold g a (map pick ps)) (each p q)

module _ (pick : Point → ℤ) (each : (p q : Point) → pick (least_of p q) ≡ int_min (pick p) (pick q)) (p : Point) (ps : List Point) where
  least-below : All (λ q. pick (fold least_of p ps) ≤ℤ pick q) (p ∷ ps)
  least-below =
      let r = pick (fold least_of p ps) in
      let h = fold-int_min_bounds (pick p) (map pick ps) r (folded pick least_of int_min each p ps) in
      All-cons (λ q. r ≤ℤ pick q) p ps h.0 (unmapped pick (λ x. r ≤ℤ x) ps h.1)

  least-reached : Contains (map pick (p ∷ ps)) (pick (fold least_of p ps))
  least-reached =
      let r = pick (fold least_of p ps) in
      contained (pick p) r (map pick ps) (fold-int_min_reached (pick p) (map pick ps) r (folded pick least_of int_min each p ps))

module _ (pick : Point → ℤ) (each : (p q : Point) → pick (greatest_of p q) ≡ int_max (pick p) (pick q)) (p : Point) (ps : List Point) where
  greatest-above : All (λ q. pick q ≤ℤ pick (fold greatest_of p ps)) (p ∷ ps)
  greatest-above =
      let r = pick (fold greatest_of p ps) in
      let h = fold-int_max_bounds (pick p) (map pick ps) r (folded pick greatest_of int_max each p ps) in
      All-cons (λ q. pick q ≤ℤ r) p ps h.0 (unmapped pick (λ x. x ≤ℤ r) ps h.1)

  greatest-reached : Contains (map pick (p ∷ ps)) (pick (fold greatest_of p ps))
  greatest-reached =
      let r = pick (fold greatest_of p ps) in
      contained (pick p) r (map pick ps) (fold-int_max_reached (pick p) (map pick ps) r (folded pick greatest_of int_max each p ps))

abbrev x_of : Point → ℤ
x_of p = p.x

abbrev y_of : Point → ℤ
y_of p = p.y

abbrev z_of : Point → ℤ
z_of p = p.z

points-in : (p : Point) (ps : List Point) → All (IsInBox (fold least_of p ps) (fold greatest_of p ps)) (p ∷ ps)
points-in p ps k d l = record {
  x_in = (least-below x_of (λ a b. refl) p ps k d l, greatest-above x_of (λ a b. refl) p ps k d l);
  y_in = (least-below y_of (λ a b. refl) p ps k d l, greatest-above y_of (λ a b. refl) p ps k d l);
  z_in = (least-below z_of (λ a b. refl) p ps k d l, greatest-above z_of (λ a b. refl) p ps k d l);
}

points-tight : (p : Point) (ps : List Point) → IsTight (fold least_of p ps) (fold greatest_of p ps) (p ∷ ps)
points-tight p ps = record {
  low_x = least-reached x_of (λ a b. refl) p ps;
  low_y = least-reached y_of (λ a b. refl) p ps;
  low_z = least-reached z_of (λ a b. refl) p ps;
  high_x = greatest-reached x_of (λ a b. refl) p ps;
  high_y = greatest-reached y_of (λ a b. refl) p ps;
  high_z = greatest-reached z_of (λ a b. refl) p ps;
}

-- a fold that begins at the first point, over all points
module _ (ps : List Point) (start low high : Point) (low_is : low ≡ fold least_of start ps) (high_is : high ≡ fold greatest_of start ps) where
  pub box-holds : All (IsInBox low high) ps
  box-holds k d l =
      let held : IsInBox (fold least_of start ps) (fold greatest_of start ps) (get_or ps k d) = points-in start ps (suc k) d (omega arith) in
      subst (λ b. IsInBox b high (get_or ps k d)) (sym low_is) (subst (λ b. IsInBox (fold least_of start ps) b (get_or ps k d)) (sym high_is) held)

  again : (pick : Point → ℤ) (r : ℤ) → slice_get ps 0 ≡ Some start → Contains (map pick (start ∷ ps)) r → Contains (map pick ps) r
  again pick r first (zero, l, e) = by_points ps first
    where
      by_points : (qs : List Point) → slice_get qs 0 ≡ Some start → Contains (map pick qs) r
      by_points [] h = absurd (cc)
      by_points (q ∷ qs) h = (0, omega arith, (let same : q ≡ start = cc in ap pick same) ∙ e)
  again pick r first (suc k, l, e) = (k, omega (arith, l), e)

  pub box-tight : slice_get ps 0 ≡ Some start → IsTight low high ps
  box-tight first =
      let t = points-tight start ps in
      let tight : IsTight (fold least_of start ps) (fold greatest_of start ps) ps = record {
        low_x = again x_of _ first t.low_x;
        low_y = again y_of _ first t.low_y;
        low_z = again z_of _ first t.low_z;
        high_x = again x_of _ first t.high_x;
        high_y = again y_of _ first t.high_y;
        high_z = again z_of _ first t.high_z;
      } in
      subst (λ b. IsTight b high ps) (sym low_is) (subst (λ b. IsTight (fold least_of start ps) b ps) (sym high_is) tight)

-- the first corner of all is that of the first facet
pub first-corner : (facets : List Facet) (t : Facet) (start : Point) → Some t ≡ slice_get facets 0 → start ≡ t.a
    → slice_get (flat_map corners facets) 0 ≡ Some start
first-corner [] t start e s = absurd (cc)
first-corner (f ∷ facets) t start e s = let same : t ≡ f = cc in ap Some (sym (s ∙ ap (λ (u : Facet). u.a) same))

-- A bounding box that grows by further facets.

abbrev box : Point → Point → Option (Point × Point)
box low high = Some (low, high)

abbrev low_of : Point → Option (Point × Point) → Point
low_of other None = other
low_of other (Some found) = found.0

abbrev high_of : Point → Option (Point × Point) → Point
high_of other None = other
high_of other (Some found) = found.1

pub grown-box : (earlier more : List Facet) (low high least greatest : Point) → box low high ≡ extent earlier
    → least ≡ fold least_of low (flat_map corners more) → greatest ≡ fold greatest_of high (flat_map corners more)
    → box least greatest ≡ extent (earlier ++ more)
grown-box [] more low high least greatest e least_is greatest_is = absurd (cc)
grown-box (t ∷ ts) more low high least greatest e least_is greatest_is =
    let ps : List Point = t.b ∷ t.c ∷ flat_map corners ts in
    let qs : List Point = flat_map corners more in
    let low_is : low ≡ fold least_of t.a ps = ap (low_of low) e in
    let high_is : high ≡ fold greatest_of t.a ps = ap (high_of high) e in
    let all : t.b ∷ t.c ∷ flat_map corners (ts ++ more) ≡ ps ++ qs = ap (λ l. t.b ∷ t.c ∷ l) (flat_map-append corners ts more) in
    let lower : least ≡ fold least_of t.a (t.b ∷ t.c ∷ flat_map corners (ts ++ more)) =
    least_is ∙ ap (λ p. fold least_of p qs) low_is ∙ sym (fold-append least_of t.a ps qs) ∙ ap (fold least_of t.a) (sym all) in
    let higher : greatest ≡ fold greatest_of t.a (t.b ∷ t.c ∷ flat_map corners (ts ++ more)) =
    greatest_is ∙ ap (λ p. fold greatest_of p qs) high_is ∙ sym (fold-append greatest_of t.a ps qs) ∙ ap (fold greatest_of t.a) (sym all) in
    ap (λ p. box p greatest) lower ∙ ap (λ p. box (fold least_of t.a (t.b ∷ t.c ∷ flat_map corners (ts ++ more))) p) higher

-- Lists of points with the same members have one bounding box.

mapped : (pick : Point → ℤ) (P : ℤ → Type 0) (ps : List Point) → All (λ q. P (pick q)) ps → All P (map pick ps)
mapped pick P [] all k d l = absurd (omega (arith, l))
mapped pick P (p ∷ ps) all zero d l = all zero p (omega arith)
mapped pick P (p ∷ ps) all (suc k) d l = mapped pick P ps (λ j e m. all (suc j) e (omega (arith, m))) k d (omega (arith, l))

module _ (p q : Point) (ps qs : List Point) (within : All (Contains (q ∷ qs)) (p ∷ ps)) (covers : All (Contains (p ∷ ps)) (q ∷ qs)) where
  -- what holds of the members of one list holds of those of the other
  over : (P : Point → Type 0) → All P (p ∷ ps) → All P (q ∷ qs)
  over P all k d l = All-contains P (p ∷ ps) (get_or (q ∷ qs) k d) all (covers k d l)

  one_least : (pick : Point → ℤ) → ((a b : Point) → pick (least_of a b) ≡ int_min (pick a) (pick b)) → pick (fold least_of p ps) ≤ℤ pick (fold least_of q qs)
  one_least pick each =
      let r = pick (fold least_of p ps) in
      All-contains (λ x. r ≤ℤ x) (map pick (q ∷ qs)) _ (mapped pick (λ x. r ≤ℤ x) (q ∷ qs) (over (λ s. r ≤ℤ pick s) (least-below pick each p ps)))
      (least-reached pick each q qs)

  one_greatest : (pick : Point → ℤ) → ((a b : Point) → pick (greatest_of a b) ≡ int_max (pick a) (pick b)) → pick (fold greatest_of q qs) ≤ℤ pick (fold greatest_of p ps)
  one_greatest pick each =
      let r = pick (fold greatest_of p ps) in
      All-contains (λ x. x ≤ℤ r) (map pick (q ∷ qs)) _ (mapped pick (λ x. x ≤ℤ r) (q ∷ qs) (over (λ s. pick s ≤ℤ r) (greatest-above pick each p ps)))
      (greatest-reached pick each q qs)

point_is : (p q : Point) → p.x ≡ q.x → p.y ≡ q.y → p.z ≡ q.z → p ≡ q
point_is p q x_is y_is z_is = λ i. record { x = x_is i; y = y_is i; z = z_is i }

module _ (p q : Point) (ps qs : List Point) (within : All (Contains (q ∷ qs)) (p ∷ ps)) (covers : All (Contains (p ∷ ps)) (q ∷ qs)) where
  low-alike : fold least_of p ps ≡ fold least_of q qs
  low-alike =
      let one : (pick : Point → ℤ) (each : (a b : Point) → pick (least_of a b) ≡ int_min (pick a) (pick b)) → pick (fold least_of p ps) ≡ pick (fold least_of q qs) =
      λ pick each. antisym _ _ (one_least p q ps qs within covers pick each) (one_least q p qs ps covers within pick each) in
      point_is _ _ (one x_of (λ a b. refl)) (one y_of (λ a b. refl)) (one z_of (λ a b. refl))

  high-alike : fold greatest_of p ps ≡ fold greatest_of q qs
  high-alike =
      let one : (pick : Point → ℤ) (each : (a b : Point) → pick (greatest_of a b) ≡ int_max (pick a) (pick b)) → pick (fold greatest_of p ps) ≡ pick (fold greatest_of q qs) =
      λ pick each. antisym _ _ (one_greatest q p qs ps covers within pick each) (one_greatest p q ps qs within covers pick each) in
      point_is _ _ (one x_of (λ a b. refl)) (one y_of (λ a b. refl)) (one z_of (λ a b. refl))

-- a fold that begins at one of the points gives the bounding box of each list with the same members
pub box-alike : (ps cs : List Point) (start low high : Point) → Contains ps start → All (Contains cs) ps → All (Contains ps) cs
    → low ≡ fold least_of start ps → high ≡ fold greatest_of start ps → box low high ≡ option_map corner_pair (bounds_of cs)
box-alike ps [] start low high own within covers low_is high_is =
    let nothing : Contains [] start = All-contains (Contains []) ps start within own in
    absurd (omega (arith, nothing.1))
box-alike ps (c ∷ cs) start low high own within covers low_is high_is =
    let inside : All (Contains (c ∷ cs)) (start ∷ ps) = All-cons (Contains (c ∷ cs)) start ps (All-contains (Contains (c ∷ cs)) ps start within own) within in
    let back : All (Contains (start ∷ ps)) (c ∷ cs) = λ k d l. Contains-append_right (start ∷ []) ps _ (covers k d l) in
    ap (λ p. box p high) (low_is ∙ low-alike start c ps cs inside back)
    ∙ ap (λ p. box (fold least_of c cs) p) (high_is ∙ high-alike start c ps cs inside back)

pub no-box : (ps cs : List Point) → slice_get ps 0 ≡ None → All (Contains ps) cs → option_map corner_pair (bounds_of cs) ≡ None
no-box ps [] none covers = refl
no-box [] (c ∷ cs) none covers =
    let nothing : Contains [] c = covers 0 c (omega arith) in
    absurd (omega (arith, nothing.1))
no-box (p ∷ ps) (c ∷ cs) none covers = absurd (cc)
