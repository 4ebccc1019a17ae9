-- What a sweep keeps, at the start and at each step, and the segments of the facets that it cuts.
use Rattle.std.proofs.Common.{◌≡◌, ℕ, ◌+◌, ◌^◌, ◌<◌, ◌≤◌, Bool, true, false, cond, ◌&&◌, ◌||◌, List, [], ◌∷◌, ◌⊎◌, inl, inr, refl, sym, ◌∙◌, ap, subst, length, take, drop, arith, map, None}
use Rattle.std.specs.Prelude.{All, OnErr, Result, Ok, Err, Option, filter, filter_map, IsPermutation, ℤ, ◌≤ℤ◌, ◌<ℤ◌, int_le, int_lt}
use Rattle.std.specs.List.{range_with_len, prefix_len, enumerate_from, cons_option}
use Rattle.std.specs.List.Sorted.{IsSorted}
use Rattle.std.specs.Ordering.{nat_cmp}
use Rattle.std.proofs.lemmas.Int.{ints}
use Rattle.std.proofs.lemmas.List.FromFn.{get_or-range_with_len, length-range_with_len}
use Rattle.std.proofs.lemmas.List.Sorted.{All-permutation, IsNonDecreasingBy-from_sort}
use Rattle.std.proofs.lemmas.List.Elements.{All-filter, All-take, All-drop}
use Rattle.std.proofs.lemmas.List.Sums.{prefix_len-le-length}
use mir.Syntax.{w64}
use mir.Val.{Fits}
use Rattle.exact_int.specs.Bounds.{IsAtMost}
use Rattle.geometry.specs.Point.{origin}
use Rattle.geometry.specs.TieRule.{is_below, is_above}
use Rattle.geometry.specs.Facet.{Facet, facet_with, twice}
use Rattle.mesh_weld.specs.Solid.{facet_at, vertices, IsByHeight, top_of}
use Rattle.exact_cut.specs.Cut.{IsBetween}
use Rattle.plane_segments.specs.Segment.{height, segment_of, segments, numbered_segment}
use Rattle.plane_segments.proofs.lemmas.Cutting.{segment-none}
use Rattle.contour.specs.Active.{is_between, active_facets, reached_count, starts_by, ends_above, merge}
use Rattle.contour.specs.Sweep.{IsSwept}
use Rattle.contour.proofs.lemmas.Swept.{front_passed, first_active, next_passed, next_active, active-is, Gives, Gives-get_or, starts_by-is, ends_above-is}
use Rattle.geometry.specs.declared.limits.TheConstants.{CENTRE_LIMIT}

abbrev AreNumbers : List Facet → List ℕ → Type 0
AreNumbers facets numbers = All (λ n. n < length facets) numbers

range_in : (facets : List Facet) → AreNumbers facets (range_with_len 0 (length facets))
range_in facets k d l =
    let inside : k < length facets = omega (arith, length-range_with_len 0 (length facets)) in
    let e = get_or-range_with_len 0 (length facets) k d inside in
    omega arith

pub order_in : (facets : List Facet) (order : List ℕ) → IsByHeight facets order → AreNumbers facets order
order_in facets order by_height =
    All-permutation (λ n. n < length facets) (range_with_len 0 (length facets)) order by_height.all (range_in facets)

pub active_in : (facets : List Facet) (z : ℤ) → AreNumbers facets (active_facets facets z)
active_in facets z =
    subst (AreNumbers facets) (sym (active-is facets z))
    (All-filter (λ n. starts_by facets z n && ends_above facets z n) (λ n. n < length facets) (range_with_len 0 (length facets)) (range_in facets))

pub found_in : (facets : List Facet) (z : ℤ) (k : ℕ) (order found numbers : List ℕ) → AreNumbers facets order
    → found ≡ filter (ends_above facets z) (take k order) → IsPermutation found numbers → AreNumbers facets numbers
found_in facets z k order found numbers h e p =
    All-permutation (λ n. n < length facets) found numbers p
    (subst (AreNumbers facets) (sym e)
    (All-filter (ends_above facets z) (λ n. n < length facets) (take k order) (All-take (λ n. n < length facets) k order h)))

pub rest_in : (facets : List Facet) (k : ℕ) (order : List ℕ) → IsByHeight facets order → AreNumbers facets (drop k order)
rest_in facets k order by_height = All-drop (λ n. n < length facets) k order (order_in facets order by_height)

pub passed_within : (facets : List Facet) (order : List ℕ) (z : ℤ) → IsByHeight facets order → reached_count facets z ≤ length order
passed_within facets order z by_height =
    let e = front_passed facets order by_height z in
    let le = prefix_len-le-length (starts_by facets z) order in
    omega arith

pub swept_first : (facets : List Facet) (order : List ℕ) (z : ℤ) (passed : ℕ) (found numbers active : List ℕ) (tops : List ℤ)
    → IsByHeight facets order → IsAtMost CENTRE_LIMIT z → passed ≡ prefix_len (starts_by facets z) order
    → found ≡ filter (ends_above facets z) (take passed order) → IsPermutation found numbers → IsSorted nat_cmp numbers
    → active ≡ numbers → tops ≡ map (top_of facets) numbers → IsSwept facets z passed active tops
swept_first facets order z passed found numbers active tops by_height within p f moved sorted a t = record {
  within = within;
  passed_is = p ∙ front_passed facets order by_height z;
  active_is =
      a ∙ first_active facets order by_height z numbers
      (subst (λ ns. IsPermutation ns numbers) (f ∙ ap (λ k. filter (ends_above facets z) (take k order)) p) moved)
      (IsNonDecreasingBy-from_sort (λ n. n) numbers sorted);
  tops_are = t ∙ ap (map (top_of facets)) (sym a);
}

pub swept_next : (facets : List Facet) (order : List ℕ) (h z : ℤ) (passed more : ℕ) (active : List ℕ) (tops : List ℤ)
    (found fresh active' : List ℕ) (tops' : List ℤ)
    → IsByHeight facets order → IsSwept facets h passed active tops → h ≤ℤ z → IsAtMost CENTRE_LIMIT z
    → more ≡ prefix_len (starts_by facets z) (drop passed order)
    → found ≡ filter (ends_above facets z) (take more (drop passed order)) → IsPermutation found fresh → IsSorted nat_cmp fresh
    → active' ≡ merge (filter (ends_above facets z) active) fresh → tops' ≡ map (top_of facets) active'
    → IsSwept facets z (passed + more) active' tops'
swept_next facets order h z passed more active tops found fresh active' tops' by_height swept up within m f moved sorted a t =
    let front : passed ≡ prefix_len (starts_by facets h) order = swept.passed_is ∙ sym (front_passed facets order by_height h) in
    let more_is : more ≡ prefix_len (starts_by facets z) (drop (prefix_len (starts_by facets h) order) order) =
    m ∙ ap (λ k. prefix_len (starts_by facets z) (drop k order)) front in
    record {
      within = within;
      passed_is = (λ i. swept.passed_is i + more_is i) ∙ next_passed facets order by_height h z up;
      active_is =
          a ∙ ap (λ ns. merge (filter (ends_above facets z) ns) fresh) swept.active_is
          ∙ next_active facets order by_height h z up fresh
          (subst (λ ns. IsPermutation ns fresh)
          (f ∙ (λ i. filter (ends_above facets z) (take (more_is i) (drop (front i) order)))) moved)
          (IsNonDecreasingBy-from_sort (λ n. n) fresh sorted);
      tops_are = t;
    }

-- ---- segments
le-true : (a b : ℤ) → a ≤ℤ b → int_le a b ≡ true
le-true a b h = grind (arith, ints)

lt-true : (a b : ℤ) → a <ℤ b → int_lt a b ≡ true
lt-true a b h = grind (arith, ints)

any_of_three : (a b c : Bool) → (a ≡ true) ⊎ (b ≡ true) ⊎ (c ≡ true) → (a || (b || (c || false))) ≡ true
any_of_three true b c h = refl
any_of_three false true c h = refl
any_of_three false false true h = refl
any_of_three false false false (inl h) = cc
any_of_three false false false (inr (inl h)) = cc
any_of_three false false false (inr (inr h)) = cc

either_three : {P Q R S T U : Type 0} → (P → S) → (Q → T) → (R → U) → P ⊎ Q ⊎ R → S ⊎ T ⊎ U
either_three f g h (inl p) = inl (f p)
either_three f g h (inr (inl q)) = inr (inl (g q))
either_three f g h (inr (inr r)) = inr (inr (h r))

between-cut : (t : Facet) (z : ℤ) → IsBetween (twice t) z → is_between z t ≡ true
between-cut t z b =
    (λ i.
    any_of_three (is_below (height t.a) z) (is_below (height t.b) z) (is_below (height t.c) z)
    (either_three (le-true (height t.a) z) (le-true (height t.b) z) (le-true (height t.c) z) b.some_below) i
    && any_of_three (is_above (height t.a) z) (is_above (height t.b) z) (is_above (height t.c) z)
    (either_three (lt-true z (height t.a)) (lt-true z (height t.b)) (lt-true z (height t.c)) b.some_above) i)

uncut-none : (facets : List Facet) (z : ℤ) (n : ℕ) → (starts_by facets z n && ends_above facets z n) ≡ false
    → numbered_segment facets z n ≡ None
uncut-none facets z n h =
    segment-none (vertices facets) z n (facet_at facets n)
    (λ b. apart (sym (λ i. starts_by-is (facet_at facets n) z i && ends_above-is (facet_at facets n) z i) ∙ between-cut (facet_at facets n) z b))
  where
    apart : (starts_by facets z n && ends_above facets z n) ≡ true → ⊥
    apart e = cc

skipped : {X Y : Type 0} (h : X → Option Y) (p : X → Bool) → ((x : X) → p x ≡ false → h x ≡ None) → (xs : List X)
    → filter_map h (filter p xs) ≡ filter_map h xs
skipped h p none [] = refl
skipped {X} {Y} h p none (x ∷ xs) = by_test (skipped h p none xs) (p x) refl
  where
    by_test : filter_map h (filter p xs) ≡ filter_map h xs → (b : Bool) → p x ≡ b
        → filter_map h (cond b (x ∷ filter p xs) (filter p xs)) ≡ cons_option (h x) (filter_map h xs)
    by_test rest true e = ap (cons_option (h x)) rest
    by_test rest false e = rest ∙ ap (λ o. cons_option o (filter_map h xs)) (sym (none x e))

numbered : {X Y : Type 0} (f : ℕ → X) (h : ℕ × X → Option Y) (k : ℕ) (xs : List X) → Gives f k xs
    → filter_map h (enumerate_from k xs) ≡ filter_map (λ n. h (n, f n)) (range_with_len k (length xs))
numbered f h k [] g = refl
numbered f h k (x ∷ xs) g =
    (λ i. cons_option (h (k, sym g.0 i)) (numbered f h (k + 1) xs g.1 i))

pub active_segments : (facets : List Facet) (z : ℤ) → filter_map (numbered_segment facets z) (active_facets facets z) ≡ segments facets z
active_segments facets z =
    ap (filter_map (numbered_segment facets z)) (active-is facets z)
    ∙ skipped (numbered_segment facets z) (λ n. starts_by facets z n && ends_above facets z n) (uncut-none facets z) (range_with_len 0 (length facets))
    ∙ sym (numbered (facet_at facets) (segment_of (vertices facets) z) 0 facets (Gives-get_or facets (facet_with origin origin origin)))

-- the count of facets that the plane has reached fits the machine word
pub step-fits : (p : ℕ → Bool) (rest : List ℕ) (passed count n : ℕ) → count ≡ prefix_len p rest → length rest + passed ≡ n → n < 2 ^ 64 → Fits w64 (passed + count)
step-fits p rest passed count n e h k = record { fits = small (prefix_len p rest) (length rest) (prefix_len-le-length p rest) e h k }
  where
    small : (c m : ℕ) → c ≤ m → count ≡ c → m + passed ≡ n → n < 2 ^ 64 → passed + count < 2 ^ 64
    small c m l e h k = omega arith

pub on-error : {T E P : Type 0} (r : Result T E) → P → OnErr r P
on-error (Ok v) p = tt
on-error (Err e) p = p
