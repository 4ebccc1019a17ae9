-- One step of a loop over facets: a map, a filter and a prefix with one more element, and one step of the merge.
use Rattle.std.proofs.Common.{◌≡◌, ℕ, ◌+◌, ◌<◌, ◌≤◌, Bool, true, false, cond, List, [], ◌∷◌, ◌++◌, sym, subst, ◌∙◌, ap, length, take, drop, get_or, map, arith}
use Rattle.std.specs.Prelude.{ℤ, pos, ◌*ℤ◌, filter, nat_lt}
use Rattle.std.specs.List.{prefix_len}
use Rattle.std.proofs.lemmas.List.{take_more, map_more, map-append, append_assoc, append-nil, drop_more, drop_all, get_or-map}
use Rattle.std.proofs.lemmas.List.Elements.{filter_more}
use Rattle.std.proofs.lemmas.List.Sums.{prefix_len-drop_yes, prefix_len-drop_no}
use Rattle.geometry.specs.TieRule.{is_below, is_above}
use Rattle.geometry.specs.Facet.{Facet, least_z}
use Rattle.mesh_weld.specs.Solid.{facet_at, top_of}
use Rattle.contour.specs.Active.{starts_by, ends_above, merge}

pub pushed_tops : (facets : List Facet) (old now new : List ℤ) (xs : List ℕ) (i : ℕ) (top read : ℤ) → i < length xs → now ≡ old ++ map (top_of facets) (take i xs)
    → new ≡ now ++ read ∷ [] → read ≡ top → top ≡ top_of facets (get_or xs i 0) → new ≡ old ++ map (top_of facets) (take (i + 1) xs)
pushed_tops facets old now new xs i top read h before pushed e f =
    pushed ∙ (λ j. before j ++ (e ∙ f) j ∷ [])
    ∙ append_assoc old (map (top_of facets) (take i xs)) (top_of facets (get_or xs i 0) ∷ [])
    ∙ ap (λ ts. old ++ ts) (sym (map_more (top_of facets) xs i 0 h))

pub pushed_numbers : (old xs : List ℕ) (i : ℕ) → i < length xs → old ++ take (i + 1) xs ≡ (old ++ take i xs) ++ get_or xs i 0 ∷ []
pushed_numbers old xs i h = ap (λ ns. old ++ ns) (take_more xs i 0 h) ∙ sym (append_assoc old (take i xs) (get_or xs i 0 ∷ []))

-- ---- facets in order of their least heights: a loop over them; `height` is the value of the machine word that holds z
pub starts_by-ends : (facets : List Facet) (z height : ℤ) (xs : List ℕ) (i : ℕ) → height ≡ z → i < length xs → starts_by facets height (get_or xs i 0) ≡ false
    → i + prefix_len (starts_by facets height) (drop i xs) ≡ prefix_len (starts_by facets height) xs → i ≡ prefix_len (starts_by facets z) xs
starts_by-ends facets z height xs i same l e before =
    stop i (prefix_len (starts_by facets height) (drop i xs)) (prefix_len (starts_by facets height) xs) (prefix_len-drop_no (starts_by facets height) xs i 0 l e) before
    ∙ ap (λ y. prefix_len (starts_by facets y) xs) same
  where
    stop : (i p q : ℕ) → p ≡ 0 → i + p ≡ q → i ≡ q
    stop i p q h k = omega arith

pub starts_by-on : (facets : List Facet) (z : ℤ) (xs : List ℕ) (i all : ℕ) → i < length xs → starts_by facets z (get_or xs i 0) ≡ true
    → i + prefix_len (starts_by facets z) (drop i xs) ≡ all → i + 1 + prefix_len (starts_by facets z) (drop (i + 1) xs) ≡ all
starts_by-on facets z xs i all l e before =
    on i (prefix_len (starts_by facets z) (drop i xs)) (prefix_len (starts_by facets z) (drop (i + 1) xs)) all (prefix_len-drop_yes (starts_by facets z) xs i 0 l e) before
  where
    on : (i p q all : ℕ) → p ≡ 1 + q → i + p ≡ all → i + 1 + q ≡ all
    on i p q all h k = omega arith

pub starts_by-all : (facets : List Facet) (z height : ℤ) (xs : List ℕ) (i : ℕ) → height ≡ z → length xs ≤ i → i ≤ length xs
    → i + prefix_len (starts_by facets height) (drop i xs) ≡ prefix_len (starts_by facets height) xs → length xs ≡ prefix_len (starts_by facets z) xs
starts_by-all facets z height xs i same low high before =
    end (length xs) i (prefix_len (starts_by facets height) (drop i xs)) (prefix_len (starts_by facets height) xs) low high
    (ap (prefix_len (starts_by facets height)) (drop_all i xs low)) before
    ∙ ap (λ y. prefix_len (starts_by facets y) xs) same
  where
    end : (n i p q : ℕ) → n ≤ i → i ≤ n → p ≡ 0 → i + p ≡ q → n ≡ q
    end n i p q a b h k = omega arith

pub ends_above-all : (facets : List Facet) (z height : ℤ) (xs old cut : List ℕ) (i : ℕ) → height ≡ z → length xs ≤ i → i ≤ length xs
    → cut ≡ old ++ filter (ends_above facets height) (take i xs) → cut ≡ old ++ filter (ends_above facets z) (take (length xs) xs)
ends_above-all facets z height xs old cut i same low high h =
    h ∙ ap (λ n. old ++ filter (ends_above facets height) (take n xs)) (both i (length xs) high low)
    ∙ ap (λ y. old ++ filter (ends_above facets y) (take (length xs) xs)) same
  where
    both : (i n : ℕ) → i ≤ n → n ≤ i → i ≡ n
    both i n a b = omega arith

pub ends_above-kept : (facets : List Facet) (z : ℤ) (xs old cut more new : List ℕ) (i : ℕ) → i < length xs → ends_above facets z (get_or xs i 0) ≡ true
    → new ≡ more → more ≡ cut ++ get_or xs i 0 ∷ [] → cut ≡ old ++ filter (ends_above facets z) (take i xs)
    → new ≡ old ++ filter (ends_above facets z) (take (i + 1) xs)
ends_above-kept facets z xs old cut more new i l e is pushed before =
    is ∙ pushed ∙ ap (λ ks. ks ++ get_or xs i 0 ∷ []) before
    ∙ append_assoc old (filter (ends_above facets z) (take i xs)) (get_or xs i 0 ∷ [])
    ∙ ap (λ ks. old ++ ks)
    (sym (filter_more (ends_above facets z) xs i 0 l ∙ ap (λ b. filter (ends_above facets z) (take i xs) ++ cond b (get_or xs i 0 ∷ []) []) e))

pub ends_above-left : (facets : List Facet) (z : ℤ) (xs old cut new : List ℕ) (i : ℕ) → i < length xs → ends_above facets z (get_or xs i 0) ≡ false
    → new ≡ cut → cut ≡ old ++ filter (ends_above facets z) (take i xs) → new ≡ old ++ filter (ends_above facets z) (take (i + 1) xs)
ends_above-left facets z xs old cut new i l e same before =
    same ∙ before
    ∙ ap (λ ks. old ++ ks)
    (sym (filter_more (ends_above facets z) xs i 0 l ∙ ap (λ b. filter (ends_above facets z) (take i xs) ++ cond b (get_or xs i 0 ∷ []) []) e
    ∙ append-nil (filter (ends_above facets z) (take i xs))))

-- ---- two ascending lists as one
top_read : (facets : List Facet) (tops : List ℤ) (ns : List ℕ) (i : ℕ) (top : ℤ) → i < length ns
    → tops ≡ map (top_of facets) ns → top ≡ get_or tops i top → top ≡ top_of facets (get_or ns i 0)
top_read facets tops ns i top l e f =
    f ∙ ap (λ ts. get_or ts i top) e ∙ get_or-map (top_of facets) ns i 0 top l

ends_above_next : (facets : List Facet) (z : ℤ) (ns : List ℕ) (i : ℕ) → i < length ns
    → filter (ends_above facets z) (drop i ns)
    ≡ cond (ends_above facets z (get_or ns i 0)) (get_or ns i 0 ∷ filter (ends_above facets z) (drop (i + 1) ns)) (filter (ends_above facets z) (drop (i + 1) ns))
ends_above_next facets z ns i l = ap (filter (ends_above facets z)) (drop_more ns i 0 l)

pub merge-passes : (old ms later : List ℕ) (n : ℕ) (b : Bool) → b ≡ false → old ++ merge later ms ≡ old ++ merge (cond b (n ∷ later) later) ms
merge-passes old ms later n b e = ap (λ c. old ++ merge (cond c (n ∷ later) later) ms) (sym e)

merge-takes : (old ms later : List ℕ) (n : ℕ) (b : Bool) → b ≡ true
    → (old ++ (take (prefix_len (λ m. nat_lt m n) ms) ms ++ n ∷ [])) ++ merge later (drop (prefix_len (λ m. nat_lt m n) ms) ms)
    ≡ old ++ merge (cond b (n ∷ later) later) ms
merge-takes old ms later n b e =
    append_assoc old (take (prefix_len (λ m. nat_lt m n) ms) ms ++ n ∷ []) _
    ∙ ap (λ ks. old ++ ks) (append_assoc (take (prefix_len (λ m. nat_lt m n) ms) ms) (n ∷ []) _)
    ∙ ap (λ c. old ++ merge (cond c (n ∷ later) later) ms) (sym e)

-- the comparison of a facet's start or top with a height, both as values of machine words
pub below-read : (facets : List Facet) (n : ℕ) (z height start read : ℤ) (answer b : Bool) → height ≡ z → read ≡ start → start ≡ least_z (facet_at facets n)
    → answer ≡ is_below (pos 2 *ℤ read) height → answer ≡ b → starts_by facets z n ≡ b
below-read facets n z height start read answer b e f h said is =
    ap (λ t. is_below (pos 2 *ℤ t) z) (sym h ∙ sym f) ∙ ap (λ y. is_below (pos 2 *ℤ read) y) (sym e) ∙ sym said ∙ is

pub above-read : (facets : List Facet) (n : ℕ) (z height top read : ℤ) (answer b : Bool) → height ≡ z → read ≡ top → top ≡ top_of facets n
    → answer ≡ is_above (pos 2 *ℤ read) height → answer ≡ b → ends_above facets z n ≡ b
above-read facets n z height top read answer b e f h said is =
    ap (λ t. is_above (pos 2 *ℤ t) z) (sym h ∙ sym f) ∙ ap (λ y. is_above (pos 2 *ℤ read) y) (sym e) ∙ sym said ∙ is

-- the same of a top alone
pub top-read : (z height top read : ℤ) (answer b : Bool) → height ≡ z → read ≡ top → answer ≡ is_above (pos 2 *ℤ read) height → answer ≡ b
    → is_above (pos 2 *ℤ top) z ≡ b
top-read z height top read answer b e f said is =
    ap (λ t. is_above (pos 2 *ℤ t) z) (sym f) ∙ ap (λ y. is_above (pos 2 *ℤ read) y) (sym e) ∙ sym said ∙ is

pub merge-pushed : (old ms later new left : List ℕ) (n : ℕ) (b : Bool) → b ≡ true
    → new ≡ old ++ (take (prefix_len (λ m. nat_lt m n) ms) ms ++ n ∷ []) → left ≡ drop (prefix_len (λ m. nat_lt m n) ms) ms
    → new ++ merge later left ≡ old ++ merge (cond b (n ∷ later) later) ms
merge-pushed old ms later new left n b e pushed rest =
    ap (λ ks. ks ++ merge later left) pushed
    ∙ ap (λ ks. (old ++ (take (prefix_len (λ m. nat_lt m n) ms) ms ++ n ∷ [])) ++ merge later ks) rest
    ∙ merge-takes old ms later n b e

pub merge-next : (facets : List Facet) (z : ℤ) (ns items : List ℕ) (i : ℕ) (old ms new left all : List ℕ) → items ≡ ns → i < length items
    → new ++ merge (filter (ends_above facets z) (drop (i + 1) ns)) left
    ≡ old ++ merge (cond (ends_above facets z (get_or items i 0)) (get_or items i 0 ∷ filter (ends_above facets z) (drop (i + 1) ns)) (filter (ends_above facets z) (drop (i + 1) ns))) ms
    → old ++ merge (filter (ends_above facets z) (drop i ns)) ms ≡ all
    → new ++ merge (filter (ends_above facets z) (drop (i + 1) ns)) left ≡ all
merge-next facets z ns items i old ms new left all e l pushed before =
    let later : List ℕ = filter (ends_above facets z) (drop (i + 1) ns) in
    pushed
    ∙ ap (λ ks. old ++ merge (cond (ends_above facets z (get_or ks i 0)) (get_or ks i 0 ∷ later) later) ms) e
    ∙ ap (λ ks. old ++ merge ks ms) (sym (ends_above_next facets z ns i (subst (λ ks. i < length ks) e l)))
    ∙ before

pub merge-done : (facets : List Facet) (z height : ℤ) (ns items : List ℕ) (i : ℕ) (done rest all fresh : List ℕ) → z ≡ height → items ≡ ns → length items ≤ i
    → done ++ merge (filter (ends_above facets z) (drop i ns)) rest ≡ merge (filter (ends_above facets z) ns) fresh → all ≡ done ++ rest
    → all ≡ merge (filter (ends_above facets height) ns) fresh
merge-done facets z height ns items i done rest all fresh same e l before pushed =
    pushed
    ∙ sym (ap (λ ks. done ++ merge (filter (ends_above facets z) ks) rest) (drop_all i ns (subst (λ ks. length ks ≤ i) e l)))
    ∙ before
    ∙ ap (λ h. merge (filter (ends_above facets h) ns) fresh) same

pub top_next : (facets : List Facet) (tops : List ℤ) (ns items : List ℕ) (i : ℕ) (top : ℤ) → items ≡ ns → i < length items
    → tops ≡ map (top_of facets) ns → top ≡ get_or tops i top → top ≡ top_of facets (get_or items i 0)
top_next facets tops ns items i top e l f read =
    top_read facets tops ns i top (subst (λ ks. i < length ks) e l) f read ∙ ap (λ ks. top_of facets (get_or ks i 0)) (sym e)

pub tops_joined : (facets : List Facet) (done rest numbers : List ℕ) (before tops : List ℤ) → before ≡ map (top_of facets) done → numbers ≡ done ++ rest
    → tops ≡ before ++ map (top_of facets) rest → tops ≡ map (top_of facets) numbers
tops_joined facets done rest numbers before tops e f h =
    h ∙ ap (λ ts. ts ++ map (top_of facets) rest) e ∙ sym (map-append (top_of facets) done rest) ∙ ap (map (top_of facets)) (sym f)
