-- More facets after those that are named: none, one, and one list after another.
use Rattle.std.proofs.Common.{◌≡◌, ℕ, ◌≤◌, ◌+◌, ◌∷◌, ◌++◌, [], List, false, length, not, true, refl, sym, ap, ◌∙◌, subst, arith}
use Rattle.std.specs.Prelude.{Err, Ok, OnErr, OnOk, Result}
use Rattle.std.specs.Result.{is_err}
use Rattle.std.proofs.lemmas.Bool.{false≢true}
use Rattle.std.proofs.lemmas.List.{append_assoc, append-nil, length-append, length-map, map-append}
use Rattle.std.proofs.lemmas.List.Elements.{filter-append}
use Rattle.std.proofs.lemmas.Result.{IfOk-from_err, on_ok_weaker}
use Rattle.geometry.specs.Point.{Point}
use Rattle.geometry.specs.Facet.{Facet}
use Rattle.geometry.specs.declared.limits.TheConstants.{FACET_LIMIT}
use Rattle.mesh_weld.specs.declared.height_order.HeightRange.{HeightRange}
use Rattle.mesh_weld.specs.declared.names.Names.{Names}
use Rattle.mesh_weld.specs.Solid.{facet_by, facets_by, height_range, height_ranges, is_kept, kept_facets}
use Rattle.mesh_weld.specs.Welder.{AreNamed, AreNamedMore, IsMoreWelded, IsNamedFacet, Welder, degenerate_facets, welder_by, welder_of, with_facets}
use Rattle.mesh_weld.proofs.lemmas.Naming.{facets_more, named_more, welder_length}

-- ---- one list after another
pub no_more_named : {A : Type 0} (n : Names A) (ids : List (List ℕ)) → AreNamedMore n ids [] n ids
no_more_named n ids = record {
  named = λ before own. own;
  added = λ before own. sym (append-nil (facets_by n.points.items (before ++ ids)));
  degenerate = sym (append-nil n.degenerate.items);
  few = omega arith;
}

-- a facet with three distinct corners, whose ids come last
pub one_named : {A : Type 0} (old new : Names A) (ids : List (List ℕ)) (t : Facet) (own : List ℕ) → is_kept t ≡ true
    → IsNamedFacet old.points.items t new.points.items own → new.degenerate.items ≡ old.degenerate.items → AreNamedMore old ids (t ∷ []) new (ids ++ own ∷ [])
one_named old new ids t own kept is same =
    let one : kept_facets (t ∷ []) ≡ t ∷ [] = rw kept refl in
    let none : degenerate_facets (t ∷ []) ≡ [] = rw kept refl in
    record {
      named = λ before all.
          subst (AreNamed new.points.items) (append_assoc before ids (own ∷ []))
          (named_more old.points.items new.points.items (before ++ ids) t own all is kept);
      added = λ before all.
          ap (facets_by new.points.items) (sym (append_assoc before ids (own ∷ [])))
          ∙ facets_more old.points.items new.points.items (before ++ ids) t own all is
          ∙ ap (λ (l : List Facet). facets_by old.points.items (before ++ ids) ++ l) (sym one);
      degenerate = same ∙ sym (append-nil old.degenerate.items) ∙ ap (λ (l : List Facet). old.degenerate.items ++ l) (sym none);
      few = omega (arith, is.few, ap length is.appended, length-append old.points.items is.more);
    }

pub one_degenerate : {A : Type 0} (old new : Names A) (ids : List (List ℕ)) (t : Facet) → is_kept t ≡ false → new.points.items ≡ old.points.items
    → new.degenerate.items ≡ old.degenerate.items ++ t ∷ [] → AreNamedMore old ids (t ∷ []) new ids
one_degenerate old new ids t dropped same more =
    let none : kept_facets (t ∷ []) ≡ [] = rw dropped refl in
    let one : degenerate_facets (t ∷ []) ≡ t ∷ [] = rw dropped refl in
    record {
      named = λ before all. subst (λ ps. AreNamed ps (before ++ ids)) (sym same) all;
      added = λ before all.
          ap (λ ps. facets_by ps (before ++ ids)) same
          ∙ sym (append-nil (facets_by old.points.items (before ++ ids)))
          ∙ ap (λ (l : List Facet). facets_by old.points.items (before ++ ids) ++ l) (sym none);
      degenerate = more ∙ ap (λ (l : List Facet). old.degenerate.items ++ l) (sym one);
      few = omega (arith, ap length same);
    }

-- other facets, whose ids come after those that are there
pub named_beside : {A : Type 0} (old new : Names A) (ids fresh : List (List ℕ)) (facets : List Facet) → AreNamedMore old [] facets new fresh
    → AreNamedMore old ids facets new (ids ++ fresh)
named_beside old new ids fresh facets more =
    let none : (before : List (List ℕ)) → (before ++ ids) ++ [] ≡ before ++ ids = λ before. append-nil (before ++ ids) in
    record {
      named = λ before own.
          subst (AreNamed new.points.items) (append_assoc before ids fresh)
          (more.named (before ++ ids) (subst (AreNamed old.points.items) (sym (none before)) own));
      added = λ before own.
          ap (facets_by new.points.items) (sym (append_assoc before ids fresh))
          ∙ more.added (before ++ ids) (subst (AreNamed old.points.items) (sym (none before)) own)
          ∙ ap (λ l. facets_by old.points.items l ++ kept_facets facets) (none before);
      degenerate = more.degenerate;
      few = more.few;
    }

-- ---- welders
-- the facets that a welder has then
pub with_named : {A : Type 0} (old new : Names A) (ids more : List (List ℕ)) (facets : List Facet) → AreNamed old.points.items ids → AreNamedMore old ids facets new more
    → welder_by new.points.items more new.degenerate.items ≡ with_facets (welder_by old.points.items ids old.degenerate.items) facets
with_named old new ids more facets own m = λ n. record { kept = m.added [] own n; degenerate = m.degenerate n }

-- what a welder needs
pub still_named : {A : Type 0} (old new : Names A) (ids more : List (List ℕ)) (ranges all : List HeightRange) (facets : List Facet)
    → AreNamed old.points.items ids → ranges ≡ height_ranges (facets_by old.points.items ids)
    → AreNamedMore old ids facets new more → all ≡ ranges ++ height_ranges (kept_facets facets) → length ids + length old.degenerate.items + length facets ≤ FACET_LIMIT
    → AreNamed new.points.items more × (length more + length new.degenerate.items ≤ FACET_LIMIT) × (all ≡ height_ranges (facets_by new.points.items more))
still_named old new ids more ranges all facets own are m longer few = (
  m.named [] own,
  omega (
    arith,
    few,
    ap length (m.added [] own),
    ap length m.degenerate,
    length-map more (facet_by new.points.items),
    length-map ids (facet_by old.points.items),
    length-append (facets_by old.points.items ids) (kept_facets facets),
    length-append old.degenerate.items (degenerate_facets facets),
    welder_length facets,
  ),
  longer ∙ ap (λ (l : List HeightRange). l ++ height_ranges (kept_facets facets)) are
      ∙ sym (map-append height_range (facets_by old.points.items ids) (kept_facets facets)) ∙ ap height_ranges (sym (m.added [] own)),
)

-- the limit holds of what a welder has inside
pub few_with : {A : Type 0} (own : Names A) (ids : List (List ℕ)) (facets : List Facet) (w : Welder) → welder_by own.points.items ids own.degenerate.items ≡ w
    → length w.kept + length w.degenerate + length facets ≤ FACET_LIMIT → length ids + length own.degenerate.items + length facets ≤ FACET_LIMIT
few_with own ids facets w is few =
    omega (arith, few, ap (λ (v : Welder). length v.kept + length v.degenerate) is, length-map ids (facet_by own.points.items))

pub none_left : (points : List Point) (ids : List (List ℕ)) (degenerate : List Facet) → points ≡ [] → ids ≡ [] → degenerate ≡ []
    → welder_by points ids degenerate ≡ welder_of []
none_left points ids degenerate no_points no_ids none = λ n. welder_by (no_points n) (no_ids n) (none n)

with_more : (before more : List Facet) → with_facets (welder_of before) more ≡ welder_of (before ++ more)
with_more before more =
    λ n. record { kept = sym (filter-append is_kept before more) n; degenerate = sym (filter-append (λ t. not (is_kept t)) before more) n }

on_err : {T E : Type 0} (P : Type 0) (r : Result T E) → P → OnErr r P
on_err P (Ok x) p = tt
on_err P (Err x) p = p

not_err : {T E : Type 0} (P : Type 0) (r : Result T E) → is_err r ≡ false → OnErr r P
not_err P (Ok x) e = tt
not_err P (Err x) e = absurd (false≢true (sym e))

pub more_welded : {E : Type 0} (old new : Welder) (facets : List Facet) (r : Result (Unit {0}) E) → is_err r ≡ false → OnOk r (new ≡ with_facets old facets)
    → IsMoreWelded old facets new r
more_welded old new facets r served is = record {
  added = is;
  whole = λ before of. on_ok_weaker r (λ e. e ∙ ap (λ w. with_facets w facets) of ∙ with_more before facets) is;
  failed = not_err (new ≡ welder_of []) r served;
}

pub none_welded : {E : Type 0} (old new : Welder) (facets : List Facet) (r : Result (Unit {0}) E) → is_err r ≡ true → new ≡ welder_of [] → IsMoreWelded old facets new r
none_welded old new facets r failed none = record {
  added = IfOk-from_err r (λ _. new ≡ with_facets old facets) failed;
  whole = λ before of. IfOk-from_err r (λ _. new ≡ welder_of (before ++ facets)) failed;
  failed = on_err (new ≡ welder_of []) r none;
}
