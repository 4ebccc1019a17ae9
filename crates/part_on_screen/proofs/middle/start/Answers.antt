use Rattle.std.proofs.Common.{rules, ◌≡◌, ◌∙◌, pos, ◌*◌, ◌+ℤ◌, [], ◌∷◌, FitsSigned, refl, sym, subst, to_z, of_z}
use Rattle.std.proofs.lemmas.Bool.{true≢false}
use Rattle.std.proofs.lemmas.Int.{to_z-of_z}
use mir.Syntax.{w32, w64}
use Rattle.exact_int.specs.Bounds.{IsAtMost}
use Rattle.exact_int.proofs.lemmas.Identity.{reads, identity}
use Rattle.exact_int.proofs.lemmas.Sizes.{at_most_by, sizes}
use Rattle.geometry.specs.declared.limits.TheConstants.{COLUMN_LIMIT, COORDINATE_LIMIT, STEP_LIMIT}
use Rattle.raster.proofs.lemmas.Middles.{coordinate}
use Rattle.part_on_screen.specs.Middle.{IsInMiddle, IsInRange}
use Rattle.part_on_screen.proofs.lemmas.Places.{middle-from, moved, still-in-range}
use Rattle.part_on_screen.proofs.middle.start.Goals.{else-is_at_most-via-then-is_at_most+else-is_at_most-2, else-is_at_most-via-else-is_at_most}
use Rattle.part_on_screen.proofs.middle.start.Goals as goal

pub returns-then-is_at_most-2-clause-value : goal.returns-then-is_at_most-2-clause-value
returns-then-is_at_most-2-clause-value c =
    let low : c.from.result ≡ c.args.low = c.from.ensures ∙ to_z-of_z w32 c.args.low c.ranges.low in
    let high : c.from-2.result ≡ c.args.high = c.from-2.ensures ∙ to_z-of_z w32 c.args.high c.ranges.high in
    let length : c.from-length.result ≡ pos c.args.length = c.from-length.ensures in
    let low_in = subst (IsAtMost COORDINATE_LIMIT) (sym low) c.requires.low in
    let high_in = subst (IsAtMost COORDINATE_LIMIT) (sym high) c.requires.high in
    let length_in : IsAtMost (COLUMN_LIMIT * STEP_LIMIT) c.from-length.result = subst (IsAtMost (COLUMN_LIMIT * STEP_LIMIT)) (sym length) (record { at_most = c.requires.length }) in
    let small : FitsSigned w64 c.ceil_div_64-start.result = search rules in
    let near = c.is_at_most.ensures.0 c.if-is_at_most.true in
    let same = coordinate (to_z w64 (of_z w64 c.ceil_div_64-start.result)) near ∙ to_z-of_z w64 c.ceil_div_64-start.result small in
    subst (IsInMiddle c.args.low c.args.high c.args.length) (sym same)
    (middle-from c.args.low c.args.high c.args.length c.from.result c.from-2.result c.from-length.result c.ceil_div_64-start.result c.ceil_div_64-start.ensures
    (identity (c.from.result ∷ c.from-2.result ∷ c.from-length.result ∷ []) (search (reads, sizes, low_in, high_in, length_in) depth 40 fits 5000) refl) low high length)

pub returns-then-is_at_most-2-clause-range : goal.returns-then-is_at_most-2-clause-range
returns-then-is_at_most-2-clause-range c =
    let r = c.ceil_div_64-start.result in
    let length : c.from-length.result ≡ pos c.args.length = c.from-length.ensures in
    let length_in : IsAtMost (COLUMN_LIMIT * STEP_LIMIT) c.from-length.result = subst (IsAtMost (COLUMN_LIMIT * STEP_LIMIT)) (sym length) (record { at_most = c.requires.length }) in
    let small : FitsSigned w64 c.ceil_div_64-start.result = search rules in
    let near = c.is_at_most.ensures.0 c.if-is_at_most.true in
    let far = c.is_at_most-then-is_at_most.ensures.0 c.if-is_at_most-2.true in
    let same = coordinate (to_z w64 (of_z w64 r)) near ∙ to_z-of_z w64 r small in
    let r_in : IsAtMost COORDINATE_LIMIT r = subst (IsAtMost COORDINATE_LIMIT) (to_z-of_z w64 r small) near in
    subst (IsInRange c.args.length) (sym same)
    (record {
      first = r_in;
      last = still-in-range r r c.from-length.result c.args.length far (identity (r ∷ c.from-length.result ∷ []) (search (reads, sizes, r_in, length_in) depth 40 fits 5000) refl) refl length;
    })

pub returns-else-is_at_most-clause-none : goal.returns-else-is_at_most-clause-none
returns-else-is_at_most-clause-none c =
    λ none all.
    let r = c.ceil_div_64-start.result in
    let low : c.from.result ≡ c.args.low = c.from.ensures ∙ to_z-of_z w32 c.args.low c.ranges.low in
    let high : c.from-2.result ≡ c.args.high = c.from-2.ensures ∙ to_z-of_z w32 c.args.high c.ranges.high in
    let length : c.from-length.result ≡ pos c.args.length = c.from-length.ensures in
    let low_in = subst (IsAtMost COORDINATE_LIMIT) (sym low) c.requires.low in
    let high_in = subst (IsAtMost COORDINATE_LIMIT) (sym high) c.requires.high in
    let length_in : IsAtMost (COLUMN_LIMIT * STEP_LIMIT) c.from-length.result = subst (IsAtMost (COLUMN_LIMIT * STEP_LIMIT)) (sym length) (record { at_most = c.requires.length }) in
    let small : FitsSigned w64 c.ceil_div_64-start.result = search rules in
    let in_range = all r
    (middle-from c.args.low c.args.high c.args.length c.from.result c.from-2.result c.from-length.result r c.ceil_div_64-start.ensures
    (identity (c.from.result ∷ c.from-2.result ∷ c.from-length.result ∷ []) (search (reads, sizes, low_in, high_in, length_in) depth 40 fits 5000) refl) low high length) in
    let r_in = in_range.first in
    elim c.else-is_at_most.branch [
      | else-is_at_most-via-then-is_at_most+else-is_at_most-2 w ↦
          true≢false (sym (w.is_at_most-then-is_at_most.ensures.1 (at_most_by (r +ℤ pos c.args.length)
          (moved r c.from-length.result c.args.length (identity (r ∷ c.from-length.result ∷ []) (search (reads, sizes, r_in, length_in) depth 40 fits 5000) refl) length) in_range.last)) ∙ w.if-is_at_most-2.false)
      | else-is_at_most-via-else-is_at_most w ↦
          true≢false (sym (c.is_at_most.ensures.1 (subst (IsAtMost COORDINATE_LIMIT) (sym (to_z-of_z w64 r small)) r_in)) ∙ w.if-is_at_most.false)
    ]
