use Rattle.std.proofs.Common.{◌≡◌, ◌+◌, ◌-◌, ◌<◌, ◌≤◌, ◌<ℤ◌, ℕ, pos, negsuc, ℤ, FitsSigned, of_z, to_z, inl, inr, length, slice_index, refl, sym, subst, arith}
use Rattle.std.proofs.lemmas.Int.{to_z-of_z}
use mir.Syntax.{w32, w64}
use Rattle.geometry.specs.Facet.{Facet, twice}
use Rattle.exact_cut.specs.Column.{IsLeastColumn}
use Rattle.exact_cut.specs.Crossing.{IsUnit}
use Rattle.exact_cut.specs.Lattice.{row_y}
use Rattle.exact_cut.specs.Section.{IsSection, den_between, num_between}
use Rattle.exact_cut.specs.Walk.{IsWalkOf}
use Rattle.exact_cut.specs.declared.scanline.cut_point.CutPoint.{CutPoint}
use Rattle.exact_cut.specs.declared.scanline.section.Section.{Section}
use Rattle.exact_cut.proofs.lemmas.Walks.{crosses_upward, crosses_downward, uncrossed, upward, downward, walk_as}
use Rattle.exact_cut.proofs.dda.walk.Walk.start.Goals as goal
use Rattle.exact_cut.proofs.dda.walk.Walk.start.Goals.{then-down-up-2, else-down-up-2}

-- the height as the machine word holds it is the height
section_at : (t : Facet) (z : ℤ) (s : Section) → FitsSigned w64 z → IsSection t (to_z w64 (of_z w64 z)) s → IsSection t z s
section_at t z s fits h = simp to_z-of_z at h

-- if two rows differ, and the second is not higher, it is lower
lower : (a b : ℕ) → (a ≡ b → ⊥) → b ≤ a → b < a
lower a b h k = grind arith

pos_unit : IsUnit (pos 1)
pos_unit = inl refl

neg_unit : IsUnit (negsuc 0)
neg_unit = inr refl

-- for `search`
ruleset unit = (pos_unit, neg_unit)

-- the sign of a walk, its rows from the first to the end, which is excluded, and the ends of its line
abbrev Course : Type 0
Course = ℤ × ℕ × ℕ × CutPoint × CutPoint

pub returns-then-down-up : goal.returns-then-down-up
returns-then-down-up c =
    let t = twice c.args.f.now in
    let s = c.in_ok-ends.ends in
    let lo = c.first_row-down in
    let hi = c.first_row-up in
    uncrossed t c.args.z2 c.args.lattice.now s (section_at t c.args.z2 s c.ranges.z2 c.in_ok-ends.ensures)
    lo.result hi.result lo.ensures hi.ensures c.if-down-up.true

pub between-requires-clause-unit : goal.between-requires-clause-unit
between-requires-clause-unit c = elim c.if-down-up-2.branch [
  | then-down-up-2 w ↦ subst (λ (v : Course). IsUnit (to_z w32 (of_z w32 v.0))) (sym w.sign-is) (search unit)
  | else-down-up-2 w ↦ subst (λ (v : Course). IsUnit (to_z w32 (of_z w32 v.0))) (sym w.sign-is) (search unit)
]

pub between-requires-clause-some : goal.between-requires-clause-some
between-requires-clause-some c = elim c.if-down-up-2.branch [
  | then-down-up-2 w ↦ subst (λ (v : Course). v.1 < v.2) (sym w.sign-is) w.if-down-up-2.true
  | else-down-up-2 w ↦ subst (λ (v : Course). v.1 < v.2) (sym w.sign-is) (lower c.first_row-down.result c.first_row-up.result c.if-down-up.false w.if-down-up-2.false)
]

pub between-requires-clause-in_rows : goal.between-requires-clause-in_rows
between-requires-clause-in_rows c = elim c.if-down-up-2.branch [
  | then-down-up-2 w ↦ subst (λ (v : Course). v.2 ≤ c.args.lattice.now.rows) (sym w.sign-is) c.first_row-up.ensures.in_row
  | else-down-up-2 w ↦ subst (λ (v : Course). v.2 ≤ c.args.lattice.now.rows) (sym w.sign-is) c.first_row-down.ensures.in_row
]

pub between-requires-clause-den_positive : goal.between-requires-clause-den_positive
between-requires-clause-den_positive c =
    let t = twice c.args.f.now in
    let s = c.in_ok-ends.ends in
    let lo = c.first_row-down in
    let hi = c.first_row-up in
    let h = section_at t c.args.z2 s c.ranges.z2 c.in_ok-ends.ensures in
    elim c.if-down-up-2.branch [
      | then-down-up-2 w ↦ subst (λ (v : Course). pos 0 <ℤ den_between v.3 v.4) (sym w.sign-is)
          (crosses_upward t c.args.z2 c.args.lattice.now s h lo.result hi.result lo.ensures hi.ensures lo.result (omega arith) w.if-down-up-2.true).den_positive
      | else-down-up-2 w ↦ subst (λ (v : Course). pos 0 <ℤ den_between v.3 v.4) (sym w.sign-is)
          (crosses_downward t c.args.z2 c.args.lattice.now s h lo.result hi.result lo.ensures hi.ensures hi.result (omega arith)
          (lower lo.result hi.result c.if-down-up.false w.if-down-up-2.false)).den_positive
    ]

pub returns : goal.returns
returns c =
    let t = twice c.args.f.now in
    let l = c.args.lattice.now in
    let s = c.in_ok-ends.ends in
    let lo = c.first_row-down in
    let hi = c.first_row-up in
    let h = section_at t c.args.z2 s c.ranges.z2 c.in_ok-ends.ensures in
    let b = c.between in
    let Q : Course → Type 0 = λ v. b.result.row ≡ v.1 → b.result.sign ≡ to_z w32 (of_z w32 v.0) → length b.result.columns ≡ v.2 - v.1
    → ((n : ℕ) → n < v.2 - v.1 → IsLeastColumn (num_between v.3 v.4 (row_y l (v.1 + n))) (den_between v.3 v.4) l.x2 l.step l.columns (slice_index b.result.columns n))
    → IsWalkOf t c.args.z2 l b.result in
    elim c.if-down-up-2.branch [
      | then-down-up-2 w ↦ subst Q (sym w.sign-is)
          (λ row sign count least. walk_as b.result lo.result (pos 1) row sign
          (upward t c.args.z2 l s h lo.result hi.result lo.ensures hi.ensures w.if-down-up-2.true b.result.columns count least))
          b.ensures.row b.ensures.sign b.ensures.length b.ensures.columns
      | else-down-up-2 w ↦ subst Q (sym w.sign-is)
          (λ row sign count least. walk_as b.result hi.result (negsuc 0) row sign
          (downward t c.args.z2 l s h lo.result hi.result lo.ensures hi.ensures
          (lower lo.result hi.result c.if-down-up.false w.if-down-up-2.false) b.result.columns count least))
          b.ensures.row b.ensures.sign b.ensures.length b.ensures.columns
    ]
