use Rattle.std.proofs.Common.{◌+◌, ◌*◌, ◌-◌, ◌/◌, ◌%◌, ◌∙◌, inl, inr, arith}
use Rattle.std.proofs.lemmas.Bool.{cases_eq, cases_lt}
use Rattle.raster.proofs.lemmas.Masks.{bit_at-both, bit_at-first, bit_at-second, max-kept, max-none, max-one, max-set}
use Rattle.raster.proofs.pbm.bits.set_pixels.Goals as goal

pub returns-then-first-last-clause-inside : goal.returns-then-first-last-clause-inside
returns-then-first-last-clause-inside c = λ i low high.
    c.set_bits.ensures.there i (omega arith) ∙ max-one _ _ _ (bit_at-both c.mask_from-head.result c.mask_through-tail.result _ (c.mask_from-head.ensures.inside (i % 8) (omega arith) (omega arith)) (c.mask_through-tail.ensures.inside (i % 8) (omega arith)))

pub returns-then-first-last-clause-left : goal.returns-then-first-last-clause-left
returns-then-first-last-clause-left c = λ i low.
    elim (cases_eq (i / 8) (c.args.from / 8)) [
      | inl same ↦ c.set_bits.ensures.there i same ∙ max-none _ _ _ (bit_at-first c.mask_from-head.result c.mask_through-tail.result _ (c.mask_from-head.ensures.outside (i % 8) (omega arith)))
      | inr other ↦ c.set_bits.ensures.elsewhere i other
    ]

pub returns-then-first-last-clause-right : goal.returns-then-first-last-clause-right
returns-then-first-last-clause-right c = λ i high.
    elim (cases_eq (i / 8) (c.args.from / 8)) [
      | inl same ↦ c.set_bits.ensures.there i same ∙ max-none _ _ _ (bit_at-second c.mask_from-head.result c.mask_through-tail.result _ (c.mask_through-tail.ensures.outside (i % 8) (omega arith) (omega arith)))
      | inr other ↦ c.set_bits.ensures.elsewhere i other
    ]

pub returns-then-first-row-clause-inside : goal.returns-then-first-row-clause-inside
returns-then-first-row-clause-inside c = λ i low high.
    c.set_word.ensures.there i (omega arith) (omega arith)
    ∙ max-set _ _ _ (c.mask_between.ensures.inside (i - 8 * (c.args.from / 8)) (omega arith) (omega arith))

pub returns-then-first-row-clause-left : goal.returns-then-first-row-clause-left
returns-then-first-row-clause-left c = λ i low.
    elim (cases_lt (i / 8) (c.args.from / 8)) [
      | inl before ↦ c.set_word.ensures.left i before
      | inr there ↦ c.set_word.ensures.there i there (omega arith)
          ∙ max-kept _ _ _ (c.mask_between.ensures.left (i - 8 * (c.args.from / 8)) (omega arith))
    ]

pub returns-then-first-row-clause-right : goal.returns-then-first-row-clause-right
returns-then-first-row-clause-right c = λ i high.
    elim (cases_lt (i / 8) (c.args.from / 8 + 8)) [
      | inl there ↦ c.set_word.ensures.there i (omega arith) there
          ∙ max-kept _ _ _ (c.mask_between.ensures.right (i - 8 * (c.args.from / 8)) (omega arith) (omega arith))
      | inr behind ↦ c.set_word.ensures.right i behind
    ]

pub returns-else-first-last-clause-inside : goal.returns-else-first-last-clause-inside
returns-else-first-last-clause-inside c = λ i low high.
    elim (cases_eq (i / 8) ((c.args.to - 1) / 8)) [
      | inl last ↦ c.set_bits-else-first-last-2.ensures.there i last
          ∙ max-set _ _ _ (c.mask_through-tail.ensures.inside (i % 8) (omega arith))
      | inr other ↦ c.set_bits-else-first-last-2.ensures.elsewhere i other
          ∙ elim (cases_eq (i / 8) (c.args.from / 8)) [
            | inl first ↦ c.set_bytes.ensures.left i (omega arith)
                ∙ c.set_bits-else-first-last.ensures.there i first
                ∙ max-set _ _ _ (c.mask_from-head.ensures.inside (i % 8) (omega arith) (omega arith))
            | inr between ↦ c.set_bytes.ensures.inside i (omega (arith, between)) (omega (arith, other))
          ]
    ]

pub returns-else-first-last-clause-left : goal.returns-else-first-last-clause-left
returns-else-first-last-clause-left c = λ i low.
    c.set_bits-else-first-last-2.ensures.elsewhere i (λ e. omega (arith, e, c.if-first-last.false))
    ∙ c.set_bytes.ensures.left i (omega arith)
    ∙ elim (cases_eq (i / 8) (c.args.from / 8)) [
      | inl first ↦ c.set_bits-else-first-last.ensures.there i first
          ∙ max-kept _ _ _ (c.mask_from-head.ensures.outside (i % 8) (omega arith))
      | inr other ↦ c.set_bits-else-first-last.ensures.elsewhere i other
    ]

pub returns-else-first-last-clause-right : goal.returns-else-first-last-clause-right
returns-else-first-last-clause-right c = λ i high.
    elim (cases_eq (i / 8) ((c.args.to - 1) / 8)) [
      | inl last ↦ c.set_bits-else-first-last-2.ensures.there i last
          ∙ max-kept _ _ _ (c.mask_through-tail.ensures.outside (i % 8) (omega arith) (omega arith))
      | inr other ↦ c.set_bits-else-first-last-2.ensures.elsewhere i other
    ]
    ∙ c.set_bytes.ensures.right i (omega arith)
    ∙ c.set_bits-else-first-last.ensures.elsewhere i (λ e. omega (arith, e, c.if-first-last.false))
