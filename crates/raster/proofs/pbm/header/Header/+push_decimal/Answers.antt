use Rattle.std.proofs.Common.{◌+◌, ◌/◌, ◌%◌, ◌++◌, ◌∷◌, [], List, ℕ, length, length-append, append_assoc, ap, sym, ◌∙◌, arith}
use Rattle.std.specs.Prelude.{decimal}
use Rattle.std.proofs.lemmas.Fmt.{decimal_nonempty, decimal_step, decimal_digit}
use Rattle.raster.proofs.lemmas.Decimals.{length-step}
use Rattle.raster.proofs.pbm.header.Header.+push_decimal.Goals as goal
use Rattle.raster.proofs.pbm.header.Header.+push_decimal.Goals.{then-n-ge10, else-n-ge10}

pub push_decimal-requires : goal.push_decimal-requires
push_decimal-requires t c =
    (omega (arith, c.decreases), omega (arith, c.requires, length-step c.args.n c.if-n-ge10.true (omega arith)))

pub push-requires : goal.push-requires
push-requires t c =
    elim c.if-n-ge10.branch [
      | then-n-ge10 w ↦ omega (arith, ap (λ (l : List ℕ). length l) (w.self-is ∙ w.push_decimal.ensures), length-append c.args.self.now (decimal (c.args.n / 10)), length-step c.args.n w.if-n-ge10.true (omega arith), c.requires)
      | else-n-ge10 w ↦ omega (arith, ap (λ (l : List ℕ). length l) w.self-is, decimal_nonempty c.args.n (omega arith), c.requires)
    ]

pub returns : goal.returns
returns t c =
    elim c.if-n-ge10.branch [
      | then-n-ge10 w ↦ c.push.ensures
          ∙ ap (λ (l : List ℕ). l ++ ((48 + c.args.n % 10) ∷ [])) (w.self-is ∙ w.push_decimal.ensures)
          ∙ append_assoc c.args.self.now (decimal (c.args.n / 10)) ((48 + c.args.n % 10) ∷ [])
          ∙ ap (λ (l : List ℕ). c.args.self.now ++ l) (sym (decimal_step c.args.n w.if-n-ge10.true (omega arith)))
      | else-n-ge10 w ↦ c.push.ensures
          ∙ ap (λ (l : List ℕ). l ++ ((48 + c.args.n % 10) ∷ [])) w.self-is
          ∙ ap (λ (n : ℕ). c.args.self.now ++ ((48 + n) ∷ [])) (omega (arith, w.if-n-ge10.false))
          ∙ ap (λ (l : List ℕ). c.args.self.now ++ l) (sym (decimal_digit c.args.n w.if-n-ge10.false))
    ]
