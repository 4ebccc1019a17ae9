use Rattle.std.proofs.Common.{arith, ◌≡◌, ◌∙◌, ◌==◌, ◌<◌, ◌≤◌, false, length, subst, sym}
use Rattle.std.specs.Prelude.{slice_index}
use Rattle.clap.specs.Lexer.{without_minus}
use Rattle.task_words.proofs.TextLemmas.{coordinate_long, coordinate_plus, coordinate_read, stripped}
use Rattle.task_words.proofs.texts.read_coordinate.Goals as goal
use Rattle.task_words.proofs.texts.read_coordinate.Goals.{else-digits-le9-via-then-digits-le9+else-not-starts_with, else-digits-le9-via-else-digits-le9}

pub returns-then-not-starts_with : goal.returns-then-not-starts_with
returns-then-not-starts_with c =
    let digits : c.unwrap_or-digits.result.now ≡ without_minus c.args.text.now = stripped c.args.text c.strip_prefix.result c.strip_prefix.ensures.cases c.unwrap_or-digits.result c.unwrap_or-digits.ensures in
    let first : c.starts_with.result ≡ (slice_index c.args.text.now 0 == 43) = c.starts_with.ensures.byte (omega arith) (omega arith) (λ w o h. h) in
    let plain : (slice_index c.args.text.now 0 == 43) ≡ false = sym first ∙ c.if-not-starts_with.true in
    c.ok.ensures.value ∙ coordinate_read c.args.text.now c.parse.result c.parse.ensures.value.0 plain (subst (λ t. length t ≤ 9) digits c.if-digits-le9.true)

pub returns-else-digits-le9 : goal.returns-else-digits-le9
returns-else-digits-le9 c =
    let digits : c.unwrap_or-digits.result.now ≡ without_minus c.args.text.now =
    stripped c.args.text c.strip_prefix.result c.strip_prefix.ensures.cases c.unwrap_or-digits.result c.unwrap_or-digits.ensures in
    elim c.else-digits-le9.branch [
      | else-digits-le9-via-then-digits-le9+else-not-starts_with w ↦
          let first : w.starts_with.result ≡ (slice_index c.args.text.now 0 == 43) = w.starts_with.ensures.byte (omega arith) (omega arith) (λ w o h. h) in
          coordinate_plus c.args.text.now (sym first ∙ w.if-not-starts_with.false)
      | else-digits-le9-via-else-digits-le9 w ↦ coordinate_long c.args.text.now (subst (λ t. 9 < length t) digits w.if-digits-le9.false)
    ]
