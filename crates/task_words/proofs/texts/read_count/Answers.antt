use Rattle.std.proofs.Common.{arith, ◌≡◌, ◌∙◌, ◌==◌, false, sym}
use Rattle.std.specs.Prelude.{slice_index}
use Rattle.task_words.proofs.TextLemmas.{count_read}
use Rattle.task_words.proofs.texts.read_count.Goals as goal

pub returns-then-not-starts_with : goal.returns-then-not-starts_with
returns-then-not-starts_with c =
    let first : c.starts_with.result ≡ (slice_index c.args.text.now 0 == 43) = c.starts_with.ensures.byte (omega arith) (omega arith) (λ w o h. h) in
    let plain : (slice_index c.args.text.now 0 == 43) ≡ false = sym first ∙ c.if-not-starts_with.true in
    c.ok.ensures.value ∙ count_read c.args.text.now c.parse.result c.parse.ensures.value.0 plain (omega arith)
