use Rattle.std.proofs.Common.{map}
use Rattle.std.specs.Prelude.{string_bytes}
use Rattle.task_words.specs.Words.{IsFaultOfWords}
use Rattle.task_words.proofs.Parse.{read_ok, refused_by, stands, tells}
use Rattle.task_words.proofs.TaskLemmas.{err_then}
use Rattle.task_words.proofs.words.read_words.Goals as goal

pub returns-clause-task : goal.returns-clause-task
returns-clause-task c =
    let words = map string_bytes c.args.words.now in
    let got = read_ok c.in_ok-command.field-0 words c.in_ok-matches.matches c.in_ok-command.ensures c.in_ok-matches.ensures.kinds c.in_ok-matches.ensures.matches in
    stands words got.0 c.task_of.result got.1 (c.task_of.ensures.task got.0 got.2)

pub returns-clause-fault : goal.returns-clause-fault
returns-clause-fault c =
    let words = map string_bytes c.args.words.now in
    let got = read_ok c.in_ok-command.field-0 words c.in_ok-matches.matches c.in_ok-command.ensures c.in_ok-matches.ensures.kinds c.in_ok-matches.ensures.matches in
    tells words got.0 c.task_of.result got.1 c.task_of.ensures.option (c.task_of.ensures.fault got.0 got.2)

pub returns-in_err-matches-clause-fault : goal.returns-in_err-matches-clause-fault
returns-in_err-matches-clause-fault c =
    let words = map string_bytes c.args.words.now in
    err_then c.from_residual-in_err-matches.result _ (IsFaultOfWords words) c.from_residual-in_err-matches.ensures.1
    (λ f b. refused_by c.in_ok-command.field-0 words c.in_err-matches.field-0.0 f c.in_ok-command.ensures c.in_err-matches.ensures.kinds (b.0, b.1))
