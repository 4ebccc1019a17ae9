use Rattle.std.proofs.Common.{◌≡◌, ◌∙◌, ap, ap₂, codes, true, None, Some, []}
use Rattle.std.proofs.lemmas.Result.{IfOk-weaker}
use Rattle.clap.specs.Simple.{App, app_of, app_of_fields, on_top, with_rule}
use Rattle.task_words.specs.Command.{command_with, declared}
use Rattle.task_words.specs.Options.{any_text, flag}
use Rattle.task_words.specs.Words.{row}
use Rattle.task_words.proofs.command.command.Goals as goal

pub returns : goal.returns
returns c =
    let named : app_of c.version.result ≡ on_top (λ s. record s { has_version = true }) (app_of c.new.result) = ap app_of_fields c.version.ensures in
    let plain : app_of c.no_binary_name.result ≡ on_top (λ s. record s { no_binary_name = true }) (app_of c.version.result) = ap app_of_fields c.no_binary_name.ensures in
    let about : app_of c.about.result ≡ app_of c.no_binary_name.result = ap app_of_fields c.about.ensures in
    let help : app_of c.after_help.result ≡ app_of c.about.result = ap app_of_fields c.after_help.ensures in
    let none : app_of c.after_help.result ≡ command_with [] =
    help ∙ about ∙ plain ∙ ap (on_top (λ s. record s { no_binary_name = true })) (named ∙ ap (on_top (λ s. record s { has_version = true })) c.new.ensures.app) in
    let one = c.in_ok-arg.ensures.shape c.pitch.ensures.local ∙ ap₂ with_rule none c.pitch.ensures.rule in
    let two = c.in_ok-arg-2.ensures.shape c.layer.ensures.local ∙ ap₂ with_rule one c.layer.ensures.rule in
    let three = c.in_ok-arg-3.ensures.shape c.rule.ensures.local ∙ ap₂ with_rule two c.rule.ensures.rule in
    let four = c.in_ok-arg-4.ensures.shape c.unit.ensures.local ∙ ap₂ with_rule three c.unit.ensures.rule in
    let five = c.in_ok-arg-5.ensures.shape c.grid.ensures.local ∙ ap₂ with_rule four c.grid.ensures.rule in
    let six = c.in_ok-command.ensures.shape c.workers.ensures.local ∙ ap₂ with_rule five c.workers.ensures.rule in
    let pngs = c.in_ok-with_pngs.ensures ∙ ap (λ (a : App). with_rule (with_rule (with_rule (with_rule a
    (declared (row (codes "png") flag None))) (declared (row (codes "depth") any_text (Some (codes "8")))))
    (declared (row (codes "mirror-x") flag None))) (declared (row (codes "mirror-y") flag None))) six in
    let report = c.in_ok-arg-6.ensures.shape c.flag.ensures.local ∙ ap₂ with_rule pngs c.flag.ensures.rule in
    let box = c.in_ok-arg-7.ensures.shape c.flag-2.ensures.local ∙ ap₂ with_rule report c.flag-2.ensures.rule in
    let probe = c.in_ok-arg-8.ensures.shape c.probe.ensures.local ∙ ap₂ with_rule box c.probe.ensures.rule in
    IfOk-weaker c.arg-10.result _ _ (λ r h. h.shape c.flag-3.ensures.local ∙ ap₂ with_rule probe c.flag-3.ensures.rule) c.arg-10.ensures
