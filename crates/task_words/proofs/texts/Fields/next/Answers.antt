use Rattle.std.proofs.Common.{◌≡◌, ◌∙◌, ap, option_map, rules, Some}
use Rattle.task_words.specs.Texts.{fields_of}
use Rattle.task_words.proofs.TextLemmas.{field_found, last_field, steps_to}
use Rattle.task_words.proofs.texts.Fields.next.Goals as goal

pub returns-in-Some : goal.returns-in-Some
returns-in-Some c =
    let is : c.args.self.now.rest ≡ Some c.in_ok-text.text = search rules in
    steps_to _ _ _ (ap (λ r. fields_of (option_map (λ s. s.now) r)) is ∙ field_found c.in_ok-text.text.now c.in-Some.field c.in-Some.rest c.in-Some.ensures.cases)

pub returns-in-None : goal.returns-in-None
returns-in-None c =
    let is : c.args.self.now.rest ≡ Some c.in_ok-text.text = search rules in
    steps_to _ _ _ (ap (λ r. fields_of (option_map (λ s. s.now) r)) is ∙ last_field c.in_ok-text.text.now c.in-None.ensures.cases)
