use Rattle.std.proofs.Common.{◌∙◌, codes, map, refl, rules, sym, tests}
use Rattle.std.specs.Prelude.{string_bytes}
use Rattle.std.proofs.lemmas.Iterator.{YieldsList-from_slice}
use Rattle.std.proofs.lemmas.Iterator.Search.{any_from_yields_List}
use Rattle.clap.proofs.WalkLemmas.{list_any-map}
use Rattle.task_words.specs.Words.{is_progress_word, options}
use Rattle.task_words.proofs.Asked.{flag_word}
use Rattle.task_words.proofs.words.wants_progress.Goals as goal

pub returns-clause-word : goal.returns-clause-word
returns-clause-word c =
    any_from_yields_List (λ word. is_progress_word (string_bytes word)) _ _ c.any.result c.any.ensures.ran (YieldsList-from_slice c.args.words.now cc) (λ x b q k. search (rules, tests))
    ∙ list_any-map is_progress_word string_bytes c.args.words.now

pub returns-clause-asked : goal.returns-clause-asked
returns-clause-asked c uses given = returns-clause-word c ∙ sym (flag_word options (codes "progress") refl refl refl (map string_bytes c.args.words.now) uses given)
