use Rattle.std.proofs.Common.{◌∷◌, [], refl, ap}
use Rattle.std.specs.Prelude.{None, if◌then◌else◌}
use Rattle.std.proofs.lemmas.Option.{IfSome_then}
use Rattle.stl_text.specs.Text.{keyword_of, after_word, rest_after}
use Rattle.stl_text.specs.declared.word.Word.TheVariants.{EndLoop, EndFacet}
use Rattle.stl_text.proofs.lemmas.Steps.{spells_then}
use Rattle.stl_text.proofs.reader.Reader.separator.Goals as goal

pub returns-in_ok-keyword-in-Closing-clause-some : goal.returns-in_ok-keyword-in-Closing-clause-some
returns-in_ok-keyword-in-Closing-clause-some c =
    rw c.in-Closing.is
    (IfSome_then c.keyword-in-Closing-2.result c.keyword-in-Closing-2.ensures.some
    (λ _ last. spells_then (keyword_of EndLoop ∷ []) (keyword_of EndFacet ∷ []) c.in_ok-keyword-in-Closing.ensures.some last))

pub returns-in_err-keyword-in-Closing-clause-none : goal.returns-in_err-keyword-in-Closing-clause-none
returns-in_err-keyword-in-Closing-clause-none c = λ _.
    rw c.in-Closing.is
    (ap (λ b. if b then rest_after c.args.self.now.unit (keyword_of EndFacet ∷ []) (after_word c.args.self.now.rest) else None)
    (c.in_err-keyword-in-Closing.ensures.none refl))
