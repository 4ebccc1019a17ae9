use Rattle.layer_session.proofs.lemmas.Texts.{as_file, as_text}
use Rattle.layer_session.proofs.laws.text_as_file.Goals as goal

pub returns : goal.returns
returns c = λ setup bytes answer words short.
    (as_text setup bytes (c.no_text.ensures bytes words short) answer, as_file setup bytes (c.no_text.ensures bytes words short) answer)
