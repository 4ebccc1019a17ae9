use Rattle.std.proofs.Common.{◌∙◌, arith}
use Rattle.stl_text.proofs.lemmas.WordFronts.{front_on}
use Rattle.stl_text.proofs.text_reader.hold.Goals as goal

pub returns-in-Ok-clause-held : goal.returns-in-Ok-clause-held
returns-in-Ok-clause-held g c = λ word held_is.
    c.in-Ok.ensures.items
    ∙ front_on word c.args.held.now.items c.args.bytes.now c.split_at.result.0.now c.min.result held_is
    (omega (arith, c.min.ensures, c.saturating_sub-room.ensures, c.len.ensures, c.args.held.now.ok.0)) c.split_at.ensures.front
