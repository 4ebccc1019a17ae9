use Rattle.std.proofs.Common.{◌≡◌, ◌<◌, [], length}
use Rattle.std.proofs.Common.{rules}
use Rattle.stl_text.specs.Text.{after_space}
use Rattle.stl_text.proofs.lemmas.Layouts.{separates}
use Rattle.stl_text.proofs.layout.separator_at.Goals as goal

pub returns : goal.returns
returns c =
    let white : after_space c.separator-2.new.self.rest ≡ [] = search rules in
    let some : 0 < length c.separator-2.new.self.rest = search rules in
    separates c.args.separator _ c.split_at.result.0.now c.new-again.ensures c.in_ok-separator-2.ensures.some some white
