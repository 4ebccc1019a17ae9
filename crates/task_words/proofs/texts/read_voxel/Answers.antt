use Rattle.std.proofs.Common.{◌∙◌, sym}
use Rattle.task_words.specs.Texts.{left_of}
use Rattle.task_words.proofs.TextLemmas.{some_left, voxel_read}
use Rattle.task_words.proofs.texts.read_voxel.Goals as goal

pub returns-then-is_some : goal.returns-then-is_some
returns-then-is_some c = sym (voxel_read c.args.text.now (left_of c.count.new.self) (left_of c.count-2.new.self) (left_of c.count-3.new.self)
    c.in_ok-i.i c.in_ok-j.j c.in_ok-k.k c.in_ok-i.ensures c.in_ok-j.ensures c.in_ok-k.ensures
    ∙ some_left c.count-3.new.self.rest _ (sym c.is_some.ensures ∙ c.if-is_some.true))
