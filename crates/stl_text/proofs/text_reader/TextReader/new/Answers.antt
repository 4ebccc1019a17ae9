use Rattle.stl_text.proofs.lemmas.TextReaders.{at_start}
use Rattle.stl_text.proofs.text_reader.TextReader.new.Goals as goal

pub returns : goal.returns
returns g c = rw (c.new.ensures.items, c.new-2.ensures.items) (at_start c.args.limit c.args.unit)
