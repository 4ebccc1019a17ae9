use Rattle.build_book.proofs.lemmas.OneLayer.{one_layer as layers_are_one}
use Rattle.build_book.proofs.laws.one_layer.Goals as goal

pub returns : goal.returns
returns c = layers_are_one
