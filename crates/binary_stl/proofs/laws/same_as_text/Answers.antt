use Rattle.binary_stl.proofs.lemmas.Decimals.{same_coordinate}
use Rattle.binary_stl.proofs.laws.same_as_text.Goals as goal

pub returns : goal.returns
returns c = same_coordinate
