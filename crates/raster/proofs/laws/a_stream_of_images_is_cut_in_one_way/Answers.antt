use Rattle.raster.proofs.lemmas.Streams.{images-cut, one-list-of-images}
use Rattle.raster.proofs.laws.a_stream_of_images_is_cut_in_one_way.Goals as goal

pub returns-clause-cut : goal.returns-clause-cut
returns-clause-cut c = images-cut

pub returns-clause-one : goal.returns-clause-one
returns-clause-one c = one-list-of-images
