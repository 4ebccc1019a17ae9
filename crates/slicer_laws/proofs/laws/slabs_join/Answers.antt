use Rattle.std.proofs.Common.{refl}
use Rattle.slicer_laws.proofs.lemmas.Slabs.{area-from, lower_part, middle-raised, slabs, upper_part}
use Rattle.slicer_laws.proofs.laws.slabs_join.Goals as goal

pub returns-clause-images : goal.returns-clause-images
returns-clause-images c = slabs

pub returns-clause-planes : goal.returns-clause-planes
returns-clause-planes c = λ g m k. middle-raised g.origin.z g.layer_height m k

pub returns-clause-upper_areas : goal.returns-clause-upper_areas
returns-clause-upper_areas c = area-from

pub returns-clause-lower_areas : goal.returns-clause-lower_areas
returns-clause-lower_areas c = λ g rule facets m k. refl

pub returns-clause-lower : goal.returns-clause-lower
returns-clause-lower c = lower_part

pub returns-clause-upper : goal.returns-clause-upper
returns-clause-upper c = upper_part
