use Rattle.std.proofs.Common.{arith}
use Rattle.mesh_reading.proofs.lemmas.Extents.{grown-extent}
use Rattle.mesh_reading.proofs.extent.Extent.with.Goals as goal

pub returns : goal.returns
returns c = λ earlier is.
    grown-extent earlier c.args.facets.now c.args.self _ _ is
    (λ few. omega (arith, few, c.saturating_add.ensures)) (λ same. c.extent_with.ensures earlier same)
