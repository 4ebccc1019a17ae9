use Rattle.mesh_weld.proofs.numbering.numbering_by_sorts.Goals as goal

pub list_facets-requires : goal.list_facets-requires
list_facets-requires g c = rw (c.as_slice.ensures.value, c.as_slice-2.ensures.value) c.requires.below
