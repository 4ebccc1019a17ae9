-- The result of welding facets, and what each of its faults says of them.
use Rattle.std.specs.Prelude.{◌≡◌, ◌+◌, IfErr, IfOk, List, Result}
use Rattle.geometry.specs.Facet.{Facet}
use Rattle.geometry.specs.Point.{Point}
use Rattle.geometry.specs.Winding.{ray}
use Rattle.mesh_weld.specs.Balance.{IsBalanced, IsLeastOpen, half_edge_count}
use Rattle.mesh_weld.specs.Welder.{Welder, welder_of}
use Rattle.mesh_weld.specs.Solid.{Solid, solid_of}
use Rattle.mesh_weld.specs.declared.weld_fault.WeldFault.{WeldFault}
use Rattle.mesh_weld.specs.declared.weld_fault.WeldFault.TheVariants as fault

-- an open edge is the least one; a failed allocation says nothing of the mesh
abbrev pub IsWeldFault : List Facet → WeldFault → Type 0
IsWeldFault facets (fault.Open from to there back) = IsLeastOpen facets from to there back
IsWeldFault facets fault.Memory = Unit {0}

-- the fault of kept facets: their own least open edge, with the edges of dropped facets counted too
abbrev pub IsKeptFault : List Facet → List Facet → WeldFault → Type 0
IsKeptFault kept degenerate (fault.Open from to there back) =
    IsLeastOpen kept from to (half_edge_count kept from to) (half_edge_count kept to from)
    × (there ≡ half_edge_count kept from to + half_edge_count degenerate from to)
    × (back ≡ half_edge_count kept to from + half_edge_count degenerate to from)
IsKeptFault kept degenerate fault.Memory = Unit {0}

-- the result of a welder at its end, whichever facets were added
pub record IsWeldOf (welder : Welder) (result : Result Solid WeldFault) : Type 0 where
  -- the solid is that of the facets: the kept ones, and the number of those that were dropped
  pub kept : (facets : List Facet) → welder ≡ welder_of facets → IfOk result (λ solid. solid ≡ solid_of facets)
  -- only closed facets are a solid
  pub closed : (facets : List Facet) → welder ≡ welder_of facets → IfOk result (λ solid. IsBalanced facets)
  -- its rays are those of all facets
  pub ray : (facets : List Facet) → welder ≡ welder_of facets → IfOk result (λ solid. (c : Point) → ray solid.facets c ≡ ray facets c)
  -- an open edge is the least one
  pub «open» : (facets : List Facet) → welder ≡ welder_of facets → IfErr result (IsWeldFault facets)
  -- if the facets are closed, the only fault is a failed allocation
  pub only : (facets : List Facet) → welder ≡ welder_of facets → IsBalanced facets → IfErr result (λ f. f ≡ fault.Memory)
