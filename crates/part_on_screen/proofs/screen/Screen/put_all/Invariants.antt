use Rattle.std.proofs.Common.{◌≡◌, ℕ, ◌<◌, ◌++◌, map, take, drop, get_or}
use Rattle.geometry.specs.Facet.{Facet}
use Rattle.part_on_screen.specs.Middle.{HasMeshPoints}
use Rattle.part_on_screen.specs.Stretched.{facet_on_screen, part_on_screen}
use Rattle.part_on_screen.proofs.screen.Screen.put_all.Given as goal

abbrev pub invariant-loop-facet : goal.invariant-loop-facet
invariant-loop-facet l =
    (take l.facet-index l.facets ++ map (facet_on_screen l.fn.self) (drop l.facet-index l.facets) ≡ part_on_screen l.fn.self l.fn.facets)
    × ((k : ℕ) (d : Facet) → k < l.facet-index → HasMeshPoints (get_or l.facets k d))
