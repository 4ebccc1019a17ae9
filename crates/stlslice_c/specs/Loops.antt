-- The loops of a layer, as C has them.
use Rattle.std.specs.Prelude.{◌≡◌, ◌⊎◌, ◌<◌, ◌≤◌, ◌++◌, ℕ, List, length, drop, flat_map, map}
use Rattle.exact_cut.specs.declared.plane_point.PlanePoint.{PlanePoint}
use Rattle.contour.specs.Loops.{AreEnds, parts_from}
use Rattle.contour.specs.Outlines.{outlines}
use Rattle.raster.specs.Grid.{plane}
use Rattle.build_book.specs.Job.{Job}
use Rattle.stlslice_c.specs.declared.loops.LoopPoint.{LoopPoint}
use Rattle.stlslice_c.specs.declared.status.TheConstants.{DONE, MEMORY, NO_ROOM, OUT_OF_RANGE}

abbrev pub point_told : PlanePoint → LoopPoint
point_told p = record { x2 = p.x2; y2 = p.y2 }

-- Points and ends stand at the fronts of two buffers, and the rest is as it was; or all of both is, if one of them is too
-- small. Their numbers are put in both cases.
abbrev pub IsPutLoops : List LoopPoint → List ℕ → List LoopPoint → List LoopPoint → ℕ → List ℕ → List ℕ → ℕ → ℕ → Type 0
IsPutLoops found found_ends old new wanted old_ends new_ends wanted_ends status =
    (wanted ≡ length found) × (wanted_ends ≡ length found_ends)
    × (((length found ≤ length old) × (length found_ends ≤ length old_ends)
    × (new ≡ found ++ drop (length found) old) × (new_ends ≡ found_ends ++ drop (length found_ends) old_ends) × (status ≡ DONE))
    ⊎ (((length old < length found) ⊎ (length old_ends < length found_ends))
    × (new ≡ old) × (new_ends ≡ old_ends) × (status ≡ NO_ROOM)))

-- the points of all loops at a layer's plane
abbrev pub points_of : Job → ℕ → List PlanePoint
points_of job k = flat_map (λ outline. outline) (outlines job.solid.facets (plane job.grid k))

-- these ends cut the points of all loops into the loops
abbrev pub AreEndsOf : Job → ℕ → List ℕ → Type 0
AreEndsOf job k ends = (parts_from 0 ends (points_of job k) ≡ outlines job.solid.facets (plane job.grid k))
    × AreEnds 0 ends (length (points_of job k))

-- points, ends and both numbers are as they were
abbrev pub AreAsBefore : List LoopPoint → List LoopPoint → ℕ → ℕ → List ℕ → List ℕ → ℕ → ℕ → Type 0
AreAsBefore old new told wanted old_ends new_ends told_ends wanted_ends =
    (new ≡ old) × (wanted ≡ told) × (new_ends ≡ old_ends) × (wanted_ends ≡ told_ends)

abbrev pub IsLoops : Job → ℕ → List LoopPoint → List LoopPoint → ℕ → ℕ → List ℕ → List ℕ → ℕ → ℕ → ℕ → Type 0
IsLoops job k old new told wanted old_ends new_ends told_ends wanted_ends status =
    ((k < job.grid.layers) × ((ends : List ℕ) × AreEndsOf job k ends
    × IsPutLoops (map point_told (points_of job k)) ends old new wanted old_ends new_ends wanted_ends status))
    ⊎ ((k < job.grid.layers) × AreAsBefore old new told wanted old_ends new_ends told_ends wanted_ends × (status ≡ MEMORY))
    ⊎ ((job.grid.layers ≤ k) × AreAsBefore old new told wanted old_ends new_ends told_ends wanted_ends × (status ≡ OUT_OF_RANGE))
