-- A worked example: the build of a box, and a book with one of its layers. So the laws of books and builds speak of
-- something: a layer with a loop, filled pixels and pixels that are not, of facets of which one is degenerate.
use Rattle.std.proofs.Common.{◌≡◌, ℕ, zero, suc, ◌<◌, List, [], ◌∷◌, Option, Some, None, refl, subst, arith, slice_get}
use Rattle.std.specs.Prelude.{pos}
use Rattle.geometry.proofs.examples.Meshes.{at, cube}
use Rattle.geometry.specs.Point.{origin}
use Rattle.geometry.specs.Facet.{Facet, facet_with}
use Rattle.geometry.specs.Winding.{turn_of, wind, hit}
use Rattle.plane_segments.specs.Segment.{segments}
use Rattle.contour.specs.Loops.{AreLoops, loops}
use Rattle.raster.specs.declared.rule.Rule.TheVariants.{Positive}
use Rattle.raster.specs.declared.span.Span.{Span}
use Rattle.raster.specs.Grid.{Grid, centre, grid_with, plane}
use Rattle.raster.specs.Filler.{is_filled}
use Rattle.raster.specs.Span.{covers}
use Rattle.build_book.specs.Job.{Job}
use Rattle.build_book.specs.Layer.{Layer, IsLawful}
use Rattle.build_book.specs.Book.{IsLawfulBook, IsLawfulPlace}
use Rattle.build_book.specs.Build.{IsComplete}
use Rattle.build_book.specs.Promise.{job_of}

-- a box of 2 by 2 by 2 micrometres, and a facet with two equal corners
abbrev facets : List Facet
facets = facet_with origin origin (at (pos 2) (pos 0) (pos 0)) ∷ cube 0 2

-- the box fills two of the three columns
abbrev grid : Grid
grid = grid_with origin 1 1 3 2 2

abbrev job : Job
job = job_of facets grid Positive

abbrev spans : List Span
spans = (record { row = 0; from = 0; to = 2 }) ∷ (record { row = 1; from = 0; to = 2 }) ∷ []

abbrev layer : ℕ → Layer
layer k = record { number = k; loops = loops (segments (cube 0 2) (plane grid k)); spans = spans; area = 4 }

closed_below : AreLoops (segments (cube 0 2) (plane grid 0)) (loops (segments (cube 0 2) (plane grid 0)))
closed_below = record {
  cycles = ((refl, (refl, (refl, (refl, (refl, (refl, (refl, refl))))))), tt);
  from_least = refl;
  in_order = λ k low. absurd (omega (arith, low));
  once = λ n. omega arith;
}

closed_above : AreLoops (segments (cube 0 2) (plane grid 1)) (loops (segments (cube 0 2) (plane grid 1)))
closed_above = record {
  cycles = ((refl, (refl, (refl, (refl, (refl, (refl, (refl, refl))))))), tt);
  from_least = refl;
  in_order = λ k low. absurd (omega (arith, low));
  once = λ n. omega arith;
}

filled_below : (i j : ℕ) → i < 3 → j < 2 → covers spans i j ≡ is_filled Positive (cube 0 2) (centre grid i j 0)
unfolding turn_of wind hit
filled_below zero zero x y = refl
filled_below (suc zero) zero x y = refl
filled_below (suc (suc zero)) zero x y = refl
filled_below zero (suc zero) x y = refl
filled_below (suc zero) (suc zero) x y = refl
filled_below (suc (suc zero)) (suc zero) x y = refl
filled_below i (suc (suc j)) x y = absurd (omega (arith, y))
filled_below (suc (suc (suc i))) j x y = absurd (omega (arith, x))

filled_above : (i j : ℕ) → i < 3 → j < 2 → covers spans i j ≡ is_filled Positive (cube 0 2) (centre grid i j 1)
unfolding turn_of wind hit
filled_above zero zero x y = refl
filled_above (suc zero) zero x y = refl
filled_above (suc (suc zero)) zero x y = refl
filled_above zero (suc zero) x y = refl
filled_above (suc zero) (suc zero) x y = refl
filled_above (suc (suc zero)) (suc zero) x y = refl
filled_above i (suc (suc j)) x y = absurd (omega (arith, y))
filled_above (suc (suc (suc i))) j x y = absurd (omega (arith, x))

lawful_below : IsLawful job 0 (layer 0)
unfolding turn_of wind hit
lawful_below = record {
  number = refl;
  loops_are = refl;
  closed = closed_below;
  spans = record { within = refl; apart = refl };
  filled = filled_below;
  area = refl;
}

lawful_above : IsLawful job 1 (layer 1)
unfolding turn_of wind hit
lawful_above = record {
  number = refl;
  loops_are = refl;
  closed = closed_above;
  spans = record { within = refl; apart = refl };
  filled = filled_above;
  area = refl;
}

pub box_build : IsComplete job (layer 0 ∷ layer 1 ∷ [])
box_build = record { whole = refl; lawful = (lawful_below, (lawful_above, tt)) }

pub box_book : IsLawfulBook (record { job = job; places = None ∷ Some (layer 1) ∷ [] })
box_book = record { one_each = refl; lawful = places }
  where
    places : (k : ℕ) (place : Option Layer) → slice_get (None ∷ Some (layer 1) ∷ []) k ≡ Some place → IsLawfulPlace job k place
    places zero None h = tt
    places zero (Some other) h = cc
    places (suc zero) None h = cc
    places (suc zero) (Some other) h = let same : layer 1 ≡ other = cc in subst (IsLawful job 1) same lawful_above
    places (suc (suc k)) place h = cc
