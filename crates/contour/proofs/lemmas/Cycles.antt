-- A list of segments in which each one's follower is the next, and the last one's the first, is the cycle of its first segment.
use Rattle.std.proofs.Common.{◌≡◌, ℕ, zero, suc, ◌≤◌, false, eqb, cond, List, [], ◌∷◌, refl, ◌∙◌, ap, length, arith, Some, None}
use Rattle.std.specs.Prelude.{Option}
use Rattle.std.proofs.lemmas.Bool.{eq-eqb}
use Rattle.plane_segments.specs.declared.segment.Segment.{Segment}
use Rattle.plane_segments.specs.Segment.{is_segment}
use Rattle.contour.specs.Loops.{Closes, run_from}

-- none of these is of a facet
abbrev pub NoneOf : ℕ → List Segment → Type 0
NoneOf n [] = Unit {0}
NoneOf n (s ∷ list) = (eqb s.facet n ≡ false) × NoneOf n list

abbrev pub onward : List Segment → Segment → ℕ → Option Segment → List Segment
onward list first more o = elim o [ None ↦ [] | Some t ↦ cond (is_segment t first) [] (run_from list first more t) ]

pub run-is : (list : List Segment) (first s : Segment) (rest : List Segment) (fuel : ℕ) → Closes list first (s ∷ rest) → NoneOf first.facet rest
    → length rest ≤ fuel → run_from list first fuel s ≡ s ∷ rest
run-is list first s [] zero h n l = refl
run-is list first s (t ∷ rest) zero h n l = absurd (omega (arith, l))
run-is list first s [] (suc more) h n l =
    ap (λ o. s ∷ onward list first more o) h
    ∙ ap (λ b. s ∷ cond b [] (run_from list first more first)) (eq-eqb first.facet first.facet refl)
run-is list first s (t ∷ rest) (suc more) h n l =
    ap (λ o. s ∷ onward list first more o) h.0
    ∙ ap (λ b. s ∷ cond b [] (run_from list first more t)) n.0
    ∙ ap (λ xs. s ∷ xs) (run-is list first t rest more h.1 n.1 (omega (arith, l)))
