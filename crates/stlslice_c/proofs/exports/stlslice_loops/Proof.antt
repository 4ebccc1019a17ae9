use Rattle.stlslice_c.proofs.lemmas.Walk.{ℕ, List, [], ◌∷◌, refl, w32, w64, SProp, id⊢, ex_i, ◌$◌, !, by, keep, of_opd, alloc_all, pass_all}
use Rattle.stlslice_c.proofs.lemmas.Walk.{free_all, get, sets, fact, usize, Testable, triple_of, ptr_good, Passed, allocator, number, to_read, filled}
use Rattle.stlslice_c.proofs.lemmas.Walk.{Places, answers_with, lifetimes_of, shares_of, values_of, machine_values, over, lefts, finder, finds_one}
use Rattle.stlslice_c.proofs.lemmas.Walk.{finds_many, slices, export_proved, begins_with, enters, words, typed, told, locals_of, walk_ends}
use Rattle.stlslice_c.specs.contracts.handle.Handle.{the_row as handle_row}
use Rattle.stlslice_c.specs.contracts.loops.LoopPoint.{the_row as point_row}
use Rattle.stlslice_c.specs.Calls.{IsLoopsCall, IsLoopsRefused, IsLoopsAnswered}
use Rattle.stlslice_c.specs.contracts.given.loops as callee
use Rattle.stlslice_c.proofs.given.loops.Met.{met as callee_met}
use Rattle.stlslice_c.proofs.places.place_of.Met.{met as place_met}
use Rattle.stlslice_c.specs.contracts.exports.stlslice_loops.{ended, clauses}
use Rattle.stlslice_c.specs.contracts.exports.stlslice_loops.Key.{name as #self}
use Rattle.stlslice_c.proofs.exports.stlslice_loops.Statement.{statement}
use Rattle.stlslice_c.proofs.exports.stlslice_loops.Code as code

pub stlslice_loops_spec : {M : Type 1} → statement M
stlslice_loops_spec 𝓤 𝓛 𝓜 𝓡 wired =
    let c = clauses 𝓛 𝓜.mem 𝓡.returns in let find = finder 𝓛 𝓜 𝓡 (place_met 𝓤 𝓛 𝓜 𝓡 (code.calls-stlslice_c::places::place_of 𝓡.env wired)) in
    export_proved 𝓛 ended c (λ κs. tt) 𝓜 𝓡 #self code.function (code.unfolded 𝓤 𝓛.H 𝓜 𝓡 wired) (λ z are.
    let alloc = z.0.3.0 in let mesh = z.0.3.1.0 in let k = z.0.3.1.1.0 in let points = z.0.3.1.1.1.0 in let points_room = z.0.3.1.1.1.1.0 in
    let points_count = z.0.3.1.1.1.1.1.0 in let ends = z.0.3.1.1.1.1.1.1.0 in let ends_room = z.0.3.1.1.1.1.1.1.1.0 in
    let loops_count = z.0.3.1.1.1.1.1.1.1.1.0 in
    let loan = z.1.0 in let mesh-was = z.1.1 in let points-was = z.1.2 in let points_count-was = z.1.3 in let ends-was = z.1.4 in
    let loops_count-was = z.1.5 in
    let qs : List (Passed 𝓛) = to_read loan mesh mesh-was ∷ number w32 k are.1.1.0.1 ∷ filled point_row points points_room points-was
    ∷ number w64 points_room are.1.1.1.1.0.1 ∷ filled usize points_count 1 points_count-was ∷ filled usize ends ends_room ends-was
    ∷ number w64 ends_room are.1.1.1.1.1.1.1.0.1 ∷ filled usize loops_count 1 loops_count-was ∷ [] in
    begins_with ! alloc z.0.4.0 qs (Testable mesh × Testable points × Testable points_count × Testable ends × Testable loops_count) (id⊢ 𝓤 _)
    (λ h is-h fits tests counts.
    let ps : List (Passed 𝓛) = allocator alloc h fits ∷ qs in
    enters ! _ _ _ (words ps) _ (told ps z.0.4 are (is-h, tt)) $ alloc_all ! (λ l. pass_all ! refl (typed ps (locals_of code.function l) refl) $
    sets ! (of_opd ! (get ! refl)) refl (ptr_good mesh) $ finds_one ! find handle_row mesh mesh-was counts.0 tests.0 tt tt refl refl refl (λ mesh-at.
    sets ! (of_opd ! (get ! refl)) refl (ptr_good points) $
    finds_many ! find point_row points points_room points-was counts.1.0 tests.1 are.1.1.1.1.0.1 tt tt refl refl refl refl (λ points-at.
    sets ! (of_opd ! (get ! refl)) refl (ptr_good points_count) $
    finds_one ! find usize points_count points_count-was counts.1.1.0 tests.2 tt tt refl refl refl (λ points_count-at.
    sets ! (of_opd ! (get ! refl)) refl (ptr_good ends) $
    finds_many ! find usize ends ends_room ends-was counts.1.1.1.0 tests.3 are.1.1.1.1.1.1.1.0.1 tt tt refl refl refl refl (λ ends-at.
    sets ! (of_opd ! (get ! refl)) refl (ptr_good loops_count) $
    finds_one ! find usize loops_count loops_count-was counts.1.1.1.1.0 tests.4 tt tt refl refl refl (λ loops_count-at.
    slices ! mesh-at refl tt tt refl $ slices ! points-at refl tt tt refl $ slices ! points_count-at refl tt tt refl $
    slices ! ends-at refl tt tt refl $ slices ! loops_count-at refl tt tt refl $
    let at : Places ps = (mesh-at, (points-at, (points_count-at, (ends-at, (loops_count-at, tt))))) in
    answers_with ! find.framed (triple_of 𝓛 callee.signature (callee.spec 𝓛 𝓜.mem 𝓡.returns))
    (callee_met 𝓤 𝓛 𝓜 𝓡 (code.calls-stlslice_c::given::loops 𝓡.env wired)) ps at
    (λ os. ((lifetimes_of ps os, shares_of ps, tt, values_of ps at os, machine_values ps at os), tt)) (λ os. id⊢ 𝓤 _)
    (λ r ws. IsLoopsRefused mesh-was k points-was ws.1.1.1.0 points_room points_count-was ws.1.1.1.1.1.0
    ends-was ws.1.1.1.1.1.1.0 ends_room loops_count-was ws.1.1.1.1.1.1.1.1.0 r)
    (λ r ws. IsLoopsAnswered mesh-was k points-was ws.1.1.1.0 points_room points_count-was ws.1.1.1.1.1.0
    ends-was ws.1.1.1.1.1.1.0 ends_room loops_count-was ws.1.1.1.1.1.1.1.1.0 r)
    (λ os w. id⊢ 𝓤 _) (λ os. (refl, tt, refl)) refl (λ A B w. refl) (λ w r ws is. free_all ! refl $ keep ! (0 ∷ 1 ∷ []) $
    let Left : List point_row.Denot × List ℕ × List ℕ × List ℕ → SProp 𝓤 = λ left.
    over 𝓛 (lefts ps (tt, (tt, (tt, (left.0, (tt, (left.1, (left.2, (tt, (left.3, tt))))))))))
    (fact 𝓤 (IsLoopsCall mesh-was k points-was left.0 points_room points_count-was left.1 ends-was left.2 ends_room loops_count-was left.3 r)) in
    by ! (walk_ends 𝓛 ended c z w r (lefts ps ws) is (id⊢ 𝓤 _) (ex_i 𝓤 Left (ws.1.1.1.0, ws.1.1.1.1.1.0, ws.1.1.1.1.1.1.0, ws.1.1.1.1.1.1.1.1.0))))))))))))
