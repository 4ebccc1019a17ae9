use Rattle.stlslice_c.proofs.lemmas.Walk.{ℕ, List, [], ◌∷◌, refl, w32, SProp, id⊢, ex_i, ◌$◌, !, by, keep, of_opd, alloc_all, pass_all}
use Rattle.stlslice_c.proofs.lemmas.Walk.{free_all, get, sets, fact, u64, Testable, triple_of, ptr_good, Passed, number, to_read, filled, Places}
use Rattle.stlslice_c.proofs.lemmas.Walk.{answers_with, lifetimes_of, shares_of, values_of, machine_values, over, lefts, finder, finds_one, slices}
use Rattle.stlslice_c.proofs.lemmas.Walk.{export_proved, begins, enters, words, typed, told, locals_of, walk_ends}
use Rattle.stlslice_c.specs.contracts.handle.Handle.{the_row as handle_row}
use Rattle.stlslice_c.specs.Calls.{IsAreaCall, IsAreaRefused, IsAreaAnswered}
use Rattle.stlslice_c.specs.contracts.given.area as callee
use Rattle.stlslice_c.proofs.given.area.Met.{met as callee_met}
use Rattle.stlslice_c.proofs.places.place_of.Met.{met as place_met}
use Rattle.stlslice_c.specs.contracts.exports.stlslice_area.{ended, clauses}
use Rattle.stlslice_c.specs.contracts.exports.stlslice_area.Key.{name as #self}
use Rattle.stlslice_c.proofs.exports.stlslice_area.Statement.{statement}
use Rattle.stlslice_c.proofs.exports.stlslice_area.Code as code

pub stlslice_area_spec : {M : Type 1} → statement M
stlslice_area_spec 𝓤 𝓛 𝓜 𝓡 wired =
    let c = clauses 𝓛 𝓜.mem 𝓡.returns in let find = finder 𝓛 𝓜 𝓡 (place_met 𝓤 𝓛 𝓜 𝓡 (code.calls-stlslice_c::places::place_of 𝓡.env wired)) in
    export_proved 𝓛 ended c (λ κs. tt) 𝓜 𝓡 #self code.function (code.unfolded 𝓤 𝓛.H 𝓜 𝓡 wired) (λ z are.
    let mesh = z.0.3.0 in let k = z.0.3.1.0 in let area = z.0.3.1.1.0 in
    let loan = z.1.0 in let mesh-was = z.1.1 in let area-was = z.1.2 in
    let ps : List (Passed 𝓛) = to_read loan mesh mesh-was ∷ number w32 k are.1.0.1 ∷ filled u64 area 1 area-was ∷ [] in
    begins ! ps (Testable mesh × Testable area) (id⊢ 𝓤 _) (λ tests counts.
    enters ! _ _ _ (words ps) _ (told ps z.0.4 are tt) $ alloc_all ! (λ l. pass_all ! refl (typed ps (locals_of code.function l) refl) $
    sets ! (of_opd ! (get ! refl)) refl (ptr_good mesh) $ finds_one ! find handle_row mesh mesh-was counts.0 tests.0 tt tt refl refl refl (λ mesh-at.
    sets ! (of_opd ! (get ! refl)) refl (ptr_good area) $ finds_one ! find u64 area area-was counts.1.0 tests.1 tt tt refl refl refl (λ area-at.
    slices ! mesh-at refl tt tt refl $ slices ! area-at refl tt tt refl $
    let at : Places ps = (mesh-at, (area-at, tt)) in
    answers_with ! find.framed (triple_of 𝓛 callee.signature (callee.spec 𝓛 𝓜.mem 𝓡.returns))
    (callee_met 𝓤 𝓛 𝓜 𝓡 (code.calls-stlslice_c::given::area 𝓡.env wired)) ps at
    (λ os. ((lifetimes_of ps os, shares_of ps, tt, values_of ps at os, machine_values ps at os), tt)) (λ os. id⊢ 𝓤 _)
    (λ r ws. IsAreaRefused mesh-was k area-was ws.1.1.0 r)
    (λ r ws. IsAreaAnswered mesh-was k area-was ws.1.1.0 r)
    (λ os w. id⊢ 𝓤 _) (λ os. (refl, tt, refl)) refl (λ A B w. refl) (λ w r ws is. free_all ! refl $ keep ! (0 ∷ 1 ∷ []) $
    let Left : List ℕ → SProp 𝓤 = λ left.
    over 𝓛 (lefts ps (tt, (tt, (left, tt)))) (fact 𝓤 (IsAreaCall mesh-was k area-was left r)) in
    by ! (walk_ends 𝓛 ended c z w r (lefts ps ws) is (id⊢ 𝓤 _) (ex_i 𝓤 Left ws.1.1.0))))))))
