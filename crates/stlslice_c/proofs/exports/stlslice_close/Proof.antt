use Rattle.stlslice_c.proofs.lemmas.Walk.{List, [], ◌∷◌, refl, ap, Val, vunit, SProp, id⊢, ex_i, raw, ◌⊛◌, ◌$◌, !, by, keep, split, feq_l, feq_i}
use Rattle.stlslice_c.proofs.lemmas.Walk.{of_opd, unit_lit, returns, alloc_all, pass_all, free_all, look_at, get, sets, lands_as, fact, unit}
use Rattle.stlslice_c.proofs.lemmas.Walk.{Testable, heard, only, triple_of, ptr_good, Passed, allocator, filled, Places, passes_on, lifetimes_of}
use Rattle.stlslice_c.proofs.lemmas.Walk.{shares_of, values_of, machine_values, over, lefts, finder, finds_one, slices, export_proved, begins_with}
use Rattle.stlslice_c.proofs.lemmas.Walk.{enters, words, typed, told, locals_of, walk_ends}
use Rattle.stlslice_c.specs.contracts.handle.Handle.{the_row as handle_row}
use Rattle.stlslice_c.specs.Calls.{IsCloseCall, IsCloseRefused, IsCloseAnswered}
use Rattle.stlslice_c.specs.contracts.given.close as callee
use Rattle.stlslice_c.proofs.given.close.Met.{met as callee_met}
use Rattle.stlslice_c.proofs.places.place_of.Met.{met as place_met}
use Rattle.stlslice_c.specs.contracts.exports.stlslice_close.{ended, clauses}
use Rattle.stlslice_c.specs.contracts.exports.stlslice_close.Key.{name as #self}
use Rattle.stlslice_c.proofs.exports.stlslice_close.Statement.{statement}
use Rattle.stlslice_c.proofs.exports.stlslice_close.Code as code

pub stlslice_close_spec : {M : Type 1} → statement M
stlslice_close_spec 𝓤 𝓛 𝓜 𝓡 wired =
    let c = clauses 𝓛 𝓜.mem 𝓡.returns in let find = finder 𝓛 𝓜 𝓡 (place_met 𝓤 𝓛 𝓜 𝓡 (code.calls-stlslice_c::places::place_of 𝓡.env wired)) in
    export_proved 𝓛 ended c (λ κs. tt) 𝓜 𝓡 #self code.function (code.unfolded 𝓤 𝓛.H 𝓜 𝓡 wired) (λ z are.
    let alloc = z.0.3.0 in let mesh = z.0.3.1.0 in
    let mesh-was = z.1 in
    let qs : List (Passed 𝓛) = filled handle_row mesh 1 mesh-was ∷ [] in
    begins_with ! alloc z.0.4.0 qs (Testable mesh) (id⊢ 𝓤 _) (λ h is-h fits tests counts.
    let ps : List (Passed 𝓛) = allocator alloc h fits ∷ qs in
    enters ! _ _ _ (words ps) _ (told ps z.0.4 are (is-h, tt)) $ alloc_all ! (λ l. pass_all ! refl (typed ps (locals_of code.function l) refl) $
    sets ! (of_opd ! (get ! refl)) refl (ptr_good mesh) $ finds_one ! find handle_row mesh mesh-was counts.0 tests tt tt refl refl refl (λ mesh-at.
    slices ! mesh-at refl tt tt refl $
    let at : Places ps = (mesh-at, tt) in
    let Left : List handle_row.Denot → SProp 𝓤 = λ left. over 𝓛 (lefts ps (tt, (left, tt))) (fact 𝓤 (IsCloseCall mesh-was left)) in
    passes_on ! find.framed (triple_of 𝓛 callee.signature (callee.spec 𝓛 𝓜.mem 𝓡.returns))
    (callee_met 𝓤 𝓛 𝓜 𝓡 (code.calls-stlslice_c::given::close 𝓡.env wired)) ps at
    (λ os. ((lifetimes_of ps os, shares_of ps, tt, values_of ps at os, machine_values ps at os), tt)) (λ os. id⊢ 𝓤 _) unit
    (λ r ws. raw (fact 𝓤 (IsCloseRefused mesh-was ws.1.0)) ⊛ raw (fact 𝓤 (IsCloseAnswered mesh-was ws.1.0)))
    (λ os w. id⊢ 𝓤 _) (λ os. (refl, tt, refl)) (λ w r ws.
    split ! $ heard ! _ (λ refused. heard ! _ (λ answered. feq_l ! (λ is-unit. lands_as ! (ap only is-unit) refl (tt, tt) $
    sets ! (of_opd ! (unit_lit !)) refl (tt, tt) $ returns ! (look_at ! 0 refl) $ free_all ! refl $ keep ! (0 ∷ []) $
    feq_i ! (List Val) (vunit ∷ []) (vunit ∷ []) refl $ by ! (walk_ends 𝓛 ended c z vunit tt (lefts ps ws) (refused, answered) (id⊢ 𝓤 _)
    (ex_i 𝓤 Left ws.1.0))))))))))
