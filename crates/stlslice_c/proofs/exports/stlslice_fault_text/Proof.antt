use Rattle.stlslice_c.proofs.lemmas.Walk.{ℕ, List, [], ◌∷◌, refl, ap, w32, w64, Val, vunit, SProp, id⊢, ex_i, raw, ◌$◌, !, by, keep, feq_l, feq_i}
use Rattle.stlslice_c.proofs.lemmas.Walk.{of_opd, unit_lit, returns, alloc_all, pass_all, free_all, look_at, sets, lands_as, fact, u8, unit, Testable}
use Rattle.stlslice_c.proofs.lemmas.Walk.{heard, only, triple_of, Passed, number, filled, Places, passes_on, lifetimes_of, shares_of, values_of}
use Rattle.stlslice_c.proofs.lemmas.Walk.{machine_values, over, lefts, finder, finds_many, slices_bytes, export_proved, begins, enters, words, typed}
use Rattle.stlslice_c.proofs.lemmas.Walk.{told, locals_of, walk_ends}
use Rattle.stlslice_c.specs.Calls.{IsTextCall}
use Rattle.stlslice_c.specs.contracts.given.fault_text as callee
use Rattle.stlslice_c.proofs.given.fault_text.Met.{met as callee_met}
use Rattle.stlslice_c.proofs.places.place_of.Met.{met as place_met}
use Rattle.stlslice_c.specs.contracts.exports.stlslice_fault_text.{ended, clauses}
use Rattle.stlslice_c.specs.contracts.exports.stlslice_fault_text.Key.{name as #self}
use Rattle.stlslice_c.proofs.exports.stlslice_fault_text.Statement.{statement}
use Rattle.stlslice_c.proofs.exports.stlslice_fault_text.Code as code

pub stlslice_fault_text_spec : {M : Type 1} → statement M
stlslice_fault_text_spec 𝓤 𝓛 𝓜 𝓡 wired =
    let c = clauses 𝓛 𝓜.mem 𝓡.returns in let find = finder 𝓛 𝓜 𝓡 (place_met 𝓤 𝓛 𝓜 𝓡 (code.calls-stlslice_c::places::place_of 𝓡.env wired)) in
    export_proved 𝓛 ended c (λ κs. tt) 𝓜 𝓡 #self code.function (code.unfolded 𝓤 𝓛.H 𝓜 𝓡 wired) (λ z are.
    let status = z.0.3.0 in let line = z.0.3.1.0 in let line_room = z.0.3.1.1.0 in
    let line-was = z.1 in
    let ps : List (Passed 𝓛) = number w32 status are.0.1 ∷ filled u8 line line_room line-was ∷ number w64 line_room are.1.1.0.1 ∷ [] in
    begins ! ps (Testable line) (id⊢ 𝓤 _) (λ tests counts.
    enters ! _ _ _ (words ps) _ (told ps z.0.4 are tt) $ alloc_all ! (λ l. pass_all ! refl (typed ps (locals_of code.function l) refl) $
    finds_many ! find u8 line line_room line-was counts.0 tests are.1.1.0.1 tt tt refl refl refl refl (λ line-at.
    slices_bytes ! line-at refl tt refl $
    let at : Places ps = (line-at, tt) in
    let Left : List ℕ → SProp 𝓤 = λ left. over 𝓛 (lefts ps (tt, (left, (tt, tt)))) (fact 𝓤 (IsTextCall status line-was left line_room)) in
    passes_on ! find.framed (triple_of 𝓛 callee.signature (callee.spec 𝓛 𝓜.mem 𝓡.returns))
    (callee_met 𝓤 𝓛 𝓜 𝓡 (code.calls-stlslice_c::given::fault_text 𝓡.env wired)) ps at
    (λ os. ((lifetimes_of ps os, shares_of ps, tt, values_of ps at os, machine_values ps at os), tt)) (λ os. id⊢ 𝓤 _) unit
    (λ r ws. raw (fact 𝓤 (IsTextCall status line-was ws.1.0 line_room)))
    (λ os w. id⊢ 𝓤 _) (λ os. (refl, tt, refl)) (λ w r ws.
    heard ! _ (λ is. feq_l ! (λ is-unit. lands_as ! (ap only is-unit) refl (tt, tt) $
    sets ! (of_opd ! (unit_lit !)) refl (tt, tt) $ returns ! (look_at ! 0 refl) $ free_all ! refl $ keep ! (0 ∷ []) $
    feq_i ! (List Val) (vunit ∷ []) (vunit ∷ []) refl $ by ! (walk_ends 𝓛 ended c z vunit tt (lefts ps ws) is (id⊢ 𝓤 _) (ex_i 𝓤 Left ws.1.0)))))))))
