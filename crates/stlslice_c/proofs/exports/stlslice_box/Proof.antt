use Rattle.stlslice_c.proofs.lemmas.Walk.{ℕ, List, [], ◌∷◌, refl, w8, w32, w64, SProp, id⊢, ex_i, ◌$◌, !, by, keep, of_opd, alloc_all}
use Rattle.stlslice_c.proofs.lemmas.Walk.{pass_all, free_all, get, sets, fact, u8, Testable, triple_of, ptr_good, Passed, allocator, number, shared}
use Rattle.stlslice_c.proofs.lemmas.Walk.{filled, Places, answers_with, lifetimes_of, shares_of, values_of, machine_values, over, lefts, finder}
use Rattle.stlslice_c.proofs.lemmas.Walk.{finds_one, finds_many, slices, slices_bytes, export_proved, begins_with, enters, words, typed, told}
use Rattle.stlslice_c.proofs.lemmas.Walk.{locals_of, walk_ends}
use Rattle.stlslice_c.specs.contracts.shape.Corners.{the_row as corners_row}
use denote.Copied.{uint_Copied}
use Rattle.stlslice_c.specs.Calls.{IsBoxCall, IsBoxRefused, IsBoxAnswered}
use Rattle.stlslice_c.specs.contracts.given.box_of as callee
use Rattle.stlslice_c.proofs.given.box_of.Met.{met as callee_met}
use Rattle.stlslice_c.proofs.places.place_of.Met.{met as place_met}
use Rattle.stlslice_c.specs.contracts.exports.stlslice_box.{ended, clauses}
use Rattle.stlslice_c.specs.contracts.exports.stlslice_box.Key.{name as #self}
use Rattle.stlslice_c.proofs.exports.stlslice_box.Statement.{statement}
use Rattle.stlslice_c.proofs.exports.stlslice_box.Code as code

pub stlslice_box_spec : {M : Type 1} → statement M
stlslice_box_spec 𝓤 𝓛 𝓜 𝓡 wired =
    let c = clauses 𝓛 𝓜.mem 𝓡.returns in let find = finder 𝓛 𝓜 𝓡 (place_met 𝓤 𝓛 𝓜 𝓡 (code.calls-stlslice_c::places::place_of 𝓡.env wired)) in
    export_proved 𝓛 ended c (λ κs. tt) 𝓜 𝓡 #self code.function (code.unfolded 𝓤 𝓛.H 𝓜 𝓡 wired) (λ z are.
    let alloc = z.0.3.0 in let text = z.0.3.1.0 in let text_size = z.0.3.1.1.0 in let unit = z.0.3.1.1.1.0 in let corners = z.0.3.1.1.1.1.0 in
    let line = z.0.3.1.1.1.1.1.0 in let line_room = z.0.3.1.1.1.1.1.1.0 in
    let text-share = z.1.0 in let text-was = z.1.1 in let corners-was = z.1.2 in let line-was = z.1.3 in
    let qs : List (Passed 𝓛) = shared u8 (uint_Copied 𝓛 w8) text-share text text_size text-was ∷ number w64 text_size are.1.1.0.1
    ∷ number w32 unit are.1.1.1.0.1 ∷ filled corners_row corners 1 corners-was ∷ filled u8 line line_room line-was
    ∷ number w64 line_room are.1.1.1.1.1.1.0.1 ∷ [] in
    begins_with ! alloc z.0.4.0 qs (Testable text × Testable corners × Testable line) (id⊢ 𝓤 _) (λ h is-h fits tests counts.
    let ps : List (Passed 𝓛) = allocator alloc h fits ∷ qs in
    enters ! _ _ _ (words ps) _ (told ps z.0.4 are (is-h, tt)) $ alloc_all ! (λ l. pass_all ! refl (typed ps (locals_of code.function l) refl) $
    sets ! (of_opd ! (get ! refl)) refl (ptr_good text) $
    finds_many ! find u8 text text_size text-was counts.0 tests.0 are.1.1.0.1 tt tt refl refl refl refl (λ text-at.
    sets ! (of_opd ! (get ! refl)) refl (ptr_good corners) $
    finds_one ! find corners_row corners corners-was counts.1.0 tests.1 tt tt refl refl refl (λ corners-at.
    finds_many ! find u8 line line_room line-was counts.1.1.0 tests.2 are.1.1.1.1.1.1.0.1 tt tt refl refl refl refl (λ line-at.
    slices ! text-at refl tt tt refl $ slices ! corners-at refl tt tt refl $ slices_bytes ! line-at refl tt refl $
    let at : Places ps = (text-at, (corners-at, (line-at, tt))) in
    answers_with ! find.framed (triple_of 𝓛 callee.signature (callee.spec 𝓛 𝓜.mem 𝓡.returns))
    (callee_met 𝓤 𝓛 𝓜 𝓡 (code.calls-stlslice_c::given::box_of 𝓡.env wired)) ps at
    (λ os. ((lifetimes_of ps os, shares_of ps, tt, values_of ps at os, machine_values ps at os), tt)) (λ os. id⊢ 𝓤 _)
    (λ r ws. IsBoxRefused text-was text_size unit corners-was ws.1.1.1.1.0 line-was ws.1.1.1.1.1.0 line_room r)
    (λ r ws. IsBoxAnswered text-was text_size unit corners-was ws.1.1.1.1.0 line-was ws.1.1.1.1.1.0 line_room r)
    (λ os w. id⊢ 𝓤 _) (λ os. (refl, tt, refl)) refl (λ A B w. refl) (λ w r ws is. free_all ! refl $ keep ! (0 ∷ 1 ∷ []) $
    let Left : List corners_row.Denot × List ℕ → SProp 𝓤 = λ left.
    over 𝓛 (lefts ps (tt, (tt, (tt, (tt, (left.0, (left.1, (tt, tt)))))))) (fact 𝓤 (IsBoxCall text-was text_size unit corners-was left.0
    line-was left.1 line_room r)) in
    by ! (walk_ends 𝓛 ended c z w r (lefts ps ws) is (id⊢ 𝓤 _) (ex_i 𝓤 Left (ws.1.1.1.1.0, ws.1.1.1.1.1.0))))))))))
