use Rattle.stlslice_c.proofs.lemmas.Walk.{ℕ, List, [], ◌∷◌, refl, w32, w64, SProp, id⊢, ex_i, ◌$◌, !, by, keep, of_opd, alloc_all, pass_all}
use Rattle.stlslice_c.proofs.lemmas.Walk.{free_all, get, sets, fact, u8, usize, Testable, triple_of, ptr_good, Passed, number, to_read, filled}
use Rattle.stlslice_c.proofs.lemmas.Walk.{Places, answers_with, lifetimes_of, shares_of, values_of, machine_values, over, lefts, finder, finds_one}
use Rattle.stlslice_c.proofs.lemmas.Walk.{finds_many, slices, slices_bytes, export_proved, begins, enters, words, typed, told, locals_of, walk_ends}
use Rattle.stlslice_c.specs.contracts.handle.Handle.{the_row as handle_row}
use Rattle.stlslice_c.specs.Calls.{IsMaskCall, IsMaskRefused, IsMaskAnswered}
use Rattle.stlslice_c.specs.contracts.given.mask as callee
use Rattle.stlslice_c.proofs.given.mask.Met.{met as callee_met}
use Rattle.stlslice_c.proofs.places.place_of.Met.{met as place_met}
use Rattle.stlslice_c.specs.contracts.exports.stlslice_mask.{ended, clauses}
use Rattle.stlslice_c.specs.contracts.exports.stlslice_mask.Key.{name as #self}
use Rattle.stlslice_c.proofs.exports.stlslice_mask.Statement.{statement}
use Rattle.stlslice_c.proofs.exports.stlslice_mask.Code as code

pub stlslice_mask_spec : {M : Type 1} → statement M
stlslice_mask_spec 𝓤 𝓛 𝓜 𝓡 wired =
    let c = clauses 𝓛 𝓜.mem 𝓡.returns in let find = finder 𝓛 𝓜 𝓡 (place_met 𝓤 𝓛 𝓜 𝓡 (code.calls-stlslice_c::places::place_of 𝓡.env wired)) in
    export_proved 𝓛 ended c (λ κs. tt) 𝓜 𝓡 #self code.function (code.unfolded 𝓤 𝓛.H 𝓜 𝓡 wired) (λ z are.
    let mesh = z.0.3.0 in let k = z.0.3.1.0 in let image = z.0.3.1.1.0 in let image_room = z.0.3.1.1.1.0 in let image_size = z.0.3.1.1.1.1.0 in
    let loan = z.1.0 in let mesh-was = z.1.1 in let image-was = z.1.2 in let image_size-was = z.1.3 in
    let ps : List (Passed 𝓛) = to_read loan mesh mesh-was ∷ number w32 k are.1.0.1 ∷ filled u8 image image_room image-was
    ∷ number w64 image_room are.1.1.1.0.1 ∷ filled usize image_size 1 image_size-was ∷ [] in
    begins ! ps (Testable mesh × Testable image × Testable image_size) (id⊢ 𝓤 _) (λ tests counts.
    enters ! _ _ _ (words ps) _ (told ps z.0.4 are tt) $ alloc_all ! (λ l. pass_all ! refl (typed ps (locals_of code.function l) refl) $
    sets ! (of_opd ! (get ! refl)) refl (ptr_good mesh) $ finds_one ! find handle_row mesh mesh-was counts.0 tests.0 tt tt refl refl refl (λ mesh-at.
    finds_many ! find u8 image image_room image-was counts.1.0 tests.1 are.1.1.1.0.1 tt tt refl refl refl refl (λ image-at.
    sets ! (of_opd ! (get ! refl)) refl (ptr_good image_size) $
    finds_one ! find usize image_size image_size-was counts.1.1.0 tests.2 tt tt refl refl refl (λ image_size-at.
    slices ! mesh-at refl tt tt refl $ slices_bytes ! image-at refl tt refl $ slices ! image_size-at refl tt tt refl $
    let at : Places ps = (mesh-at, (image-at, (image_size-at, tt))) in
    answers_with ! find.framed (triple_of 𝓛 callee.signature (callee.spec 𝓛 𝓜.mem 𝓡.returns))
    (callee_met 𝓤 𝓛 𝓜 𝓡 (code.calls-stlslice_c::given::mask 𝓡.env wired)) ps at
    (λ os. ((lifetimes_of ps os, shares_of ps, tt, values_of ps at os, machine_values ps at os), tt)) (λ os. id⊢ 𝓤 _)
    (λ r ws. IsMaskRefused mesh-was k image-was ws.1.1.0 image_room image_size-was ws.1.1.1.1.0 r)
    (λ r ws. IsMaskAnswered mesh-was k image-was ws.1.1.0 image_room image_size-was ws.1.1.1.1.0 r)
    (λ os w. id⊢ 𝓤 _) (λ os. (refl, tt, refl)) refl (λ A B w. refl) (λ w r ws is. free_all ! refl $ keep ! (0 ∷ 1 ∷ []) $
    let Left : List ℕ × List ℕ → SProp 𝓤 = λ left.
    over 𝓛 (lefts ps (tt, (tt, (left.0, (tt, (left.1, tt)))))) (fact 𝓤 (IsMaskCall mesh-was k image-was left.0 image_room image_size-was left.1 r)) in
    by ! (walk_ends 𝓛 ended c z w r (lefts ps ws) is (id⊢ 𝓤 _) (ex_i 𝓤 Left (ws.1.1.0, ws.1.1.1.1.0))))))))))
