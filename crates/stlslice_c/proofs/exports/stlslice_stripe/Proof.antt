use Rattle.stlslice_c.proofs.lemmas.Walk.{ℕ, List, [], ◌∷◌, refl, w64, SProp, id⊢, ex_i, ◌$◌, !, by, keep, of_opd, alloc_all, pass_all}
use Rattle.stlslice_c.proofs.lemmas.Walk.{free_all, get, sets, fact, u8, usize, Testable, triple_of, ptr_good, Passed, number, to_read, filled}
use Rattle.stlslice_c.proofs.lemmas.Walk.{Places, answers_with, lifetimes_of, shares_of, values_of, machine_values, over, lefts, finder, finds_one}
use Rattle.stlslice_c.proofs.lemmas.Walk.{finds_many, slices, slices_bytes, export_proved, begins, enters, words, typed, told, locals_of, walk_ends}
use Rattle.stlslice_c.specs.contracts.handle.Handle.{the_row as handle_row}
use Rattle.stlslice_c.specs.Calls.{IsStripeCall, IsStripeRefused, IsStripeAnswered}
use Rattle.stlslice_c.specs.contracts.given.stripe as callee
use Rattle.stlslice_c.proofs.given.stripe.Met.{met as callee_met}
use Rattle.stlslice_c.proofs.places.place_of.Met.{met as place_met}
use Rattle.stlslice_c.specs.contracts.exports.stlslice_stripe.{ended, clauses}
use Rattle.stlslice_c.specs.contracts.exports.stlslice_stripe.Key.{name as #self}
use Rattle.stlslice_c.proofs.exports.stlslice_stripe.Statement.{statement}
use Rattle.stlslice_c.proofs.exports.stlslice_stripe.Code as code

pub stlslice_stripe_spec : {M : Type 1} → statement M
stlslice_stripe_spec 𝓤 𝓛 𝓜 𝓡 wired =
    let c = clauses 𝓛 𝓜.mem 𝓡.returns in let find = finder 𝓛 𝓜 𝓡 (place_met 𝓤 𝓛 𝓜 𝓡 (code.calls-stlslice_c::places::place_of 𝓡.env wired)) in
    export_proved 𝓛 ended c (λ κs. tt) 𝓜 𝓡 #self code.function (code.unfolded 𝓤 𝓛.H 𝓜 𝓡 wired) (λ z are.
    let mesh = z.0.3.0 in let s = z.0.3.1.0 in let images = z.0.3.1.1.0 in let images_room = z.0.3.1.1.1.0 in let images_size = z.0.3.1.1.1.1.0 in
    let loan = z.1.0 in let mesh-was = z.1.1 in let images-was = z.1.2 in let images_size-was = z.1.3 in
    let ps : List (Passed 𝓛) = to_read loan mesh mesh-was ∷ number w64 s are.1.0.1 ∷ filled u8 images images_room images-was
    ∷ number w64 images_room are.1.1.1.0.1 ∷ filled usize images_size 1 images_size-was ∷ [] in
    begins ! ps (Testable mesh × Testable images × Testable images_size) (id⊢ 𝓤 _) (λ tests counts.
    enters ! _ _ _ (words ps) _ (told ps z.0.4 are tt) $ alloc_all ! (λ l. pass_all ! refl (typed ps (locals_of code.function l) refl) $
    sets ! (of_opd ! (get ! refl)) refl (ptr_good mesh) $ finds_one ! find handle_row mesh mesh-was counts.0 tests.0 tt tt refl refl refl (λ mesh-at.
    finds_many ! find u8 images images_room images-was counts.1.0 tests.1 are.1.1.1.0.1 tt tt refl refl refl refl (λ images-at.
    sets ! (of_opd ! (get ! refl)) refl (ptr_good images_size) $
    finds_one ! find usize images_size images_size-was counts.1.1.0 tests.2 tt tt refl refl refl (λ images_size-at.
    slices ! mesh-at refl tt tt refl $ slices_bytes ! images-at refl tt refl $ slices ! images_size-at refl tt tt refl $
    let at : Places ps = (mesh-at, (images-at, (images_size-at, tt))) in
    answers_with ! find.framed (triple_of 𝓛 callee.signature (callee.spec 𝓛 𝓜.mem 𝓡.returns))
    (callee_met 𝓤 𝓛 𝓜 𝓡 (code.calls-stlslice_c::given::stripe 𝓡.env wired)) ps at
    (λ os. ((lifetimes_of ps os, shares_of ps, tt, values_of ps at os, machine_values ps at os), tt)) (λ os. id⊢ 𝓤 _)
    (λ r ws. IsStripeRefused mesh-was s images-was ws.1.1.0 images_room images_size-was ws.1.1.1.1.0 r)
    (λ r ws. IsStripeAnswered mesh-was s images-was ws.1.1.0 images_room images_size-was ws.1.1.1.1.0 r)
    (λ os w. id⊢ 𝓤 _) (λ os. (refl, tt, refl)) refl (λ A B w. refl) (λ w r ws is. free_all ! refl $ keep ! (0 ∷ 1 ∷ []) $
    let Left : List ℕ × List ℕ → SProp 𝓤 = λ left.
    over 𝓛 (lefts ps (tt, (tt, (left.0, (tt, (left.1, tt)))))) (fact 𝓤 (IsStripeCall mesh-was s images-was left.0 images_room images_size-was left.1 r)) in
    by ! (walk_ends 𝓛 ended c z w r (lefts ps ws) is (id⊢ 𝓤 _) (ex_i 𝓤 Left (ws.1.1.0, ws.1.1.1.1.0))))))))))
