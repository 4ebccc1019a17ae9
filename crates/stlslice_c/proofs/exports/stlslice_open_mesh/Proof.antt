use Rattle.stlslice_c.proofs.lemmas.Walk.{ℕ, List, [], ◌∷◌, refl, w32, w64, SProp, id⊢, ex_i, ◌$◌, !, by, keep, of_opd, alloc_all, pass_all}
use Rattle.stlslice_c.proofs.lemmas.Walk.{free_all, get, sets, fact, u8, u32, Testable, triple_of, ptr_good, Passed, allocator, number, shared, filled}
use Rattle.stlslice_c.proofs.lemmas.Walk.{Places, answers_with, lifetimes_of, shares_of, values_of, machine_values, over, lefts, finder, finds_one}
use Rattle.stlslice_c.proofs.lemmas.Walk.{finds_many, slices, slices_bytes, export_proved, begins_with, enters, words, typed, told, locals_of}
use Rattle.stlslice_c.proofs.lemmas.Walk.{walk_ends}
use Rattle.stlslice_c.specs.contracts.handle.Handle.{the_row as handle_row}
use Rattle.stlslice_c.specs.contracts.shape.Shape.{the_row as shape_row}
use Rattle.stlslice_c.specs.contracts.options.Options.{the_row as options_row}
use Rattle.stlslice_c.proofs.options.Options.TheLaws.{the_row_copy as options_copy}
use denote.Array.{Array}
use denote.Builtin.{i32}
use denote.Copied.{uint_Copied, sint_Copied, Array-Copied}
use Rattle.stlslice_c.specs.Calls.{IsOpenMeshCall, IsOpenMeshRefused, IsOpenMeshAnswered}
use Rattle.stlslice_c.specs.contracts.given.open_mesh as callee
use Rattle.stlslice_c.proofs.given.open_mesh.Met.{met as callee_met}
use Rattle.stlslice_c.proofs.places.place_of.Met.{met as place_met}
use Rattle.stlslice_c.specs.contracts.exports.stlslice_open_mesh.{ended, clauses}
use Rattle.stlslice_c.specs.contracts.exports.stlslice_open_mesh.Key.{name as #self}
use Rattle.stlslice_c.proofs.exports.stlslice_open_mesh.Statement.{statement}
use Rattle.stlslice_c.proofs.exports.stlslice_open_mesh.Code as code

pub stlslice_open_mesh_spec : {M : Type 1} → statement M
stlslice_open_mesh_spec 𝓤 𝓛 𝓜 𝓡 wired =
    let c = clauses 𝓛 𝓜.mem 𝓡.returns in let find = finder 𝓛 𝓜 𝓡 (place_met 𝓤 𝓛 𝓜 𝓡 (code.calls-stlslice_c::places::place_of 𝓡.env wired)) in
    export_proved 𝓛 ended c (λ κs. tt) 𝓜 𝓡 #self code.function (code.unfolded 𝓤 𝓛.H 𝓜 𝓡 wired) (λ z are.
    let alloc = z.0.3.0 in let points = z.0.3.1.0 in let point_count = z.0.3.1.1.0 in let triangles = z.0.3.1.1.1.0 in
    let triangle_count = z.0.3.1.1.1.1.0 in let options = z.0.3.1.1.1.1.1.0 in let mesh = z.0.3.1.1.1.1.1.1.0 in
    let shape = z.0.3.1.1.1.1.1.1.1.0 in let line = z.0.3.1.1.1.1.1.1.1.1.0 in let line_room = z.0.3.1.1.1.1.1.1.1.1.1.0 in
    let points-share = z.1.0 in let points-was = z.1.1 in let triangles-share = z.1.2 in let triangles-was = z.1.3 in let options-share = z.1.4 in
    let options-was = z.1.5 in let mesh-was = z.1.6 in let shape-was = z.1.7 in let line-was = z.1.8 in
    let qs : List (Passed 𝓛) = shared (Array i32 3) (Array-Copied 𝓛 i32 (sint_Copied 𝓛 w32) tt 3) points-share points point_count points-was
    ∷ number w64 point_count are.1.1.0.1
    ∷ shared (Array u32 3) (Array-Copied 𝓛 u32 (uint_Copied 𝓛 w32) tt 3) triangles-share triangles triangle_count triangles-was
    ∷ number w64 triangle_count are.1.1.1.1.0.1 ∷ shared options_row (options_copy.copied _ 𝓤 𝓛) options-share options 1 options-was
    ∷ filled handle_row mesh 1 mesh-was ∷ filled shape_row shape 1 shape-was ∷ filled u8 line line_room line-was
    ∷ number w64 line_room are.1.1.1.1.1.1.1.1.1.0.1 ∷ [] in
    begins_with ! alloc z.0.4.0 qs (Testable points × Testable triangles × Testable options × Testable mesh × Testable shape × Testable line) (id⊢ 𝓤 _)
    (λ h is-h fits tests counts.
    let ps : List (Passed 𝓛) = allocator alloc h fits ∷ qs in
    enters ! _ _ _ (words ps) _ (told ps z.0.4 are (is-h, tt)) $ alloc_all ! (λ l. pass_all ! refl (typed ps (locals_of code.function l) refl) $
    sets ! (of_opd ! (get ! refl)) refl (ptr_good points) $
    finds_many ! find (Array i32 3) points point_count points-was counts.0 tests.0 are.1.1.0.1 tt tt refl refl refl refl (λ points-at.
    sets ! (of_opd ! (get ! refl)) refl (ptr_good triangles) $
    finds_many ! find (Array u32 3) triangles triangle_count triangles-was counts.1.0 tests.1 are.1.1.1.1.0.1 tt tt refl refl refl refl (λ triangles-at.
    sets ! (of_opd ! (get ! refl)) refl (ptr_good options) $
    finds_one ! find options_row options options-was counts.1.1.0 tests.2 tt tt refl refl refl (λ options-at.
    sets ! (of_opd ! (get ! refl)) refl (ptr_good mesh) $
    finds_one ! find handle_row mesh mesh-was counts.1.1.1.0 tests.3 tt tt refl refl refl (λ mesh-at.
    sets ! (of_opd ! (get ! refl)) refl (ptr_good shape) $
    finds_one ! find shape_row shape shape-was counts.1.1.1.1.0 tests.4 tt tt refl refl refl (λ shape-at.
    finds_many ! find u8 line line_room line-was counts.1.1.1.1.1.0 tests.5 are.1.1.1.1.1.1.1.1.1.0.1 tt tt refl refl refl refl (λ line-at.
    slices ! points-at refl tt tt refl $ slices ! triangles-at refl tt tt refl $ slices ! options-at refl tt tt refl $
    slices ! mesh-at refl tt tt refl $ slices ! shape-at refl tt tt refl $ slices_bytes ! line-at refl tt refl $
    let at : Places ps = (points-at, (triangles-at, (options-at, (mesh-at, (shape-at, (line-at, tt)))))) in
    answers_with ! find.framed (triple_of 𝓛 callee.signature (callee.spec 𝓛 𝓜.mem 𝓡.returns))
    (callee_met 𝓤 𝓛 𝓜 𝓡 (code.calls-stlslice_c::given::open_mesh 𝓡.env wired)) ps at
    (λ os. ((lifetimes_of ps os, shares_of ps, tt, values_of ps at os, machine_values ps at os), tt)) (λ os. id⊢ 𝓤 _)
    (λ r ws. IsOpenMeshRefused points-was point_count triangles-was triangle_count options-was mesh-was ws.1.1.1.1.1.1.0 shape-was ws.1.1.1.1.1.1.1.0
    line-was ws.1.1.1.1.1.1.1.1.0 line_room r)
    (λ r ws. IsOpenMeshAnswered points-was point_count triangles-was triangle_count options-was mesh-was ws.1.1.1.1.1.1.0 shape-was ws.1.1.1.1.1.1.1.0
    line-was ws.1.1.1.1.1.1.1.1.0 line_room r)
    (λ os w. id⊢ 𝓤 _) (λ os. (refl, tt, refl)) refl (λ A B w. refl) (λ w r ws is. free_all ! refl $ keep ! (0 ∷ 1 ∷ []) $
    let Left : List handle_row.Denot × List shape_row.Denot × List ℕ → SProp 𝓤 = λ left.
    over 𝓛 (lefts ps (tt, (tt, (tt, (tt, (tt, (tt, (left.0, (left.1, (left.2, (tt, tt)))))))))))
    (fact 𝓤 (IsOpenMeshCall points-was point_count triangles-was triangle_count options-was mesh-was left.0 shape-was left.1
    line-was left.2 line_room r)) in
    by ! (walk_ends 𝓛 ended c z w r (lefts ps ws) is (id⊢ 𝓤 _) (ex_i 𝓤 Left (ws.1.1.1.1.1.1.0, ws.1.1.1.1.1.1.1.0, ws.1.1.1.1.1.1.1.1.0)))))))))))))
