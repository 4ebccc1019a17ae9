use Rattle.std.proofs.Common.{◌≡◌, ◌<◌, ◌+◌, ◌*◌, ◌∙◌, ◌++◌, List, ℕ, ap, arith, drop, length, min, subst, sym, take}
use Rattle.std.specs.Prelude.{All, flat_map}
use Rattle.mesh_weld.proofs.lemmas.Placing.{written}
use Rattle.stlslice.specs.Pages.{Holds, images_between}
use Rattle.stlslice.proofs.lemmas.Pages.{pages-drawn}
use Rattle.stlslice.proofs.write.pages.draw_set.Goals as goal

-- what a list of pages holds after a slice of all of it was drawn
drawn_in : {P : Type 0} (bytes : P → List ℕ) (f : ℕ → List ℕ) (first per layers count n m : ℕ) (held drawn : List P) → n ≡ length drawn
    → flat_map bytes drawn ≡ images_between f first (min (first + m * per) layers) → m ≡ count
    → flat_map bytes (take n (drawn ++ drop (length drawn) held)) ≡ images_between f first (min (first + count * per) layers)
drawn_in bytes f first per layers count n m held drawn long is same =
    ap (flat_map bytes) (written n held drawn long) ∙ is ∙ ap (λ (k : ℕ). images_between f first (min (first + k * per) layers)) same

pub returns-clause-images : goal.returns-clause-images
returns-clause-images g c =
    let it = g.D.Drawing in
    let d = c.args.drawing.now in
    let f = it.image d in
    let per = it.per d in
    let n = it.layers d in
    let new = c.for_each_mut.new.s in
    let slice = c.as_mut_slice.ensures in
    let same : length new ≡ length c.as_mut_slice.result.now = c.for_each_mut.auto.s in
    drawn_in it.bytes f c.args.first per n _ c.args.set.now.len _ c.args.set.now.items new (sym (same ∙ slice.len))
    (pages-drawn it.bytes f n per c.args.first new c.requires.low
    (λ k page h. let each = (c.for_each_mut.ensures k page (omega (arith, h, same))).1 in grind arith)) (same ∙ slice.len)

pub returns-clause-room : goal.returns-clause-room
returns-clause-room g c =
    let it = g.D.Drawing in
    let d = c.args.drawing.now in
    let fits = Holds it.capacity (it.per d) (it.size d) in
    let new = c.for_each_mut.new.s in
    let slice = c.as_mut_slice.ensures in
    let same : length new ≡ length c.as_mut_slice.result.now = c.for_each_mut.auto.s in
    let roomy : All fits c.as_mut_slice.result.now = subst (All fits) (sym slice.value) c.requires.room in
    let drawn : All fits new =
    λ k page h.
    (let low : k < length c.as_mut_slice.result.now = omega (arith, h, same) in
    let each = (c.for_each_mut.ensures k page low).1 in
    let enough = roomy k page low in
    grind arith) in
    subst (All fits) (sym (written c.args.set.now.len c.args.set.now.items new (sym (same ∙ slice.len)))) drawn
