use Rattle.std.proofs.Common.{◌≡◌, ◌≤◌, ◌+◌, ◌∙◌, ℕ, List, ap, arith, get_or, length, subst, sym, take}
use Rattle.std.specs.Int.{div_ceil}
use Rattle.raster.specs.Image.{row_bytes}
use Rattle.raster.specs.Span.{covers}
use Rattle.raster.proofs.lemmas.DrawnRoom.{drawn-back, fits-after, free_part, length-drawn, length-free, take-drawn, zero-drawn, zero-free}
use Rattle.raster.proofs.lemmas.Written.{length-row}
use Rattle.raster.proofs.pbm.page.Page.push_row.Goals as goal

pub draw_layer_row-start-requires-clause-size : goal.draw_layer_row-start-requires-clause-size
draw_layer_row-start-requires-clause-size g c =
    let room = c.self.inside.room in
    let n = c.self.inside.filled in
    let m = c.div_ceil.result in
    let wide : m ≡ div_ceil c.args.g.now.columns 8 = c.div_ceil.ensures ∙ ap (λ (w : ℕ). div_ceil w 8) c.columns.ensures.value in
    let inside : n + m ≤ length room.items = fits-after room.items c.args.self.now.bytes n m c.args.self.now.room (ap (λ p. p.bytes) c.self.view_is) c.self.invariant.0 (ap (λ p. p.room) c.self.view_is)
    (omega (arith, c.requires.room, wide)) in
    ap (λ (l : List ℕ). length (free_part l n m)) c.deref_mut.ensures.value ∙ length-free room.items n m inside ∙ wide

pub draw_layer_row-start-requires-clause-blank : goal.draw_layer_row-start-requires-clause-blank
draw_layer_row-start-requires-clause-blank g c = λ k.
    ap (λ (l : List ℕ). get_or (free_part l c.self.inside.filled c.div_ceil.result) k 0) c.deref_mut.ensures.value
    ∙ zero-free c.self.inside.room.items c.self.inside.filled c.div_ceil.result c.self.invariant.1 k

pub invariant_of-self : goal.invariant_of-self
invariant_of-self g c =
    let room = c.self.inside.room in
    let n = c.self.inside.filled in
    let m = c.div_ceil.result in
    let wide : m ≡ div_ceil c.args.g.now.columns 8 = c.div_ceil.ensures ∙ ap (λ (w : ℕ). div_ceil w 8) c.columns.ensures.value in
    let inside : n + m ≤ length room.items = fits-after room.items c.args.self.now.bytes n m c.args.self.now.room (ap (λ p. p.bytes) c.self.view_is) c.self.invariant.0 (ap (λ p. p.room) c.self.view_is)
    (omega (arith, c.requires.room, wide)) in
    let part = c.draw_layer_row-start.new.row in
    let size : length part ≡ m = ap (λ (l : List ℕ). length l) c.draw_layer_row-start.ensures.drawn ∙ length-row c.args.g.now.columns (λ i. covers c.args.spans.now i c.args.number) ∙ sym wide in
    let back = drawn-back room c.deref_mut.result.now n m part c.deref_mut.ensures.value inside size in (
      subst (λ (l : List ℕ). n + m ≤ length l) (sym back) (omega (arith, inside, length-drawn room.items n m part inside size)),
      λ k high. ap (λ (l : List ℕ). get_or l k 0) back ∙ zero-drawn room.items n m part inside size c.self.invariant.1 k high,
    )

pub returns-clause-split : goal.returns-clause-split
returns-clause-split g c = c.draw_layer_row-start.ensures.split

pub returns-clause-drawn : goal.returns-clause-drawn
returns-clause-drawn g c =
    let room = c.self.inside.room in
    let n = c.self.inside.filled in
    let m = c.div_ceil.result in
    let wide : m ≡ div_ceil c.args.g.now.columns 8 = c.div_ceil.ensures ∙ ap (λ (w : ℕ). div_ceil w 8) c.columns.ensures.value in
    let inside : n + m ≤ length room.items = fits-after room.items c.args.self.now.bytes n m c.args.self.now.room (ap (λ p. p.bytes) c.self.view_is) c.self.invariant.0 (ap (λ p. p.room) c.self.view_is)
    (omega (arith, c.requires.room, wide)) in
    let part = c.draw_layer_row-start.new.row in
    let size : length part ≡ m = ap (λ (l : List ℕ). length l) c.draw_layer_row-start.ensures.drawn ∙ length-row c.args.g.now.columns (λ i. covers c.args.spans.now i c.args.number) ∙ sym wide in
    let back = drawn-back room c.deref_mut.result.now n m part c.deref_mut.ensures.value inside size in
    ap (λ (l : List ℕ). take (n + m) l) back
    ∙ take-drawn room.items n m part c.args.self.now.bytes (row_bytes c.args.g.now.columns (λ i. covers c.args.spans.now i c.args.number)) inside size
    (ap (λ p. p.bytes) c.self.view_is) c.draw_layer_row-start.ensures.drawn

pub returns-clause-room : goal.returns-clause-room
returns-clause-room g c =
    let room = c.self.inside.room in
    let n = c.self.inside.filled in
    let m = c.div_ceil.result in
    let wide : m ≡ div_ceil c.args.g.now.columns 8 = c.div_ceil.ensures ∙ ap (λ (w : ℕ). div_ceil w 8) c.columns.ensures.value in
    let inside : n + m ≤ length room.items = fits-after room.items c.args.self.now.bytes n m c.args.self.now.room (ap (λ p. p.bytes) c.self.view_is) c.self.invariant.0 (ap (λ p. p.room) c.self.view_is)
    (omega (arith, c.requires.room, wide)) in
    let part = c.draw_layer_row-start.new.row in
    let size : length part ≡ m = ap (λ (l : List ℕ). length l) c.draw_layer_row-start.ensures.drawn ∙ length-row c.args.g.now.columns (λ i. covers c.args.spans.now i c.args.number) ∙ sym wide in
    let back = drawn-back room c.deref_mut.result.now n m part c.deref_mut.ensures.value inside size in
    ap (λ (l : List ℕ). length l) back ∙ length-drawn room.items n m part inside size ∙ ap (λ p. p.room) c.self.view_is
