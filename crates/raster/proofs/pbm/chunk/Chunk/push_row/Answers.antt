use Rattle.std.proofs.Common.{◌≡◌, ◌≤◌, ◌+◌, ◌∙◌, ℕ, List, ap, arith, length, sym}
use Rattle.std.specs.Int.{div_ceil}
use Rattle.raster.specs.Image.{row_bytes}
use Rattle.raster.specs.Span.{covers}
use Rattle.raster.specs.declared.pbm.chunk.TheConstants.{CHUNK_LEN}
use Rattle.raster.proofs.lemmas.DrawnRoom.{fits-after, length-drawn, length-free, take-drawn, zero-drawn, zero-free}
use Rattle.raster.proofs.lemmas.Written.{length-row}
use Rattle.raster.proofs.pbm.chunk.Chunk.push_row.Goals as goal

pub draw_layer_row-start-requires-clause-size : goal.draw_layer_row-start-requires-clause-size
draw_layer_row-start-requires-clause-size c =
    let room = c.self.inside.bytes in
    let n = c.self.inside.filled in
    let m = c.div_ceil.result in
    let wide : m ≡ div_ceil c.args.g.now.columns 8 = c.div_ceil.ensures ∙ ap (λ (w : ℕ). div_ceil w 8) c.columns.ensures.value in
    let inside : n + m ≤ length room = fits-after room c.args.self.now n m CHUNK_LEN c.self.view_is (omega (arith, c.self.invariant.0, c.self.told)) c.self.told
    (omega (arith, c.requires.room, wide)) in
    length-free room n m inside ∙ wide

pub draw_layer_row-start-requires-clause-blank : goal.draw_layer_row-start-requires-clause-blank
draw_layer_row-start-requires-clause-blank c = zero-free c.self.inside.bytes c.self.inside.filled c.div_ceil.result c.self.invariant.2

pub invariant_of-self : goal.invariant_of-self
invariant_of-self c =
    let room = c.self.inside.bytes in
    let n = c.self.inside.filled in
    let m = c.div_ceil.result in
    let wide : m ≡ div_ceil c.args.g.now.columns 8 = c.div_ceil.ensures ∙ ap (λ (w : ℕ). div_ceil w 8) c.columns.ensures.value in
    let inside : n + m ≤ length room = fits-after room c.args.self.now n m CHUNK_LEN c.self.view_is (omega (arith, c.self.invariant.0, c.self.told)) c.self.told
    (omega (arith, c.requires.room, wide)) in
    let part = c.draw_layer_row-start.new.row in
    let size : length part ≡ m = ap (λ (l : List ℕ). length l) c.draw_layer_row-start.ensures.drawn ∙ length-row c.args.g.now.columns (λ i. covers c.args.spans.now i c.args.number) ∙ sym wide in
    (omega (arith, inside, c.self.told), length-drawn room n m part inside size ∙ c.self.told, zero-drawn room n m part inside size c.self.invariant.2)

pub returns-clause-split : goal.returns-clause-split
returns-clause-split c = c.draw_layer_row-start.ensures.split

pub returns-clause-drawn : goal.returns-clause-drawn
returns-clause-drawn c =
    let room = c.self.inside.bytes in
    let n = c.self.inside.filled in
    let m = c.div_ceil.result in
    let wide : m ≡ div_ceil c.args.g.now.columns 8 = c.div_ceil.ensures ∙ ap (λ (w : ℕ). div_ceil w 8) c.columns.ensures.value in
    let inside : n + m ≤ length room = fits-after room c.args.self.now n m CHUNK_LEN c.self.view_is (omega (arith, c.self.invariant.0, c.self.told)) c.self.told
    (omega (arith, c.requires.room, wide)) in
    let part = c.draw_layer_row-start.new.row in
    let size : length part ≡ m = ap (λ (l : List ℕ). length l) c.draw_layer_row-start.ensures.drawn ∙ length-row c.args.g.now.columns (λ i. covers c.args.spans.now i c.args.number) ∙ sym wide in
    take-drawn room n m part c.args.self.now (row_bytes c.args.g.now.columns (λ i. covers c.args.spans.now i c.args.number)) inside size c.self.view_is
    c.draw_layer_row-start.ensures.drawn
