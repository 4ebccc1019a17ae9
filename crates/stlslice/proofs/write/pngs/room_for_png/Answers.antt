use Rattle.std.proofs.Common.{◌≡◌, ◌∙◌, ◌≤◌, ◌⊎◌, ℕ, List, ap, inl, inr, length, max, slice_index_or, sym}
use Rattle.build_book.specs.Layer.{Layer}
use Rattle.layer_png.specs.Depth.{bits}
use Rattle.layer_png.specs.Text.{most_png_bytes}
use Rattle.raster.specs.declared.span.Span.{Span}
use Rattle.stlslice.proofs.lemmas.Pngs.{at_most, last_or_before, same_place}
use Rattle.stlslice.proofs.write.pngs.room_for_png.Goals as goal

pub loop-layer-preserved : goal.loop-layer-preserved
loop-layer-preserved g c =
    let items : List Layer = c.layers-layer-items.result.now in
    let i : ℕ = c.loop-layer.layer-index in
    let here : Layer = c.layer-item.result in
    let most : List Span → ℕ = λ spans. most_png_bytes (bits c.args.depth) c.grid-grid.result.now.columns c.grid-grid.result.now.rows (length spans) in
    let value : c.most_png_bytes.result ≡ most c.spans.result.now = c.most_png_bytes.ensures.value in
    let greatest : c.max-room.result ≡ max c.loop-layer.room c.most_png_bytes.result = c.max-room.ensures in
    let last : (d : Layer) → most (slice_index_or items i d).spans ≡ c.most_png_bytes.result =
    λ d. ap (λ (x : Layer). most x.spans) (same_place items i d here c.loop-layer-test.true c.layer-item.is)
    ∙ ap most (sym c.spans.ensures) ∙ sym value in
    λ k d h. at_most (most (slice_index_or items k d).spans) c.loop-layer.room c.most_png_bytes.result c.max-room.result greatest
    (elim (last_or_before k i h) as (λ _. (most (slice_index_or items k d).spans ≤ c.loop-layer.room) ⊎ (most (slice_index_or items k d).spans ≡ c.most_png_bytes.result)) [
      | inl before ↦ inl (c.loop-layer.invariant k d before)
      | inr at ↦ inr (ap (λ (n : ℕ). most (slice_index_or items n d).spans) at ∙ last d)
    ])
