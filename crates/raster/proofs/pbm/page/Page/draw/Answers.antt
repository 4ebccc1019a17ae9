use Rattle.std.proofs.Common.{◌≡◌, ◌≤◌, ◌+◌, ◌-◌, ◌++◌, ◌∙◌, Bool, List, ℕ, suc, ap, arith, append_assoc, length, length-append, subst, sym}
use Rattle.std.proofs.lemmas.List.{append-nil}
use Rattle.std.specs.Int.{div_ceil}
use Rattle.raster.specs.Image.{header, image_of_pixels, row_bytes}
use Rattle.raster.specs.Rows.{IsRowStart}
use Rattle.raster.specs.Span.{covers}
use Rattle.raster.proofs.lemmas.SpanOrder.{split-all}
use Rattle.raster.proofs.lemmas.Written.{length-row, lower_rows, next-row}
use Rattle.raster.proofs.pbm.page.Page.draw.Goals as goal

-- a row more is drawn
row-added : (width m n : ℕ) (pixel : ℕ → ℕ → Bool) (bytes new text : List ℕ) → m ≡ suc n
    → bytes ++ lower_rows width pixel m ≡ text → new ≡ bytes ++ row_bytes width (λ i. pixel i n) → new ++ lower_rows width pixel n ≡ text
row-added width m n pixel bytes new text next before is =
    ap (λ (l : List ℕ). l ++ lower_rows width pixel n) is
    ∙ append_assoc bytes (row_bytes width (λ i. pixel i n)) (lower_rows width pixel n)
    ∙ ap (λ (l : List ℕ). bytes ++ l) (sym (next-row width m n pixel next))
    ∙ before

-- the next row fits
row-fits : (width m n room : ℕ) (pixel : ℕ → ℕ → Bool) (bytes text : List ℕ) → m ≡ suc n
    → bytes ++ lower_rows width pixel m ≡ text → length text ≤ room → length bytes + div_ceil width 8 ≤ room
row-fits width m n room pixel bytes text next before fits =
    omega (
      arith,
      fits,
      ap (λ (l : List ℕ). length l) before,
      length-append bytes (lower_rows width pixel m),
      ap (λ (l : List ℕ). length l) (next-row width m n pixel next),
      length-append (row_bytes width (λ i. pixel i n)) (lower_rows width pixel n),
      length-row width (λ i. pixel i n),
    )

pub push_row-end-requires-clause-room : goal.push_row-end-requires-clause-room
push_row-end-requires-clause-room g c =
    let at = c.args.g.now in
    let image : List ℕ = image_of_pixels at.columns at.rows (covers c.args.spans.now) in
    let fits : length (c.args.self.now.bytes ++ image) ≤ c.loop-row.self.room = omega (arith, c.requires.room, c.loop-row.invariant.room, length-append c.args.self.now.bytes image) in
    row-fits at.columns c.loop-row.row (c.loop-row.row - 1) c.loop-row.self.room (covers c.args.spans.now) c.loop-row.self.bytes
    (c.args.self.now.bytes ++ image) (omega arith) c.loop-row.invariant.text fits

pub loop-row-preserved : goal.loop-row-preserved
loop-row-preserved g c =
    let at = c.args.g.now in
    let inv = c.loop-row.invariant in
    record {
      rows = omega (arith, inv.rows);
      split = c.push_row-end.ensures.split;
      text = row-added at.columns c.loop-row.row (c.loop-row.row - 1) (covers c.args.spans.now) c.loop-row.self.bytes c.push_row-end.new.self.bytes
          (c.args.self.now.bytes ++ image_of_pixels at.columns at.rows (covers c.args.spans.now)) (omega arith) inv.text c.push_row-end.ensures.drawn;
      room = c.push_row-end.ensures.room ∙ inv.room;
    }

pub push_row-end-requires-clause-split : goal.push_row-end-requires-clause-split
push_row-end-requires-clause-split g c =
    let above : c.loop-row.row ≡ c.loop-row.row - 1 + 1 = omega (arith, c.loop-row-test.true) in
    subst (IsRowStart c.args.spans.now c.loop-row.end) above c.loop-row.invariant.split

pub push_row-end-requires-clause-form : goal.push_row-end-requires-clause-form
push_row-end-requires-clause-form g c = c.requires.form

-- a front of a text fits if the text does
front-fits : (n room : ℕ) (front rest : List ℕ) → n + length (front ++ rest) ≤ room → n + length front ≤ room
front-fits n room front rest fits = omega (arith, length-append front rest)

pub push_all-requires : goal.push_all-requires
push_all-requires g c =
    let at = c.args.g.now in
    let wide : c.of.result ≡ header at.columns c.rows.result = c.of.ensures ∙ ap (λ n. header n c.rows.result) c.columns.ensures.value in
    let headed : c.bytes.result.now ≡ header at.columns at.rows = c.bytes.ensures ∙ wide ∙ ap (λ n. header at.columns n) c.rows.ensures.value in
    subst (λ (l : List ℕ). length c.args.self.now.bytes + length l ≤ c.args.self.now.room) (sym headed)
    (front-fits (length c.args.self.now.bytes) c.args.self.now.room (header at.columns at.rows) (lower_rows at.columns (covers c.args.spans.now) at.rows) c.requires.room)

pub loop-row-init : goal.loop-row-init
loop-row-init g c =
    let at = c.args.g.now in
    let pixel = covers c.args.spans.now in
    let bytes = c.args.self.now.bytes in
    let wide : c.of.result ≡ header at.columns c.rows.result = c.of.ensures ∙ ap (λ n. header n c.rows.result) c.columns.ensures.value in
    let headed : c.bytes.result.now ≡ header at.columns at.rows = c.bytes.ensures ∙ wide ∙ ap (λ n. header at.columns n) c.rows.ensures.value in
    record {
      rows = omega (arith, c.rows-row.ensures.value);
      split = subst (IsRowStart c.args.spans.now (length c.args.spans.now)) (sym c.rows-row.ensures.value)
          (split-all at.columns at.rows c.args.spans.now c.requires.form.within);
      text = ap (λ (n : ℕ). c.push_all.new.self.bytes ++ lower_rows at.columns pixel n) c.rows-row.ensures.value
          ∙ ap (λ (l : List ℕ). l ++ lower_rows at.columns pixel at.rows) (c.push_all.ensures.added ∙ ap (λ (l : List ℕ). bytes ++ l) headed)
          ∙ append_assoc bytes (header at.columns at.rows) (lower_rows at.columns pixel at.rows);
      room = c.push_all.ensures.room;
    }

pub returns-clause-drawn : goal.returns-clause-drawn
returns-clause-drawn g c =
    let none : c.loop-row.row ≡ 0 = omega (arith, c.loop-row-test.false) in
    sym (append-nil c.loop-row.self.bytes)
    ∙ ap (λ (n : ℕ). c.loop-row.self.bytes ++ lower_rows c.args.g.now.columns (covers c.args.spans.now) n) (sym none)
    ∙ c.loop-row.invariant.text

pub returns-clause-room : goal.returns-clause-room
returns-clause-room g c = c.loop-row.invariant.room
