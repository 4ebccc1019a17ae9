use Rattle.std.proofs.Common.{◌≡◌, ◌+◌, ◌++◌, ◌-◌, ◌∙◌, ◌≤◌, ℕ, ap, arith, length, subst, sym}
use Rattle.std.proofs.lemmas.Result.{err_from_is_err_and}
use Rattle.std.proofs.lemmas.List.{append-nil}
use Rattle.std.specs.Int.{div_ceil}
use Rattle.devices.specs.Devices.{Fails}
use Rattle.devices.specs.Transcript.{transcript_of}
use Rattle.geometry.specs.declared.limits.TheConstants.{COLUMN_LIMIT}
use Rattle.raster.specs.Image.{header, image_of_pixels, row_bytes}
use Rattle.raster.specs.ImageWriter.{pending}
use Rattle.raster.specs.Rows.{IsRowStart}
use Rattle.raster.specs.Span.{covers}
use Rattle.raster.specs.declared.pbm.chunk.TheConstants.{CHUNK_LEN}
use Rattle.raster.proofs.lemmas.Images.{held-few}
use Rattle.raster.proofs.lemmas.SpanOrder.{split-all}
use Rattle.raster.proofs.lemmas.Written.{begun, cut-before, lower_rows, more-out, moved, next-row, taken-on, written-within}
use Rattle.raster.proofs.pbm.image_writer.push_image.Goals as goal

pub make_room-requires-in-loop-row-clause-count : goal.make_room-requires-in-loop-row-clause-count
make_room-requires-in-loop-row-clause-count g c =
    let at = c.args.g.now in
    let pixel = covers c.args.spans.now in
    let few =
    held-few _ _ c.args.chunk.now at.columns at.rows pixel _ c.loop-row.written c.loop-row.chunk (lower_rows at.columns pixel c.loop-row.row)
    (subst (λ (n : ℕ). n ≤ COLUMN_LIMIT) c.columns.ensures.value c.columns.ensures.high)
    (subst (λ (n : ℕ). n ≤ COLUMN_LIMIT) c.rows.ensures.value c.rows.ensures.high) c.loop-row.invariant.text in
    omega (arith, c.requires.count, few)

pub returns-in_err-written-2 : goal.returns-in_err-written-2
returns-in_err-written-2 g c =
    let p = err_from_is_err_and c.from_residual-in_err-written-2.result c.from_residual-in_err-written-2.ensures.1 in
    let cut = c.in_err-written-2.ensures.err in
    let inv = c.loop-row.invariant in
    let text = pending c.args.chunk.now c.args.g.now c.args.spans.now in
    let rest = lower_rows c.args.g.now.columns (covers c.args.spans.now) c.loop-row.row in
    record {
      ok = rw p.1 tt;
      held = rw p.1 tt;
      few = rw p.1 tt;
      err = rw (p.1, p.2)
          (record {
            low = omega (arith, inv.text.low, cut.low);
            high = written-within _ _ text _ _ _ _ rest inv.text cut.high;
            out = more-out _ _ _ text _ _ _ _ rest inv.text cut.low (omega (arith, cut.high)) cut.out;
            failed = subst (λ (n : ℕ). Fails n (g.W.Failures.failure_count c.make_room-in-loop-row.new.w)) inv.same cut.failed;
          });
    }

pub loop-row-preserved : goal.loop-row-preserved
loop-row-preserved g c =
    let at = c.args.g.now in
    let inv = c.loop-row.invariant in
    let out = c.in_ok-written-2.ensures in
    let text = pending c.args.chunk.now at c.args.spans.now in
    let rest = lower_rows at.columns (covers c.args.spans.now) c.loop-row.row in
    let now = moved _ _ _ text _ _ _ _ c.make_room-in-loop-row.new.self rest inv.text out.ok.low out.ok.high out.ok.out out.kept in
    record {
      needed = inv.needed;
      rows = omega (arith, inv.rows);
      split = c.push_row-end.ensures.split;
      text = taken-on _ _ text _ _ _ _ (row_bytes at.columns (λ i. covers c.args.spans.now i (c.loop-row.row - 1)))
          (lower_rows at.columns (covers c.args.spans.now) (c.loop-row.row - 1)) rest now
          (next-row at.columns c.loop-row.row (c.loop-row.row - 1) (covers c.args.spans.now) (omega arith)) c.push_row-end.ensures.drawn;
      same = out.ok.same ∙ inv.same;
    }

pub loop-row-init : goal.loop-row-init
loop-row-init g c =
    let at = c.args.g.now in
    let pixel = covers c.args.spans.now in
    let image = image_of_pixels at.columns at.rows pixel in
    let old = g.W.Sink.contents c.args.w.now in
    let text = pending c.args.chunk.now at c.args.spans.now in
    let out = c.in_ok-written.ensures in
    let chunk = c.make_room.new.self in
    let wide : c.push_header.new.self ≡ chunk ++ header at.columns c.rows.result =
    c.push_header.ensures ∙ ap (λ n. chunk ++ header n c.rows.result) c.columns-2.ensures.value in
    let headed : c.push_header.new.self ≡ chunk ++ header at.columns at.rows = wide ∙ ap (λ n. chunk ++ header at.columns n) c.rows.ensures.value in
    record {
      needed = c.div_ceil-needed.ensures ∙ ap (λ n. div_ceil n 8) c.columns.ensures.value;
      rows = omega (arith, c.rows-row.ensures.value);
      split = subst (IsRowStart c.args.spans.now (length c.args.spans.now)) (sym c.rows-row.ensures.value)
          (split-all at.columns at.rows c.args.spans.now c.requires.form.within);
      text = taken-on _ _ text _ _ _ _ (header at.columns at.rows) (lower_rows at.columns pixel c.rows-row.result) image
          (moved _ _ _ text _ _ _ _ chunk image (begun old c.args.before c.args.chunk.now image) out.ok.low out.ok.high out.ok.out out.kept)
          (ap (λ n. header at.columns at.rows ++ lower_rows at.columns pixel n) (sym c.rows-row.ensures.value)) headed;
      same = out.ok.same;
    }

pub push_row-end-requires : goal.push_row-end-requires
push_row-end-requires g c =
    let above : c.loop-row.row ≡ c.loop-row.row - 1 + 1 = omega (arith, c.loop-row-test.true) in
    record {
      form = c.requires.form;
      split = subst (IsRowStart c.args.spans.now c.loop-row.end) above c.loop-row.invariant.split;
      room = subst (λ (n : ℕ). length c.make_room-in-loop-row.new.self + n ≤ CHUNK_LEN) c.loop-row.invariant.needed c.in_ok-written-2.ensures.room;
    }

pub returns : goal.returns
returns g c =
    let at = c.args.g.now in
    let pixel = covers c.args.spans.now in
    let inv = c.loop-row.invariant in
    let none : c.loop-row.row ≡ 0 = omega (arith, c.loop-row-test.false) in
    record {
      ok = record { low = inv.text.low; high = inv.text.high; out = inv.text.out; same = inv.same };
      held = sym (inv.text.left
          ∙ ap (λ n. c.loop-row.chunk ++ lower_rows at.columns pixel n) none
          ∙ append-nil c.loop-row.chunk);
      few = held-few _ _ c.args.chunk.now at.columns at.rows pixel _ c.loop-row.written c.loop-row.chunk (lower_rows at.columns pixel c.loop-row.row)
          (subst (λ (n : ℕ). n ≤ COLUMN_LIMIT) c.columns.ensures.value c.columns.ensures.high)
          (subst (λ (n : ℕ). n ≤ COLUMN_LIMIT) c.rows.ensures.value c.rows.ensures.high) inv.text;
      err = tt;
    }

pub push_header-requires : goal.push_header-requires
push_header-requires g c = record { room = c.in_ok-written.ensures.room; width = c.columns-2.ensures.high; height = c.rows.ensures.high }

pub returns-in_err-written : goal.returns-in_err-written
returns-in_err-written g c =
    let p = err_from_is_err_and c.from_residual.result c.from_residual.ensures.1 in
    let at = c.args.g.now in
    let sink = transcript_of g.W.Sink.contents g.W.Failures.failure_count c.args.w.now c.make_room.new.w in
    let image = image_of_pixels at.columns at.rows (covers c.args.spans.now) in
    record {
      ok = rw p.1 tt;
      held = rw p.1 tt;
      few = rw p.1 tt;
      err = rw (p.1, p.2)
          (cut-before sink c.args.chunk.now image c.args.before c.in_err-written.field-0.0.written c.in_err-written.ensures.err);
    }
