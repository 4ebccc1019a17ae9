use Rattle.std.proofs.Common.{◌≡◌, ◌≤◌, ◌<◌, ◌+◌, ◌*◌, ◌∙◌, ℕ, ap, arith, min, refl, subst, sym, vec_len}
use Rattle.std.specs.Prelude.{flat_map, vec_items}
use Rattle.std.proofs.lemmas.List.Elements.{All-same}
use Rattle.devices.specs.Transcript.{Transcript, transcript_of}
use Rattle.stlslice.specs.Pages.{Holds, all_images, images_between}
use Rattle.stlslice.proofs.lemmas.Pages.{all-begun, fewer-left, next-counted, no-images, set-out}
use Rattle.stlslice.proofs.lemmas.Put.{put-early, put-last}
use Rattle.stlslice.proofs.write.pages.put_by_pages.Goals as goal

pub loop-first-init : goal.loop-first-init
loop-first-init g c =
    let it = g.D.Drawing in
    record {
      low = omega arith;
      text = all-begun it.bytes (it.image c.args.drawing.now) (it.layers c.args.drawing.now) (g.O.Sink.contents c.args.sink.now)
          c.args.drawn.items c.requires.sets.blank;
      counted = refl;
      some_drawn = c.requires.some_drawn;
      some_free = c.requires.some_free;
      drawn_fit = c.requires.sets.drawn_fit;
      free_fit = c.requires.sets.free_fit;
    }

pub loop-first-smaller : goal.loop-first-smaller
loop-first-smaller g c =
    fewer-left c.layers-count.result c.loop-first.first (vec_len c.loop-first.free) c.per-per.result c.start_of_page-end.result
    c.loop-first.invariant.some_free (omega (arith, c.per-per.ensures.value, c.per-per.ensures.some)) c.loop-first-test.true (rw c.len.ensures at c.start_of_page-end.ensures)

pub draw_and_put-requires-clause-low : goal.draw_and_put-requires-clause-low
draw_and_put-requires-clause-low g c κs within = c.loop-first.invariant.low

pub draw_and_put-requires-clause-some : goal.draw_and_put-requires-clause-some
draw_and_put-requires-clause-some g c κs within = c.loop-first.invariant.some_free

pub draw_and_put-requires-clause-room : goal.draw_and_put-requires-clause-room
draw_and_put-requires-clause-room g c κs within = c.loop-first.invariant.free_fit

pub draw_and_put-requires-clause-count : goal.draw_and_put-requires-clause-count
draw_and_put-requires-clause-count g c κs within =
    let it = g.D.Drawing in
    let f = it.image c.args.drawing.now in
    let n = it.layers c.args.drawing.now in
    rw c.as_slice.ensures.value
    (next-counted (g.O.Sink.contents c.args.sink.now) (g.O.Sink.contents c.loop-first.sink) (all_images f n) c.loop-first.written
    (flat_map it.bytes c.loop-first.drawn.items) (images_between f c.loop-first.first n) c.layers-count.ensures.few c.loop-first.invariant.text)

pub loop-first-preserved : goal.loop-first-preserved
loop-first-preserved g c =
    let it = g.D.Drawing in
    let f = it.image c.args.drawing.now in
    let n = it.layers c.args.drawing.now in
    let at = c.loop-first in
    let inv = c.loop-first.invariant in
    let fits = Holds it.capacity (it.per c.args.drawing.now) (it.size c.args.drawing.now) in
    let out = c.in_ok-written.ensures in
    let drawn = c.swap.ensures.x_after in
    let free = c.swap.ensures.y_after in
    let end : c.start_of_page-end.result ≡ min (at.first + vec_len at.free * it.per c.args.drawing.now) n =
    rw (← c.per-per.ensures.value, ← c.layers-count.ensures.value) (rw c.len.ensures at c.start_of_page-end.ensures) in
    let now_drawn : flat_map it.bytes c.swap.new.x.items ≡ images_between f at.first c.start_of_page-end.result =
    ap (flat_map it.bytes) (ap vec_items drawn) ∙ out.images ∙ ap (images_between f at.first) (sym end) in
    record {
      low = omega (arith, end);
      text = set-out f n (g.O.Sink.contents c.args.sink.now) (g.O.Sink.contents at.sink) (g.O.Sink.contents c.draw_and_put.new.sink)
          (g.O.Failures.failure_count at.sink) (g.O.Failures.failure_count c.draw_and_put.new.sink) at.written c.in_ok-written.written at.first
          c.start_of_page-end.result (flat_map it.bytes at.drawn.items) (flat_map it.bytes c.swap.new.x.items) inv.text
          (rw (← c.as_slice.ensures.value) out.put) (omega (arith, end, inv.low)) (omega (arith, end)) now_drawn;
      counted = out.put.same ∙ inv.counted;
      some_drawn = subst (λ (n : ℕ). 0 < n) (sym (ap vec_len drawn ∙ out.count)) inv.some_free;
      some_free = subst (λ (n : ℕ). 0 < n) (sym (ap vec_len free)) inv.some_drawn;
      drawn_fit = All-same fits c.swap.new.x.items c.draw_and_put.new.free.items (ap vec_items drawn) out.room;
      free_fit = All-same fits c.swap.new.y.items at.drawn.items (ap vec_items free) inv.drawn_fit;
    }

pub returns-in_err-written : goal.returns-in_err-written
returns-in_err-written g c =
    let it = g.D.Drawing in
    let f = it.image c.args.drawing.now in
    let n = it.layers c.args.drawing.now in
    let at = c.loop-first in
    let sink : Transcript = transcript_of g.O.Sink.contents g.O.Failures.failure_count c.args.sink.now c.draw_and_put.new.sink in
    put-early c.from_residual.result c.in_err-written.field-0.0 sink (g.O.Sink.contents at.sink) (g.O.Failures.failure_count at.sink)
    (all_images f n) 0 at.written (flat_map it.bytes at.drawn.items) (images_between f at.first n) at.invariant.text at.invariant.counted
    (rw (← c.as_slice.ensures.value) c.in_err-written.ensures.put) c.from_residual.ensures.1

pub put_pages-requires : goal.put_pages-requires
put_pages-requires g c =
    let it = g.D.Drawing in
    let f = it.image c.args.drawing.now in
    let n = it.layers c.args.drawing.now in
    rw c.as_slice-2.ensures.value
    (next-counted (g.O.Sink.contents c.args.sink.now) (g.O.Sink.contents c.loop-first.sink) (all_images f n) c.loop-first.written
    (flat_map it.bytes c.loop-first.drawn.items) (images_between f c.loop-first.first n) c.layers-count.ensures.few c.loop-first.invariant.text)

pub returns : goal.returns
returns g c =
    let it = g.D.Drawing in
    let f = it.image c.args.drawing.now in
    let n = it.layers c.args.drawing.now in
    let at = c.loop-first in
    let end : n ≤ at.first = rw (← c.layers-count.ensures.value) c.loop-first-test.false in
    let sink : Transcript = transcript_of g.O.Sink.contents g.O.Failures.failure_count c.args.sink.now c.put_pages.new.sink in
    let under = rw (no-images f at.first n end) at at.invariant.text in
    put-last c.put_pages.result sink (g.O.Sink.contents at.sink) (g.O.Failures.failure_count at.sink) (all_images f n) 0 at.written
    (flat_map it.bytes at.drawn.items) under at.invariant.counted (rw (← c.as_slice-2.ensures.value) c.put_pages.ensures)
