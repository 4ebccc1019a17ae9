use Rattle.std.proofs.Common.{◌≡◌, ◌<◌, ◌-◌, arith, inr, sym, ap, ◌∙◌, length, get_or}
use Rattle.std.proofs.lemmas.List.{get_or_default}
use Rattle.mesh_weld.proofs.lemmas.Points.{differ_by_tests}
use Rattle.mesh_weld.proofs.by_sort.corners.add_point.Goals as goal
use Rattle.mesh_weld.proofs.by_sort.corners.add_point.Goals.{else-count-gt0-via-then-count-gt0+else-eq, else-count-gt0-via-else-count-gt0}

pub returns : goal.returns
returns g c =
    inr (
      (λ some is.
          elim c.else-count-gt0.branch [
            | else-count-gt0-via-then-count-gt0+else-eq w ↦
                let old = c.args.points.now in
                let count : c.len-count.result ≡ length old.items = omega (arith, old.ok.0) in
                let below : length old.items - 1 < length old.items = omega (arith, some) in
                let read = w.index.ensures ∙ ap (λ n. get_or old.items (n - 1) w.index.result.now) count ∙ get_or_default old.items (length old.items - 1) w.index.result.now c.args.point below ∙ is in
                differ_by_tests w.index.result.now c.args.point (sym w.eq.ensures ∙ w.if-eq.false) read
            | else-count-gt0-via-else-count-gt0 w ↦ omega (arith, c.args.points.now.ok.0)
          ]),
      c.in_ok-push.ensures.items,
    )
