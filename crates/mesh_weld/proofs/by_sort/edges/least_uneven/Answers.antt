use Rattle.std.proofs.Common.{arith, ◌+◌, ◌*◌, ◌^◌, ◌<◌, ◌≡◌, refl, length, get_or}
use Rattle.std.proofs.lemmas.List.{get_or_default}
use Rattle.mesh_weld.specs.declared.half_edge.HalfEdge.{HalfEdge}
use Rattle.mesh_weld.proofs.lemmas.HalfEdges.{counted_none, counted_more, counted_next, past_run, uneven_run, all_even}
use Rattle.mesh_weld.proofs.by_sort.edges.least_uneven.Goals as goal
use Rattle.mesh_weld.proofs.by_sort.edges.least_uneven.Goals.{then-not-has_ends_of+else-run, else-not-has_ends_of}

pub loop-half_edge-init : goal.loop-half_edge-init
loop-half_edge-init c = counted_none c.args.sorted.now

pub loop-half_edge-preserved : goal.loop-half_edge-preserved
loop-half_edge-preserved c =
    let es = c.args.sorted.now in let i = c.loop-half_edge.half_edge-index in
    let inside : i < length es = omega arith in
    let half_edge : HalfEdge = get_or es i (record { from = 0; to = 0; slot = 0 }) in
    let is_half_edge : (d : HalfEdge) → get_or es i d ≡ half_edge = λ d. get_or_default es i d (record { from = 0; to = 0; slot = 0 }) inside in
    elim c.if-not-has_ends_of.branch [
      | then-not-has_ends_of+else-run w ↦
          rw (c.counted-run.ensures, w.run-is, w.started-run.ensures) (counted_next es i half_edge inside is_half_edge c.loop-half_edge.run c.loop-half_edge.invariant w.if-run.false)
      | else-not-has_ends_of w ↦
          let ends = c.has_ends_of.ensures.value.0 w.if-not-has_ends_of.false in
          rw (c.counted-run.ensures, w.run-is) (counted_more es i half_edge inside is_half_edge c.loop-half_edge.run c.loop-half_edge.invariant ends.0 ends.1)
    ]

pub returns-then-run : goal.returns-then-run
returns-then-run c =
    let es = c.args.sorted.now in let i = c.loop-half_edge.half_edge-index in let run = c.loop-half_edge.run in
    let inside : i < length es = omega arith in
    let half_edge : HalfEdge = get_or es i (record { from = 0; to = 0; slot = 0 }) in
    let is_half_edge : (d : HalfEdge) → get_or es i d ≡ half_edge = λ d. get_or_default es i d (record { from = 0; to = 0; slot = 0 }) inside in
    let fits = c.has_ends_of.ensures.in_range in
    uneven_run es i run c.loop-half_edge.invariant (run.low * 2 ^ 32 + run.high)
    (past_run es i run c.loop-half_edge.invariant c.requires.ascending half_edge inside is_half_edge c.if-run.true (λ ends. let t = c.has_ends_of.ensures.value.1 ends in let f = c.if-not-has_ends_of.true in cc) fits.0 fits.1 fits.2)
    refl c.if-run.true

pub returns-then-run-2 : goal.returns-then-run-2
returns-then-run-2 c =
    all_even c.args.sorted.now c.loop-half_edge.half_edge-index c.loop-half_edge.run c.loop-half_edge.invariant c.loop-half_edge-test.false c.if-run-2.true

pub returns-else-run-2 : goal.returns-else-run-2
returns-else-run-2 c =
    let run = c.loop-half_edge.run in
    uneven_run c.args.sorted.now c.loop-half_edge.half_edge-index run c.loop-half_edge.invariant (run.low * 2 ^ 32 + run.high) (λ k d l m. let no : ⊥ = omega (arith, l, m) in absurd no) refl c.if-run-2.false
