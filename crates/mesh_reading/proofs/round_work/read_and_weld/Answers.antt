use Rattle.std.proofs.Common.{◌++◌, ap, refl}
use Rattle.geometry.specs.declared.limits.TheConstants.{FACET_LIMIT}
use Rattle.mesh_reading.proofs.round_work.read_and_weld.Goals as goal

pub returns : goal.returns
returns g c =
    let done = c.weld_and_find-found.ensures in
    record {
      fed = λ unit taken fed before.
          rw c.take_facets.ensures.given
          (c.take_facets.ensures.after FACET_LIMIT unit taken (fed ++ c.args.rounds.now.round.bytes)
          (rw (← c.bytes.ensures) (rw (← c.parts-parts.ensures.bytes) (rw (← ap (λ p. p.bytes) done.found) (c.feed_runs.ensures FACET_LIMIT unit taken fed before)))));
      welded = rw (← c.as_slice-facets.ensures.value) done.welded;
      filled = done.filled;
      round = refl;
    }
