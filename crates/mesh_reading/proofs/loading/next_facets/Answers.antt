use Rattle.std.proofs.Common.{rules}
use Rattle.std.proofs.KnownBytes.{Consumes-trans}
use Rattle.geometry.specs.declared.limits.TheConstants.{FACET_LIMIT}
use Rattle.mesh_reading.proofs.loading.next_facets.Goals as goal

pub returns-clause-fed : goal.returns-clause-fed
returns-clause-fed g c = λ unit taken start is. (
  _,
  Consumes-trans start _ _ is.0 _ is.1 c.in_ok-count.ensures.taken,
  rw c.take_facets.ensures.given (c.take_facets.ensures.after FACET_LIMIT unit taken _ (c.feed.ensures FACET_LIMIT unit taken is.0 is.2)),
)

pub returns-clause-whole : goal.returns-clause-whole
returns-clause-whole g c = λ e. c.in_ok-count.ensures.end (search (rules, e))
