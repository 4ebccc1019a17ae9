use Rattle.std.proofs.Common.{[], ◌++◌, refl}
use Rattle.geometry.specs.declared.limits.TheConstants.{FACET_LIMIT}
use Rattle.layer_session.proofs.session_reader.SessionReader.feed.Goals as goal

pub invariant_of-self : goal.invariant_of-self
invariant_of-self g c = (
  c.self.invariant.0 ++ c.args.chunk.now,
  record {
    with_setup = refl;
    after = c.feed.ensures FACET_LIMIT c.self.inside.setup.unit [] c.self.invariant.0 c.self.invariant.1.after;
  },
)
