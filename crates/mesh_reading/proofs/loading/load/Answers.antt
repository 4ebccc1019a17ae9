use Rattle.std.proofs.Common.{[]}
use Rattle.geometry.specs.declared.limits.TheConstants.{FACET_LIMIT}
use Rattle.mesh_reading.proofs.loading.load.Goals as goal

pub returns : goal.returns
returns g c =
    c.weld_end.ensures c.args.unit [] c.args.bytes.now (λ few. c.new-welder.ensures) (c.feed.ensures FACET_LIMIT c.args.unit [] [] c.new-reader.ensures)
