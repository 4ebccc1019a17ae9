use Rattle.std.specs.List.{range_with_len}
use Rattle.std.proofs.lemmas.List.FromFn.{length-range_with_len}
use Rattle.contour.proofs.lemmas.Renumbering.{renumbered-not}
use Rattle.contour.proofs.linker.SegmentEdges.number.Goals as goal

pub returns-else-linked-edge_count : goal.returns-else-linked-edge_count
returns-else-linked-edge_count g c = (
  range_with_len 0 c.args.edge_count,
  length-range_with_len 0 c.args.edge_count,
  renumbered-not c.args.self.now.starts.items c.args.self.now.finishes.items c.args.edge_count c.requires.starts_below c.requires.finishes_below,
)
