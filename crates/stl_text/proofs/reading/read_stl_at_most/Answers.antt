use Rattle.std.proofs.Common.{[]}
use Rattle.stl_text.proofs.reading.read_stl_at_most.Goals as goal

pub returns : goal.returns
returns g c =
    let is = c.feed.ensures c.args.limit c.args.unit [] [] c.new-reader.ensures in
    record {
      found = c.finish.ensures.found c.args.limit c.args.unit [] c.args.bytes.now is;
      only = c.finish.ensures.only c.args.limit c.args.unit [] c.args.bytes.now is;
      fault = c.finish.ensures.fault c.args.limit c.args.unit [] c.args.bytes.now is;
    }
