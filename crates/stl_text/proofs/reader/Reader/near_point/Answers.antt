use Rattle.std.proofs.Common.{rules}
use Rattle.stl_text.proofs.lemmas.Steps.{point_spelled}
use Rattle.stl_text.proofs.reader.Reader.near_point.Goals as goal

pub returns : goal.returns
returns c =
    point_spelled c.in_ok-x.x c.in_ok-y.y c.in_ok-z.z c.in_ok-x.ensures.some c.in_ok-y.ensures.some c.in_ok-z.ensures.some (search rules) (search rules)
    (search rules) c.in-Some.ensures.value
