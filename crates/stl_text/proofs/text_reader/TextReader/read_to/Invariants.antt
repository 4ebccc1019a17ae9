use Rattle.std.proofs.Common.{◌≡◌, ◌<◌, [], length}
use Rattle.stl_text.specs.TextReader.{ReadsOn}
use Rattle.stl_text.proofs.text_reader.TextReader.read_to.Given as goal

abbrev pub invariant-ahead : goal.invariant-ahead
invariant-ahead g l = record {
  reading : ReadsOn l.fn.self l.fn.ahead l.self l.rest;
  free : 0 < length l.rest → l.self.held ≡ [];
}

abbrev pub decreases-ahead : goal.decreases-ahead
decreases-ahead g l = length l.rest
