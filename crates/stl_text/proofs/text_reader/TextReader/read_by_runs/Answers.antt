use Rattle.std.proofs.Common.{rules, ◌≡◌, [], ◌++◌, arith, subst, sym}
use Rattle.std.proofs.lemmas.List.{nil_from_length}
use Rattle.stl_text.specs.FacetRun.{IsFacetRun}
use Rattle.stl_text.specs.TextReader.{IsReading}
use Rattle.stl_text.proofs.text_reader.TextReader.read_by_runs.Goals as goal

pub loop-run-init : goal.loop-run-init
loop-run-init g c =
    record {
      reading = λ limit unit taken fed after are. c.resume-rest.ensures.read limit unit taken (fed ++ c.args.chunk.now) (c.count_chunk.ensures limit unit taken fed after);
      free = c.resume-rest.ensures.free;
    }

pub loop-run-preserved : goal.loop-run-preserved
loop-run-preserved g c =
    record {
      reading = λ limit unit taken fed after are. c.jump-rest.ensures.read limit unit taken fed c.args.chunk.now
          (subst (λ run. IsFacetRun unit c.args.chunk.now run.facets.items run.from.now run.to.now) (sym c.run-item.is)
          (are c.loop-run.run-index c.run-item.result c.loop-run-test.true))
          (search (rules, c.loop-run.invariant.reading limit unit taken fed after are));
      free = c.jump-rest.ensures.free;
    }

pub returns : goal.returns
returns g c = λ limit unit taken fed after are.
    let none : c.read_to.result.now ≡ [] = nil_from_length c.read_to.result.now (omega (arith, c.read_to.ensures.left)) in
    subst (λ rest. IsReading limit unit taken c.read_to.new.self (fed ++ c.args.chunk.now) rest) none
    (c.read_to.ensures.read limit unit taken (fed ++ c.args.chunk.now) (c.loop-run.invariant.reading limit unit taken fed after are))
