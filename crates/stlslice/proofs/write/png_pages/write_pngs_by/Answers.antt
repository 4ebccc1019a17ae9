use Rattle.devices.specs.Transcript.{Transcript, transcript_of}
use Rattle.stlslice.specs.Pngs.{pngs_of}
use Rattle.stlslice.proofs.lemmas.Put.{made-written}
use Rattle.stlslice.proofs.write.png_pages.write_pngs_by.Goals as goal

pub write_by_pages-requires-clause-sets : goal.write_by_pages-requires-clause-sets
write_by_pages-requires-clause-sets g c κs within = c.in-Some.ensures.sets

pub returns-in-Some : goal.returns-in-Some
returns-in-Some g c =
    let sink : Transcript = transcript_of g.O.Sink.contents g.O.Failures.failure_count c.args.sink.now c.write_by_pages.new.sink in
    made-written c.write_by_pages.result sink (g.O.Sink.is_settled c.write_by_pages.new.sink)
    (pngs_of c.args.build.now.job c.args.depth c.args.mirrors) c.write_by_pages.ensures

pub returns-in-None : goal.returns-in-None
returns-in-None g c = c.write_pngs.ensures
