use Rattle.std.proofs.Common.{rules, subst, sym}
use Rattle.task_words.specs.Task.{IsInRange}
use Rattle.stlslice.proofs.lemmas.Slicing.{in_range}
use Rattle.stlslice.proofs.running.run_watched.Goals as goal

pub returns-in-Box : goal.returns-in-Box
returns-in-Box g c = rw c.in-Box.is c.run_box.ensures

pub returns-in-Probe : goal.returns-in-Probe
returns-in-Probe g c = rw c.in-Probe.is c.run_probe.ensures

pub run_slicing-requires : goal.run_slicing-requires
run_slicing-requires g c =
    let asked = c.of.result in
    let range = in_range asked.unit asked.pitch asked.layer asked.rule asked.workers asked.given asked.output (subst IsInRange (sym c.of.ensures) c.requires) in
    search rules
