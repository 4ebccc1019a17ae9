use Rattle.std.proofs.Common.{subst}
use Rattle.stl_text.specs.Stage.{AtWord}
use Rattle.stl_text.proofs.stage.Stage.step.Goals as goal

pub returns-in-Between-clause-fault : goal.returns-in-Between-clause-fault
returns-in-Between-clause-fault c = λ limit facets text after w room_is.
    c.step_between.ensures.fault limit c.args.unit c.in-Between.some facets text after
    (subst (λ s. AtWord limit c.args.unit s facets text after c.args.word.now c.args.at) c.in-Between.is w)

pub returns-in-Facets-clause-fault : goal.returns-in-Facets-clause-fault
returns-in-Facets-clause-fault c = λ limit facets text after w room_is.
    c.step_facets.ensures.fault limit c.args.unit facets text after
    (subst (λ s. AtWord limit c.args.unit s facets text after c.args.word.now c.args.at) c.in-Facets.is w) room_is

pub returns-in-Inside-clause-fault : goal.returns-in-Inside-clause-fault
returns-in-Inside-clause-fault c = λ limit facets text after w room_is.
    c.step_inside.ensures.fault limit facets text after
    (subst (λ s. AtWord limit c.args.unit s facets text after c.args.word.now c.args.at) c.in-Inside.is w)
