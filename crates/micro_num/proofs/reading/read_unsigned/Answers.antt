use Rattle.std.proofs.Common.{◌≡◌, [], length, arith, sym, ap, ◌∙◌, pos, w32, to_z}
use Rattle.std.specs.Prelude.{Ok}
use Rattle.std.proofs.lemmas.Int.{ints}
use Rattle.std.proofs.lemmas.Bool.{eqb-true}
use Rattle.micro_num.proofs.lemmas.Coordinates.{unread, whole_front, magnitude_beyond, magnitude_within}
use Rattle.micro_num.proofs.reading.read_unsigned.Goals as goal

pub returns-then-magnitude-gt-COORDINATE_LIMIT-clause-exact : goal.returns-then-magnitude-gt-COORDINATE_LIMIT-clause-exact
returns-then-magnitude-gt-COORDINATE_LIMIT-clause-exact c =
    let read = whole_front c.args.unit c.args.text.now c.in-Some.after.now c.in-Some.magnitude c.in-Some.ensures.front
    (eqb-true _ _ (sym c.is_empty.ensures ∙ c.if-is_empty.true)) in
    magnitude_beyond c.args.unit c.args.text.now c.in-Some.magnitude read.0 read.1 c.if-magnitude-gt-COORDINATE_LIMIT.true

pub returns-else-magnitude-gt-COORDINATE_LIMIT-clause-exact : goal.returns-else-magnitude-gt-COORDINATE_LIMIT-clause-exact
returns-else-magnitude-gt-COORDINATE_LIMIT-clause-exact c =
    let read = whole_front c.args.unit c.args.text.now c.in-Some.after.now c.in-Some.magnitude c.in-Some.ensures.front
    (eqb-true _ _ (sym c.is_empty.ensures ∙ c.if-is_empty.true)) in
    let value : to_z w32 c.in-Some.magnitude ≡ pos c.in-Some.magnitude = omega (arith, ints) in
    ap Ok value ∙ magnitude_within c.args.unit c.args.text.now c.in-Some.magnitude read.0 read.1 c.if-magnitude-gt-COORDINATE_LIMIT.false

pub returns-in_default-clause-exact : goal.returns-in_default-clause-exact
returns-in_default-clause-exact c =
    unread c.args.unit c.args.text.now
    (λ n is no_sign spelled. let none = ap length (c.in-Some.ensures.reads n [] is no_sign spelled tt) in let other = c.if-is_empty.false in grind arith)

pub returns-in_default-2-clause-exact : goal.returns-in_default-2-clause-exact
returns-in_default-2-clause-exact c =
    unread c.args.unit c.args.text.now (λ n is no_sign spelled. rw c.in_default.is at (c.magnitude_front.ensures.reads n [] is no_sign spelled tt))
