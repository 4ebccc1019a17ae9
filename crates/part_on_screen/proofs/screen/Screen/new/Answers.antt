use Rattle.std.proofs.Common.{rules, ◌≤◌, refl}
use Rattle.std.proofs.lemmas.Bool.Decides.{nat_tests}
use Rattle.geometry.specs.declared.limits.TheConstants.{COLUMN_LIMIT}
use Rattle.part_on_screen.specs.Pitch.{IsSide}
use Rattle.part_on_screen.proofs.screen.Screen.new.Goals as goal

pub returns-in_default-clause-fault : goal.returns-in_default-clause-fault
returns-in_default-clause-fault c =
    let columns : 1 ≤ c.args.columns = search (rules, nat_tests) in
    let columns_in : c.args.columns ≤ COLUMN_LIMIT = search (rules, nat_tests) in
    let rows : 1 ≤ c.args.rows = search (rules, nat_tests) in
    let rows_in : c.args.rows ≤ COLUMN_LIMIT = search (rules, nat_tests) in
    let width : IsSide c.args.width = search rules in
    let depth : IsSide c.args.depth = search rules in
    ((columns, columns_in), (rows, rows_in), width, depth, λ p some of_width of_depth. c.in_default.ensures.none refl p some of_width of_depth)
