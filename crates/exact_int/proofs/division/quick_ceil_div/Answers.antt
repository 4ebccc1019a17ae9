use Rattle.std.proofs.Common.{rules, ◌≡◌, FitsSigned}
use Rattle.std.proofs.lemmas.Int.{to_z-of_z}
use mir.Syntax.{w64, w128}
use Rattle.exact_int.proofs.division.quick_ceil_div.Goals as goal
use Rattle.exact_int.specs.Division.{IsCeilDiv}

pub returns-in-Ok-Ok : goal.returns-in-Ok-Ok
returns-in-Ok-Ok c =
    let n = c.in-Ok-Ok.n in
    let d = c.in-Ok-Ok.d in
    let w = c.ceil_div_64.result in
    let short_n : FitsSigned w64 n = search rules in
    let short_d : FitsSigned w64 d = search rules in
    let short_w : FitsSigned w64 w = search rules in
    let fits_n : FitsSigned w128 c.args.n = search rules in
    let fits_d : FitsSigned w128 c.args.d = search rules in
    let fits_r : FitsSigned w128 c.from.result = search rules in
    let n_is : n ≡ c.args.n = simp to_z-of_z at c.in-Ok-Ok.ensures.1 in
    let d_is : d ≡ c.args.d = simp to_z-of_z at c.in-Ok-Ok.ensures'.1 in
    let w_is : c.from.result ≡ w = simp to_z-of_z at c.from.ensures in
    let told : IsCeilDiv w n d = simp to_z-of_z at c.ceil_div_64.ensures in
    simp to_z-of_z (rw (w_is, ← n_is, ← d_is) told)

pub returns-in_default : goal.returns-in_default
returns-in_default c =
    let fits : FitsSigned w128 c.ceil_div.result = search rules in
    let fits_n : FitsSigned w128 c.args.n = search rules in
    let fits_d : FitsSigned w128 c.args.d = search rules in
    simp to_z-of_z (simp to_z-of_z at c.ceil_div.ensures)
