use Rattle.std.proofs.Common.{[], List, ℕ, ap, arith, get_or, length, ◌∙◌}
use Rattle.std.proofs.lemmas.List.{length-replicate}
use Rattle.std.proofs.lemmas.Result.{err_from_is_err_and}
use Rattle.raster.proofs.lemmas.Packing.{blank-at}
use Rattle.raster.proofs.pbm.page.Page.new.Goals as goal

pub invariant_of-result : goal.invariant_of-result
invariant_of-result g c =
    let blank = c.in_ok-vec.ensures.items_if_clones_equal (λ y h. h) in
    (omega arith, λ k low. ap (λ (l : List ℕ). get_or l k 0) blank ∙ blank-at c.args.room k)

pub returns : goal.returns
returns g c =
    let blank = c.in_ok-vec.ensures.items_if_clones_equal (λ y h. h) in
    let size = ap (λ (l : List ℕ). length l) blank ∙ length-replicate c.args.room 0 in
    λ i. record { bytes = []; room = size i }

pub returns-in_err-vec : goal.returns-in_err-vec
returns-in_err-vec g c =
    let p = err_from_is_err_and c.from_residual.result c.from_residual.ensures.1 in
    rw p.1 tt
