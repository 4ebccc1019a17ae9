use Rattle.std.proofs.Common.{pos, ◌*ℤ◌, [], ◌∷◌, refl, ◌∙◌, ap}
use Rattle.exact_int.proofs.lemmas.Sizes.{sizes}
use Rattle.exact_int.proofs.lemmas.Identity.{reads, identity}
use Rattle.exact_cut.proofs.lemmas.Shifts.{point_by}
use Rattle.exact_cut.proofs.cut.in_half_micrometres.Goals as goal

pub returns : goal.returns
returns c =
    point_by
    (identity (c.x.result ∷ []) (search (reads, sizes, c.x.ensures.within) depth 40) refl ∙ ap (λ v. pos 2 *ℤ v) c.x.ensures.value)
    (identity (c.y.result ∷ []) (search (reads, sizes, c.y.ensures.within) depth 40) refl ∙ ap (λ v. pos 2 *ℤ v) c.y.ensures.value)
    (identity (c.z.result ∷ []) (search (reads, sizes, c.z.ensures.within) depth 40) refl ∙ ap (λ v. pos 2 *ℤ v) c.z.ensures.value)
