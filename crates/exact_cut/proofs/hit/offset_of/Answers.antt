use Rattle.std.proofs.Common.{◌-ℤ◌, [], ◌∷◌, refl, ◌∙◌, ap}
use Rattle.exact_int.proofs.lemmas.Sizes.{sizes, is_at_most}
use Rattle.exact_cut.specs.Bounds.{offset_limit}
use Rattle.exact_int.proofs.lemmas.Identity.{reads, identity}
use Rattle.exact_cut.proofs.lemmas.Shifts.{point_by}
use Rattle.exact_cut.proofs.hit.offset_of.Goals as goal

pub returns : goal.returns
returns c =
    let p = c.args.p in
    point_by
    (identity (p.x ∷ c.x2.result ∷ []) (search (reads, sizes, p.x_in, c.x2.ensures.within) depth 40) refl ∙ ap (λ v. p.x -ℤ v) c.x2.ensures.value)
    (identity (p.y ∷ c.y2.result ∷ []) (search (reads, sizes, p.y_in, c.y2.ensures.within) depth 40) refl ∙ ap (λ v. p.y -ℤ v) c.y2.ensures.value)
    (identity (p.z ∷ c.z2.result ∷ []) (search (reads, sizes, p.z_in, c.z2.ensures.within) depth 40) refl ∙ ap (λ v. p.z -ℤ v) c.z2.ensures.value)

pub invariant_of-result : goal.invariant_of-result
invariant_of-result c =
    let p = c.args.p in
    record {
      x_in = is_at_most offset_limit (search (sizes, p.x_in, c.x2.ensures.within) depth 40) refl;
      y_in = is_at_most offset_limit (search (sizes, p.y_in, c.y2.ensures.within) depth 40) refl;
      z_in = is_at_most offset_limit (search (sizes, p.z_in, c.z2.ensures.within) depth 40) refl;
    }
