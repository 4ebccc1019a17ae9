use Rattle.std.proofs.Common.{◌≡◌, ◌∙◌, ℕ, List, ap, arith, length}
use Rattle.std.proofs.lemmas.List.FromFn.{length-map-range_with_len}
use Rattle.raster.specs.Filler.{area_of}
use Rattle.build_book.specs.Job.{Job}
use Rattle.raster.specs.declared.rule.Rule.{Rule}
use Rattle.layer_session.specs.Answers.{areas_of}
use Rattle.stlslice_c.proofs.answers.put_areas.Goals as goal

length-areas : (job : Job) (rule : Rule) (first count : ℕ) → length (areas_of job rule first count) ≡ count
length-areas job rule first count = length-map-range_with_len (area_of job.grid rule job.solid.facets) first count

pub copy_from_slice-requires : goal.copy_from_slice-requires
copy_from_slice-requires g c =
    omega (
      arith,
      c.if-areas-from.false,
      c.layers.ensures.few,
      c.from.ensures,
      ap (λ (l : List ℕ). length l) (c.as_slice.ensures.value ∙ c.in-Ok.ensures.areas) ∙ length-areas c.args.session.now.job c.in-Some.rule c.args.first (length c.args.areas.now),
    )
