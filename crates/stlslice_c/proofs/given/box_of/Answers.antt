use Rattle.std.proofs.Common.{slice_set, get_or, ap, subst}
use Rattle.stlslice_c.specs.Answers.{IsBoxAnswer}
use Rattle.stlslice_c.specs.declared.shape.Corners.{Corners}
use Rattle.std.specs.Prelude.{pos}
use Rattle.stlslice_c.proofs.given.box_of.Goals as goal

abbrev corners_of_zeros : Corners
corners_of_zeros = record { facets = 0; low_x = pos 0; low_y = pos 0; low_z = pos 0; high_x = pos 0; high_y = pos 0; high_z = pos 0 }

pub returns-clause-answered : goal.returns-clause-answered
returns-clause-answered c size room x e =
    let n = c.read_box.new in (
      n.corners,
      ap (λ zs. slice_set zs 0 n.corners) e,
      subst (λ (was : Corners). IsBoxAnswer c.args.unit c.args.text.now was n.corners c.args.line.now n.line c.read_box.result) (ap (λ zs. get_or zs 0 corners_of_zeros) e) c.read_box.ensures,
    )
