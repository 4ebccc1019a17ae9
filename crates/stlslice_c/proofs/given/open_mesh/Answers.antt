use Rattle.std.proofs.Common.{slice_set, get_or, ap}
use Rattle.layer_session.specs.Session.{of_arrays}
use Rattle.stlslice_c.proofs.lemmas.Given.{opened_at}
use Rattle.std.specs.Prelude.{pos}
use Rattle.stlslice_c.specs.declared.options.Options.{Options}
use Rattle.stlslice_c.specs.declared.shape.Shape.{Shape}
use Rattle.stlslice_c.proofs.given.open_mesh.Goals as goal

abbrev options_of_zeros : Options
options_of_zeros = record {
  pitch = 0;
  layer = 0;
  rule = 0;
  unit = 0;
  placing = 0;
  cells = record { columns = 0; rows = 0; layers = 0; origin_x = pos 0; origin_y = pos 0; origin_z = pos 0 };
  turn = 0;
  width = record { numerator = 0; denominator = 0 };
  depth = record { numerator = 0; denominator = 0 };
}

abbrev shape_of_zeros : Shape
shape_of_zeros = record {
  corners = record { facets = 0; low_x = pos 0; low_y = pos 0; low_z = pos 0; high_x = pos 0; high_y = pos 0; high_z = pos 0 };
  cells = record { columns = 0; rows = 0; layers = 0; origin_x = pos 0; origin_y = pos 0; origin_z = pos 0 };
  pitch = 0;
  layer = 0;
  times_x = 0;
  times_y = 0;
}

pub returns-clause-answered : goal.returns-clause-answered
returns-clause-answered c n m room o x y d e f =
    let new = c.open_arrays.new in (
      new.handle,
      new.shape,
      ap (λ zs. slice_set zs 0 new.handle) e,
      ap (λ zs. slice_set zs 0 new.shape) f,
      opened_at (of_arrays c.args.points.now c.args.triangles.now) new.handle new.shape c.args.line.now new.line c.open_arrays.result (ap (λ zs. get_or zs 0 options_of_zeros) d) (ap (λ zs. get_or zs 0 c.index-mesh-0.result) e) (ap (λ zs. get_or zs 0 shape_of_zeros) f) c.open_arrays.ensures,
    )
