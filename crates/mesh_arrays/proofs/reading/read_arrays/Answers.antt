use Rattle.std.proofs.Common.{◌∙◌, ◌++◌, ◌∷◌, [], List, ℤ, sym, arith}
use Rattle.std.specs.Prelude.{All}
use Rattle.std.proofs.lemmas.List.{map_more}
use Rattle.std.proofs.lemmas.List.Elements.{All-more}
use Rattle.geometry.specs.Indexed.{indexed_facet}
use Rattle.mesh_arrays.specs.Arrays.{IsCorner}
use Rattle.mesh_arrays.proofs.reading.read_arrays.Goals as goal

pub loop-triangle-preserved : goal.loop-triangle-preserved
loop-triangle-preserved g c =
    let points : List (List ℤ) = c.args.points.now in
    record {
      few = omega (arith, c.if-triangle.false);
      corners = All-more (All (IsCorner points)) c.args.triangles.now c.loop-triangle.triangle [] c.loop-triangle-test.true c.loop-triangle.invariant.corners
          c.in_ok-facet.ensures.corners;
      each = c.in_ok-push.ensures.items
          ∙ (λ i. c.loop-triangle.invariant.each i ++ c.in_ok-facet.ensures.facet i ∷ [])
          ∙ sym (map_more (indexed_facet points) c.args.triangles.now c.loop-triangle.triangle [] c.loop-triangle-test.true);
    }
