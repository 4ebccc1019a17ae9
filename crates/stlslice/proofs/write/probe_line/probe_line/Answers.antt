use Rattle.std.proofs.Common.{◌≡◌, ◌<◌, ◌++◌, List, ℕ, refl, rules, tests}
use Rattle.std.specs.Prelude.{true, Ok, Result, ℤ, codes, decimal, string_bytes}
use Rattle.std.specs.Fmt.{signed_decimal}
use Rattle.geometry.specs.Facet.{Facet}
use Rattle.geometry.specs.Point.{Point}
use Rattle.geometry.specs.Winding.{ray, ray_y}
use Rattle.raster.specs.Grid.{Grid, centre, is_voxel}
use Rattle.stlslice.specs.Outcome.{probe_text, probed_text}
use Rattle.stlslice.specs.declared.run_fault.RunFault.{RunFault}
use Rattle.stlslice.proofs.write.probe_line.probe_line.Goals as goal

-- the line of a voxel, by the counts and the rays as they were handed out
line_there : (g : Grid) (facets : List Facet) (i j k columns rows layers : ℕ) (p : Point) (x y : ℤ) (line : List ℕ)
    → columns ≡ g.columns → rows ≡ g.rows → layers ≡ g.layers → i < columns → j < rows → k < layers
    → p ≡ centre g i j k → x ≡ ray facets p → y ≡ ray_y facets p
    → line ≡ codes "voxel " ++ (decimal i ++ (codes " " ++ (decimal j ++ (codes " " ++ (decimal k
    ++ (codes " x " ++ (signed_decimal x ++ (codes " y " ++ (signed_decimal y ++ codes "\n")))))))))
    → ◌≡◌ {A = Result (List ℕ) RunFault} (Ok line) (probed_text i j k facets g)
line_there g facets i j k columns rows layers p x y line wide deep high left front low at along_x along_y said =
    let inside : is_voxel g i j k ≡ true = search (tests, rules, rw wide at left, rw deep at front, rw high at low) in
    let text : line ≡ probe_text g facets i j k = rw (← at, ← along_x, ← along_y) said in
    rw (inside, text) refl

pub returns-in_ok-format : goal.returns-in_ok-format
returns-in_ok-format g c = record {
  ok = line_there c.args.grid.now c.args.solid.now.facets c.args.i c.args.j c.args.k c.columns.result c.rows.result c.layers.result c.centre.result
      c.probe-x.result.0 c.probe-x.result.1 (string_bytes c.in_ok-format.field-0) c.columns.ensures.value c.rows.ensures.value c.layers.ensures.value c.if-i-columns.true c.if-j-rows.true
      c.if-k-layers.true c.centre.ensures c.probe-x.ensures.ray c.probe-x.ensures.ray_y (search rules);
  err = tt;
}
