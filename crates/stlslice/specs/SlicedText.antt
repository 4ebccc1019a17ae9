-- The outputs of slicing: the images of all layers, a report with a line for each, or PNGs of all.
use Rattle.std.specs.Prelude.{ℕ, Bool, List, ◌++◌, codes, decimal, flat_map, length, sum_by, if◌then◌else◌}
use Rattle.geometry.specs.Facet.{Facet}
use Rattle.plane_segments.specs.Segment.{segments}
use Rattle.contour.specs.Loops.{loops}
use Rattle.raster.specs.declared.rule.Rule.{Rule}
use Rattle.raster.specs.Filler.{area_of, below}
use Rattle.raster.specs.Grid.{Grid, plane}
use Rattle.raster.specs.Image.{images}
use Rattle.layer_png.specs.Text.{layer_png}
use Rattle.layer_png.specs.declared.depth.Depth.{Depth}
use Rattle.layer_png.specs.declared.mirrors.Mirrors.{Mirrors}
use Rattle.stlslice.specs.declared.write.Output.{Output}
use Rattle.stlslice.specs.declared.write.Output.TheVariants as output

-- the line of a layer in the report
abbrev pub line_of_layer : ℕ → ℕ → ℕ → List ℕ
line_of_layer number loops area =
    codes "layer " ++ (decimal number ++ (codes " loops " ++ (decimal loops ++ (codes " area " ++ (decimal area ++ codes "\n")))))

-- the line of layer k: how many loops its plane has, and how many of its voxels are filled
abbrev pub layer_line : Grid → Rule → List Facet → ℕ → List ℕ
layer_line g rule facets k = line_of_layer k (length (loops (segments facets (plane g k)))) (area_of g rule facets k)

-- the last line of the report
abbrev pub total_line : ℕ → List ℕ
total_line total = codes "total " ++ (decimal total ++ codes "\n")

-- the lines of all layers, from 0 up, and one on the filled voxels of all
abbrev pub report_text : Grid → Rule → List Facet → List ℕ
report_text g rule facets =
    flat_map (layer_line g rule facets) (below g.layers) ++ total_line (sum_by (area_of g rule facets) (below g.layers))

-- the PNGs of all layers, from 0 up
abbrev pub pngs : Grid → Rule → List Facet → Depth → Mirrors → List ℕ
pngs g rule facets depth mirrors = flat_map (layer_png g rule facets depth mirrors) (below g.layers)

-- what slicing writes: a report if the task asks for one, else the images
abbrev pub output_of : Bool → Output
output_of report = if report then output.Report else output.Images

-- each output of slicing
abbrev pub sliced_text : Output → Grid → Rule → List Facet → List ℕ
sliced_text output.Images g rule facets = images g rule facets
sliced_text output.Report g rule facets = report_text g rule facets
sliced_text (output.Pngs depth mirrors) g rule facets = pngs g rule facets depth mirrors
