use Rattle.std.proofs.Common.{◌≤◌, ◌<◌, ◌∙◌, ◌++◌, List, ℕ, ap, arith, length}
use Rattle.build_book.specs.Job.{Job}
use Rattle.layer_png.specs.Depth.{bits}
use Rattle.layer_png.specs.Text.{most_png_bytes}
use Rattle.stlslice.proofs.lemmas.Pngs.{png_there, room_at}
use Rattle.stlslice.proofs.lemmas.Stream.{layer_among, layer_at}
use Rattle.stlslice.proofs.write.png_pages.PngsDrawingVecU8.add.Goals as goal

pub add_png-requires-clause-form : goal.add_png-requires-clause-form
add_png-requires-clause-form g c =
    let job : Job = c.args.self.now.build.now.job in
    let all = c.layers-layers.ensures in
    let there : c.args.k < length c.layers-layers.result.now =
    layer_among job c.args.self.now.build.now.layers c.layers-layers.result.now c.args.k job.grid.layers all.value all.complete c.requires.within (omega arith) in
    rw (c.grid-grid.ensures, c.job.ensures, c.spans.ensures)
    (layer_at job c.layers-layers.result.now c.args.k c.index-layers-k.result (rw all.value all.complete) there c.index-layers-k.is).spans

pub add_png-requires-clause-room : goal.add_png-requires-clause-room
add_png-requires-clause-room g c =
    let it = c.args.self.now in
    let job : Job = it.build.now.job in
    let all = c.layers-layers.ensures in
    let there : c.args.k < length c.layers-layers.result.now =
    layer_among job it.build.now.layers c.layers-layers.result.now c.args.k job.grid.layers all.value all.complete c.requires.within (omega arith) in
    let small : most_png_bytes (bits it.depth) c.grid-grid.result.now.columns c.grid-grid.result.now.rows (length c.spans.result.now) ≤ it.size =
    room_at job.grid c.grid-grid.result.now it.depth it.build.now.layers c.layers-layers.result.now c.args.k c.index-layers-k.result
    c.spans.result.now it.size (c.grid-grid.ensures ∙ ap (λ (j : Job). j.grid) c.job.ensures) all.value c.spans.ensures there c.index-layers-k.is it.each in
    rw c.replace-bytes.ensures.value (omega (arith, small, c.requires.room, c.args.page.now.ok))

pub returns-clause-added : goal.returns-clause-added
returns-clause-added g c =
    let it = c.args.self.now in
    let job : Job = it.build.now.job in
    let all = c.layers-layers.ensures in
    let there : c.args.k < length c.layers-layers.result.now =
    layer_among job it.build.now.layers c.layers-layers.result.now c.args.k job.grid.layers all.value all.complete c.requires.within (omega arith) in
    rw c.replace-bytes.ensures.value at c.add_png.ensures.text
    ∙ ap (λ (l : List ℕ). c.args.page.now.items ++ l)
    (png_there job c.job.result.now c.grid-grid.result.now c.spans.result.now it.build.now.layers c.layers-layers.result.now c.args.k
    c.index-layers-k.result it.depth it.mirrors c.job.ensures c.grid-grid.ensures c.spans.ensures all.value all.complete there c.index-layers-k.is)

pub returns-clause-most : goal.returns-clause-most
returns-clause-most g c =
    let it = c.args.self.now in
    let job : Job = it.build.now.job in
    let all = c.layers-layers.ensures in
    let there : c.args.k < length c.layers-layers.result.now =
    layer_among job it.build.now.layers c.layers-layers.result.now c.args.k job.grid.layers all.value all.complete c.requires.within (omega arith) in
    let small : most_png_bytes (bits it.depth) c.grid-grid.result.now.columns c.grid-grid.result.now.rows (length c.spans.result.now) ≤ it.size =
    room_at job.grid c.grid-grid.result.now it.depth it.build.now.layers c.layers-layers.result.now c.args.k c.index-layers-k.result
    c.spans.result.now it.size (c.grid-grid.ensures ∙ ap (λ (j : Job). j.grid) c.job.ensures) all.value c.spans.ensures there c.index-layers-k.is it.each in
    omega (arith, small, rw c.replace-bytes.ensures.value at c.add_png.ensures.most, c.args.page.now.ok, c.add_png.result.ok)
