use Rattle.std.proofs.Common.{◌≤◌, ◌+◌, List, ap, arith, length, ◌∙◌, ℕ}
use Rattle.raster.specs.declared.pbm.chunk.TheConstants.{CHUNK_LEN}
use Rattle.raster.proofs.lemmas.DrawnRoom.{fits-after, length-drawn, length-free, take-drawn, zero-drawn}
use Rattle.raster.proofs.pbm.chunk.Chunk.push_all.Goals as goal

pub copy_from_slice-requires : goal.copy_from_slice-requires
copy_from_slice-requires c =
    let room = c.self.inside.bytes in
    let n = c.self.inside.filled in
    let m = length c.args.text.now in
    length-free room n m (fits-after room c.args.self.now n m CHUNK_LEN c.self.view_is (omega (arith, c.self.invariant.0, c.self.told)) c.self.told c.requires)

pub invariant_of-self : goal.invariant_of-self
invariant_of-self c =
    let room = c.self.inside.bytes in
    let n = c.self.inside.filled in
    let m = length c.args.text.now in
    let part = c.copy_from_slice.new.self in
    let size = ap (λ (l : List ℕ). length l) c.copy_from_slice.ensures.after in
    let inside : n + m ≤ length room = fits-after room c.args.self.now n m CHUNK_LEN c.self.view_is (omega (arith, c.self.invariant.0, c.self.told)) c.self.told c.requires in
    (omega (arith, inside, c.self.told), length-drawn room n m part inside size ∙ c.self.told, zero-drawn room n m part inside size c.self.invariant.2)

pub returns : goal.returns
returns c =
    let room = c.self.inside.bytes in
    let n = c.self.inside.filled in
    let m = length c.args.text.now in
    let size = ap (λ (l : List ℕ). length l) c.copy_from_slice.ensures.after in
    let inside : n + m ≤ length room = fits-after room c.args.self.now n m CHUNK_LEN c.self.view_is (omega (arith, c.self.invariant.0, c.self.told)) c.self.told c.requires in
    take-drawn room n m c.copy_from_slice.new.self c.args.self.now c.args.text.now inside size c.self.view_is c.copy_from_slice.ensures.after
