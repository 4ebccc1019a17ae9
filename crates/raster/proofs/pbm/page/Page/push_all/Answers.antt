use Rattle.std.proofs.Common.{◌≡◌, ◌≤◌, ◌+◌, ◌-◌, ◌∙◌, ℕ, List, ap, arith, drop, get_or, length, subst, sym, take}
use Rattle.raster.proofs.lemmas.DrawnRoom.{drawn-back, fits-after, length-drawn, length-free, take-drawn, zero-drawn}
use Rattle.raster.proofs.pbm.page.Page.push_all.Goals as goal

pub copy_from_slice-requires : goal.copy_from_slice-requires
copy_from_slice-requires g c =
    let room = c.self.inside.room in
    let n = c.self.inside.filled in
    let m = length c.args.text.now in
    let inside : n + m ≤ length room.items = fits-after room.items c.args.self.now.bytes n m c.args.self.now.room (ap (λ p. p.bytes) c.self.view_is) c.self.invariant.0 (ap (λ p. p.room) c.self.view_is)
    c.requires in
    ap (λ (l : List ℕ). length (take (n + m - n) (drop n l))) c.deref_mut.ensures.value ∙ length-free room.items n m inside

pub invariant_of-self : goal.invariant_of-self
invariant_of-self g c =
    let room = c.self.inside.room in
    let n = c.self.inside.filled in
    let m = length c.args.text.now in
    let inside : n + m ≤ length room.items = fits-after room.items c.args.self.now.bytes n m c.args.self.now.room (ap (λ p. p.bytes) c.self.view_is) c.self.invariant.0 (ap (λ p. p.room) c.self.view_is)
    c.requires in
    let part = c.copy_from_slice.new.self in
    let size : length part ≡ m = ap (λ (l : List ℕ). length l) c.copy_from_slice.ensures.after in
    let back = drawn-back room c.deref_mut.result.now n m part c.deref_mut.ensures.value inside size in (
      subst (λ (l : List ℕ). n + m ≤ length l) (sym back) (omega (arith, inside, length-drawn room.items n m part inside size)),
      λ k high. ap (λ (l : List ℕ). get_or l k 0) back ∙ zero-drawn room.items n m part inside size c.self.invariant.1 k high,
    )

pub returns-clause-added : goal.returns-clause-added
returns-clause-added g c =
    let room = c.self.inside.room in
    let n = c.self.inside.filled in
    let m = length c.args.text.now in
    let inside : n + m ≤ length room.items = fits-after room.items c.args.self.now.bytes n m c.args.self.now.room (ap (λ p. p.bytes) c.self.view_is) c.self.invariant.0 (ap (λ p. p.room) c.self.view_is)
    c.requires in
    let part = c.copy_from_slice.new.self in
    let size : length part ≡ m = ap (λ (l : List ℕ). length l) c.copy_from_slice.ensures.after in
    let back = drawn-back room c.deref_mut.result.now n m part c.deref_mut.ensures.value inside size in
    ap (λ (l : List ℕ). take (n + m) l) back
    ∙ take-drawn room.items n m part c.args.self.now.bytes c.args.text.now inside size (ap (λ p. p.bytes) c.self.view_is) c.copy_from_slice.ensures.after

pub returns-clause-room : goal.returns-clause-room
returns-clause-room g c =
    let room = c.self.inside.room in
    let n = c.self.inside.filled in
    let m = length c.args.text.now in
    let inside : n + m ≤ length room.items = fits-after room.items c.args.self.now.bytes n m c.args.self.now.room (ap (λ p. p.bytes) c.self.view_is) c.self.invariant.0 (ap (λ p. p.room) c.self.view_is)
    c.requires in
    let part = c.copy_from_slice.new.self in
    let size : length part ≡ m = ap (λ (l : List ℕ). length l) c.copy_from_slice.ensures.after in
    let back = drawn-back room c.deref_mut.result.now n m part c.deref_mut.ensures.value inside size in
    ap (λ (l : List ℕ). length l) back ∙ length-drawn room.items n m part inside size ∙ ap (λ p. p.room) c.self.view_is
