use Rattle.std.proofs.Common.{◌≡◌, ◌≤◌, ◌*◌, ℕ, [], ◌∷◌, ◌++◌, arith, subst}
use Rattle.std.proofs.lemmas.List.Elements.{All-push, All-same}
use Rattle.stlslice.specs.Pages.{Holds}
use Rattle.stlslice.proofs.lemmas.Pages.{product-is}
use Rattle.stlslice.proofs.write.pages.blank_pages.Goals as goal

just_all : {len counter count : ℕ} → len ≡ counter → counter ≤ count → count ≤ counter → len ≡ count
just_all is low high = omega (arith, is, low, high)

pub loop-preserved : goal.loop-preserved
loop-preserved g c =
    let it = g.D.Drawing in
    let d = c.args.drawing.now in
    let fits = Holds it.capacity (it.per d) (it.size d) in
    let added = c.in_ok-push.ensures.items in
    let product : c.in_ok-room.room ≡ it.per d * it.size d =
    rw (← c.per.ensures.value, ← c.size.ensures)
    (product-is c.checked_mul.result c.in_ok-room.room c.per.result c.size.result c.in_ok-room.ensures.ok_part c.checked_mul.ensures) in
    let room : fits c.in_ok-page.page = subst (λ (n : ℕ). n ≤ it.capacity c.in_ok-page.page) product c.in_ok-page.ensures.room in
    record {
      count = omega (arith, c.in_ok-push.ensures.len, c.loop.invariant.count);
      blank = All-same (λ page. it.bytes page ≡ []) c.push.new.self.items (c.loop.pages.items ++ c.in_ok-page.page ∷ []) added
          (All-push (λ page. it.bytes page ≡ []) c.loop.pages.items c.in_ok-page.page c.loop.invariant.blank c.in_ok-page.ensures.blank);
      room = All-same fits c.push.new.self.items (c.loop.pages.items ++ c.in_ok-page.page ∷ []) added
          (All-push fits c.loop.pages.items c.in_ok-page.page c.loop.invariant.room room);
    }

pub returns-clause-count : goal.returns-clause-count
returns-clause-count g c = just_all c.loop.invariant.count c.loop.auto.counter-end c.loop-test.false
