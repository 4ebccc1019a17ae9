use Rattle.std.proofs.Common.{◌≡◌, [], vec_len}
use Rattle.std.specs.List.{All}
use Rattle.stlslice.specs.Pages.{Holds}
use Rattle.stlslice.proofs.write.pages.blank_pages.Given as goal

abbrev pub invariant-loop : goal.invariant-loop
invariant-loop g l =
    let it = g.D.Drawing in
    record {
      count : vec_len l.pages ≡ l.counter;
      blank : All (λ page. it.bytes page ≡ []) l.pages.items;
      room : All (Holds it.capacity (it.per l.drawing) (it.size l.drawing)) l.pages.items;
    }
