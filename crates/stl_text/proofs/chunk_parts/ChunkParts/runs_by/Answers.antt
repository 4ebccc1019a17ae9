use Rattle.std.proofs.Common.{◌≡◌, ◌∙◌, Some, arith, refl, sym}
use Rattle.std.proofs.lemmas.List.Elements.{All-pop}
use Rattle.stl_text.proofs.chunk_parts.ChunkParts.runs_by.Goals as goal

pub add-init : goal.add-init
add-init g c = record { all = c.none-all.ensures; lists = c.in-Ok.ensures }

pub add-requires : goal.add-requires
add-requires g c =
    (All-pop (λ list. list ≡ c.args.self.now) c.add.lists.items c.pop.new.self.items (Some c.in-Some.list) c.in-Some.ensures.items c.add.invariant.lists).1
    ∙ sym c.add.invariant.all

pub add-preserved : goal.add-preserved
add-preserved g c = record {
  all = c.add-in-Some.ensures ∙ c.add.invariant.all;
  lists = (All-pop (λ list. list ≡ c.args.self.now) c.add.lists.items c.pop.new.self.items (Some c.in-Some.list) c.in-Some.ensures.items c.add.invariant.lists).0;
}

pub add-smaller : goal.add-smaller
add-smaller g c = omega (arith, c.in-Some.ensures.variant.0 refl, c.in-Some.ensures.len)

pub returns-in_default : goal.returns-in_default
returns-in_default g c = c.none-all.ensures

pub returns-in_default-pop : goal.returns-in_default-pop
returns-in_default-pop g c = c.add.invariant.all
