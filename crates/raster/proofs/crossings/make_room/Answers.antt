use Rattle.std.proofs.Common.{◌≡◌, ◌+◌, ◌++◌, ◌∷◌, [], List, ap, length, length-append, subst, sym, ◌∙◌}
use Rattle.std.specs.Prelude.{All}
use Rattle.std.proofs.lemmas.List.Elements.{All-push}
use Rattle.raster.proofs.crossings.make_room.Goals as goal

-- a list that one more element is added to
module _ {X : Type 0} (old new : List X) (x : X) (pushed : new ≡ old ++ x ∷ []) where
  one-more : length new ≡ length old + 1
  one-more = ap (λ xs. length xs) pushed ∙ length-append old (x ∷ [])

  all-more : (P : X → Type 0) → All P old → P x → All P new
  all-more P h k = subst (All P) (sym pushed) (All-push P old x h k)

pub loop-row-preserved : goal.loop-row-preserved
loop-row-preserved g c =
    let pushed = c.in_ok-push.ensures.items in
    record {
      rows = one-more c.loop-row.rows.items c.push.new.self.items c.new.result pushed ∙ ap (λ n. n + 1) c.loop-row.invariant.rows;
      empty = all-more c.loop-row.rows.items c.push.new.self.items c.new.result pushed (λ row. row.items ≡ []) c.loop-row.invariant.empty c.new.ensures.items;
    }
