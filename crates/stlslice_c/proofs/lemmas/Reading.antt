-- What C holds of values can be lent to calls that only read, to any number of them at the same time, and comes back as it was.
-- No call needs this: it shows that `lent_to_read` can be had. Assumes `Logic`.
use Rattle.std.proofs.Common.{◌≡◌, ℕ, ◌+◌, List, [], ◌∷◌, length, refl, ap}
use seplogic.Ra.Ura.{Ura}
use base.Fraction.{full_share, left, right}
use base.Logic.{ent, sep, ex}
use base.Fml.{Fml, Lft, Share, Incl, Incl-refl, ftrue, fhide, fsep, fbor, flft, flent}
use ghost.Rules.{Toks}
use types.Logic.{Logic, sem}
use types.Kit.{‵, ◌⊛◌, later, ◌$◌, ◌∵◌, !, qed, move, drop, use1, use2, split, join, fsplit, fjoin, feq_l, feq_i, show, await, rewrite, updating, now as at_once, done}
use types.SemTy.{cells}
use types.Share.{parts}
use types.Tokens.{lft_new, lft_end, lent_back, bor_new}
use denote.RattleType.{RattleType}
use denote.Memory.{mem, shares, shared_of, part_at}
use denote.RawPtr.{Ptr, block_ptr, null_ptr}
use denote.Shares.{shares_each_from}
use denote.Slice.{elements_shared}
use denote.Steps.{nothing}
use denote.Param.Laws.{Laws}
use Rattle.stlslice_c.specs.Pointers.{count_at, lent, lent_to_read, seen_side_by_side, side_by_side}
use Rattle.stlslice_c.proofs.lemmas.Lending.{seen_twice}

module _ (R : RattleType) where
  as_parts : (xs : List R.Denot) (b o : ℕ) → cells (mem R) xs b o ≡ parts (mem R) (shares R) full_share xs b o
  as_parts [] b o = refl
  as_parts (x ∷ xs) b o = ap (λ (F : Fml). fsep (part_at R full_share x b o) F) (as_parts xs b (o + (mem R).size))

module _ {M : Type 1} {𝓤 : Ura M} (𝓛 : Logic 𝓤) (R : RattleType) (laws : Laws R) (p : Ptr) (n : ℕ) (xs : List R.Denot) where
  open 𝓛 use {H}

  abbrev Read : Lft × Share → Fml
  Read loan = lent_to_read R loan p n xs

  -- two calls have what one has, each with a share of the lifetime
  pub read_by_two : (κ : Lft) (q : Share) → ent 𝓤 (sem 𝓛 (Read (κ, q))) (sep 𝓤 (sem 𝓛 (Read (κ, left q))) (sem 𝓛 (Read (κ, right q))))
  read_by_two κ q = let Seen = seen_side_by_side R κ p xs in
      qed 𝓛 (‵ (Read (κ, q)) ∷ []) ∵ fsplit ! $ feq_l ! (λ e. fsplit ! $
      use1 𝓛 (‵ Seen ⊛ ‵ Seen) (seen_twice 𝓛 R laws.shr_laws κ p xs) $ split ! $ move ! (2 ∷ []) $
      use1 𝓛 (‵ (flft κ (left q)) ⊛ ‵ (flft κ (right q))) (𝓛.lfts.lft_split κ q) $ split ! $
      move ! (3 ∷ 1 ∷ []) $ fjoin ! $ feq_i ! ℕ (length xs) (count_at (mem R).size p n) e $ fjoin ! $
      move ! (2 ∷ 1 ∷ []) $ fjoin ! $ feq_i ! ℕ (length xs) (count_at (mem R).size p n) e $ fjoin ! $ done !)

  -- and give it back
  pub read_by_one : (κ : Lft) (q : Share) → ent 𝓤 (sep 𝓤 (sem 𝓛 (Read (κ, left q))) (sem 𝓛 (Read (κ, right q)))) (sem 𝓛 (Read (κ, q)))
  read_by_one κ q =
      qed 𝓛 (‵ (Read (κ, left q)) ∷ ‵ (Read (κ, right q)) ∷ []) ∵ fsplit ! $ feq_l ! (λ e. fsplit ! $ move ! (2 ∷ []) $ fsplit ! $ feq_l ! (λ f. fsplit ! $ drop ! $
      move ! (2 ∷ 0 ∷ []) $ use2 𝓛 (‵ (flft κ q)) (𝓛.lfts.lft_join κ q) $ move ! (1 ∷ 0 ∷ []) $ fjoin ! $ feq_i ! ℕ (length xs) (count_at (mem R).size p n) e $ fjoin ! $ done !))

  module _ (within : (κ : Lft) → Incl κ R.lives) where
    seen_from : (α : ℕ) (q : Ptr) → ent 𝓤 (sep 𝓤 (sem 𝓛 (side_by_side R q xs)) (sem 𝓛 (flft (α ∷ []) full_share)))
        (H.⇛ (sep 𝓤 (sep 𝓤 (sem 𝓛 (seen_side_by_side R (α ∷ []) q xs)) (sem 𝓛 (flft (α ∷ []) full_share))) (sem 𝓛 (flent (α ∷ []) (side_by_side R q xs)))))
    seen_from α (block_ptr b o) = let κ : Lft = α ∷ [] in let ts : Toks = (κ, full_share) ∷ [] in
        qed 𝓛 (‵ (cells (mem R) xs b o) ∷ ‵ (flft κ full_share) ∷ []) ∵ updating ! $ bor_new ! tt κ $ move ! (0 ∷ 2 ∷ []) $
        rewrite ! 0 (λ (F : Fml). ‵ (fbor κ F)) (as_parts R xs b o) refl $
        use2 𝓛 (later (‵ (fhide (elements_shared R xs b o κ)) ⊛ ‵ (flft κ full_share)))
        (shares_each_from 𝓛 full_share R (shared_of R) R.lives (laws.shares 𝓛) xs κ ts b o (within κ) (Incl-refl κ)) $ await ! tt $ at_once ! $ done !
    seen_from α null_ptr = let κ : Lft = α ∷ [] in
        qed 𝓛 (‵ ftrue ∷ ‵ (flft κ full_share) ∷ []) ∵ updating ! $ bor_new ! tt κ $ drop ! $ at_once ! $ nothing ! $ move ! (0 ∷ 2 ∷ []) $ join ! $ done !

    -- what C holds is lent to one call, and so to any number
    pub begins : ent 𝓤 (sem 𝓛 (lent R p n xs)) (H.⇛ (ex 𝓤 (λ (α : ℕ). sep 𝓤 (sem 𝓛 (Read (α ∷ [], full_share))) (sem 𝓛 (flent (α ∷ []) (side_by_side R p xs))))))
    begins = let Seen = λ (α : ℕ). seen_side_by_side R (α ∷ []) p xs in
        qed 𝓛 (‵ (lent R p n xs) ∷ []) ∵ updating ! $ fsplit ! $ feq_l ! (λ e. lft_new ! tt (λ α. move ! (1 ∷ []) $
        use2 𝓛 (later ((‵ (Seen α) ⊛ ‵ (flft (α ∷ []) full_share)) ⊛ ‵ (flent (α ∷ []) (side_by_side R p xs)))) (seen_from α p) $ await ! tt $ split ! $ split ! $
        at_once ! $ fjoin ! $ feq_i ! ℕ (length xs) (count_at (mem R).size p n) e $ fjoin ! $
        show ! (λ (β : ℕ). sep 𝓤 (sem 𝓛 (Read (β ∷ [], full_share))) (sem 𝓛 (flent (β ∷ []) (side_by_side R p xs)))) α $ done !))

    -- it comes back once the one call has it all again
    pub ends : (α : ℕ) → ent 𝓤 (sep 𝓤 (sem 𝓛 (Read (α ∷ [], full_share))) (sem 𝓛 (flent (α ∷ []) (side_by_side R p xs)))) (H.⇛ (sem 𝓛 (lent R p n xs)))
    ends α = qed 𝓛 (‵ (Read (α ∷ [], full_share)) ∷ ‵ (flent (α ∷ []) (side_by_side R p xs)) ∷ []) ∵ updating ! $ fsplit ! $ feq_l ! (λ e. fsplit ! $ drop ! $
        lft_end ! tt $ lent_back ! tt $ at_once ! $ feq_i ! ℕ (length xs) (count_at (mem R).size p n) e $ fjoin ! $ done !)
