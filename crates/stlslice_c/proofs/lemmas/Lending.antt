-- What C gives at a pointer and a number is lent to a call as a slice, and comes back. Assumes `Logic`.
use Rattle.std.proofs.Common.{◌≡◌, ℕ, ◌<◌, ◌≤◌, ◌^◌, ◌*◌, ◌-◌, ◌/◌, List, [], ◌∷◌, length, ◌++◌, refl, sym, subst, ◌∙◌, ap, w64, arith}
use Rattle.std.proofs.Common.{◌⊎◌, inl, inr}
use Rattle.std.specs.Prelude.{Bool, true, false, nat_le, if◌then◌else◌}
use Rattle.std.proofs.lemmas.Bool.{leb-true}
use Rattle.std.proofs.lemmas.Nat.{mul-le}
use Rattle.std.proofs.Math.Nat.{div-le_self, div-mul-le_self}
use seplogic.Ra.Ura.{Ura}
use base.Fraction.{full_share}
use mir.Syntax.{named, ty_ptr}
use lib.Dec.{T, lit<}
use mir.Val.{Val, vint, has_ty, WT}
use base.Logic.{SProp, ent, sep, emp, via, fst∗, comm∗, emp∗, id⊢}
use base.Fml.{Fml, Lft, Share, Incl-refl, ftrue, feq, fhide, fsep, flft, flent}
use prog.Memory.{Memory}
use prog.Routine.{Routine}
use prog.Wp.{Calls}
use types.Logic.{Logic, sem}
use types.Kit.{Item, Goal, Soaks, Seq, Step, step, ‵, raw, ◌⊛◌, some, later, ◌$◌, ◌∵◌, !, qed, move, drop, use0, use1, use2, use3, split, join, pick, fsplit, fjoin, feq_l, feq_i, await, updating, now as at_once, done}
use types.SemTy.{cells}
use types.Share.{parts}
use contract.Monad.{Fun, fact, fact_i}
use sound.WpLaws.{FmC}
use denote.RattleType.{RattleType, RowLaws}
use denote.Laws.{Is, shows}
use denote.Memory.{mem, shares}
use denote.Plain.{uint_Makes}
use denote.Builtin.{usize}
use denote.Slice.{MutSlice, ShrSlice, slice_val, Room, elements_shared, elements_shr_laws, finally, shr_slice_at}
use denote.Shadow.{pure_i}
use denote.SharingLaws.{contraction}
use denote.Lend.{Held, lends_slice, lends_shr_slice, slice_back}
use denote.Copied.{Copied}
use denote.RawPtr.{Ptr, block_ptr, null_ptr, block_of, count_of, at_block, ptr_val, rawptr_vals, InBlock, Testable}
use types.Tokens.{lft_new, lft_end, lent_back}
use denote.Steps.{only, owned, peeks, heard, nothing}
use denote.Triple.Statement.{Contract, Triple}
use denote.Triple.Clauses.{lasts}
use denote.Triple.Spec.{triple_of}
use Rattle.stlslice_c.specs.Pointers.{count_at, lent, lent_shared, lent_to_read, seen_side_by_side, side_by_side, shared_side_by_side}
use Rattle.stlslice_c.specs.contracts.places.place_of as placing
use Rattle.stlslice_c.specs.contracts.places.Place.{the_row as Place}
use Rattle.stlslice_c.proofs.places.Place.TheLaws.{lowers}
use Rattle.stlslice_c.proofs.places.place_of.Symbol.{name as #place}

-- what is known of the machine value of the place of m values at p
pub record IsPlaced (m : ℕ) (p : Ptr) (v : Val) : Type 0 where
  pub block : ℕ
  pub offset : ℕ
  pub value : v ≡ lowers.lowered (record { at = block_ptr block offset; count = m })
  pub there : (m ≡ 0) ⊎ (block_ptr block offset ≡ p)

placed_by : (m size : ℕ) (p : Ptr) (n : ℕ) (r : Place.Denot) (v : Val) → m ≡ count_at size p n → v ≡ lowers.lowered r → InBlock r.at × (r.count ≡ count_at size p n) × ((r.count ≡ 0) ⊎ (r.at ≡ p)) → IsPlaced m p v
placed_by m size p n r v e is known =
    let c : r.count ≡ m = known.1 ∙ sym e in let q : r.at ≡ block_ptr (block_of r.at) (count_of r.at) = at_block r.at known.0 in
    record {
      block = block_of r.at;
      offset = count_of r.at;
      value = is ∙ ap (λ (t : Ptr). lowers.lowered (record { at = t; count = r.count })) q ∙ ap (λ (i : ℕ). lowers.lowered (record { at = block_ptr (block_of r.at) (count_of r.at); count = i })) c;
      there = by_there known.2 c q;
    }
  where
    by_there : {m : ℕ} {p : Ptr} {r : Place.Denot} → (r.count ≡ 0) ⊎ (r.at ≡ p) → r.count ≡ m → r.at ≡ block_ptr (block_of r.at) (count_of r.at) → (m ≡ 0) ⊎ (block_ptr (block_of r.at) (count_of r.at) ≡ p)
    by_there (inl none) c q = inl (sym c ∙ none)
    by_there (inr same) c q = inr (sym q ∙ same)

least : (size : ℕ) (p : Ptr) (n : ℕ) → count_at size p n ≤ (2 ^ 63 - 1) / size
least size null_ptr n = omega arith
least size (block_ptr b o) n = by_test (nat_le n ((2 ^ 63 - 1) / size)) refl
  where
    by_test : (t : Bool) → nat_le n ((2 ^ 63 - 1) / size) ≡ t → (if t then n else 0) ≤ (2 ^ 63 - 1) / size
    by_test true e = leb-true n ((2 ^ 63 - 1) / size) e
    by_test false e = omega arith

no_item : {X : Type 0} (x : X) (xs : List X) → length (x ∷ xs) ≡ 0 → ⊥
no_item x xs e = omega (arith, e)

module _ {M : Type 1} {𝓤 : Ura M} (𝓛 : Logic 𝓤) (at_mem : Memory → SProp 𝓤) (run : Routine → Fun 𝓤) (C : Calls 𝓤 𝓛.H) (fm : FmC 𝓤 𝓛.H 𝓛.laws C)
    (known : Triple 𝓤 (C #place) (triple_of 𝓛 placing.signature (placing.spec 𝓛 at_mem run))) where
  open 𝓛 use {H}

  abbrev G : Contract 𝓤
  G = triple_of 𝓛 placing.signature (placing.spec 𝓛 at_mem run)

  abbrev ghost : Ptr → ℕ → ℕ → G.Ghost
  ghost p n size = ((tt, tt, tt, (p, (n, (size, tt))), (rawptr_vals p, (vint w64 n ∷ [], (vint w64 size ∷ [], tt)))), tt)

  asks : (p : Ptr) (n size : ℕ) → Testable p → 0 < size → n < 2 ^ 64 → size < 2 ^ 64 → ent 𝓤 (emp 𝓤) (G.pre (ghost p n size))
  asks p n size tests some-size low high =
      qed 𝓛 [] ∵ use0 𝓛 (raw (fact 𝓤 (Testable p × (0 < size)))) (fact_i 𝓤 (Testable p × (0 < size)) (emp 𝓤) (tests, some-size)) $
      nothing ! $ owned ! usize (Is usize) (uint_Makes 𝓛 w64) size _ (refl, high) $ fjoin ! $
      owned ! usize (Is usize) (uint_Makes 𝓛 w64) n _ (refl, low) $ fjoin ! $ feq_i ! (List Val) (rawptr_vals p) (rawptr_vals p) refl $ fjoin ! $
      nothing ! $ join ! $ join ! $ done !

  told : (m : ℕ) (p : Ptr) (n size : ℕ) (v : Val) → m ≡ count_at size p n → ent 𝓤 (G.post (ghost p n size) v) (H.⇛ (fact 𝓤 (IsPlaced m p v)))
  told m p n size v e =
      qed 𝓛 (raw (G.post (ghost p n size) v) ∷ []) ∵ updating ! $
      use1 𝓛 (later (some (λ (r : Place.Denot). (‵ ftrue ⊛ ‵ (Place.own_val r (v ∷ []))) ⊛ some (λ (ws : Unit {0} × (Unit {0} × (Unit {0} × Unit {0}))). ‵ (lasts placing.ended tt (p, (n, (size, tt))) ws) ⊛
      raw (fact 𝓤 (InBlock r.at × (r.count ≡ count_at size p n) × ((r.count ≡ 0) ⊎ (r.at ≡ p)))))))) (id⊢ 𝓤 _) $
      await ! tt $ pick ! (λ r. split ! $ split ! $ drop ! $ move ! (1 ∷ []) $ pick ! (λ ws. split ! $ drop ! $ heard ! _ (λ facts.
      peeks ! Place (Is Place) (shows 𝓛 Place) r (v ∷ []) (λ is. drop ! $ at_once ! $
      use0 𝓛 (raw (fact 𝓤 (IsPlaced m p v))) (fact_i 𝓤 (IsPlaced m p v) (emp 𝓤) (placed_by m size p n r v e (ap only (lowers.val_is r (v ∷ []) is)) facts)) $ done !))))

  -- a call of `place_of`, with what it tells
  pub placed : (m : ℕ) (p : Ptr) (n size : ℕ) → m ≡ count_at size p n → Testable p → 0 < size → n < 2 ^ 64 → size < 2 ^ 64
      → ent 𝓤 (sem 𝓛 ftrue) (C #place (ptr_val p ∷ vint w64 n ∷ vint w64 size ∷ []) (λ v. H.⇛ (fact 𝓤 (IsPlaced m p v))))
  placed m p n size e tests some-size low high =
      let y : G.Ghost = ghost p n size in let K : SProp 𝓤 = C #place (G.args y) (G.post y) in
      via 𝓤 (sep 𝓤 K (emp 𝓤)) (via 𝓤 (sep 𝓤 (emp 𝓤) K) (via 𝓤 K (via 𝓤 (G.pre y) (asks p n size tests some-size low high) (known y)) (emp∗ 𝓤 K)) (comm∗ 𝓤 (emp 𝓤) K))
      (fm #place (G.args y) (G.post y) (λ v. H.⇛ (fact 𝓤 (IsPlaced m p v))) (emp 𝓤) (λ v. via 𝓤 (G.post y v) (fst∗ 𝓤 (G.post y v) (emp 𝓤)) (told m p n size v e)))

-- what lies at a pointer lies at another, if that is the same or there is nothing
side : {M : Type 1} {𝓤 : Ura M} (𝓛 : Logic 𝓤) (R : RattleType) (p q : Ptr) (xs : List R.Denot) → (length xs ≡ 0) ⊎ (q ≡ p) → ent 𝓤 (sem 𝓛 (side_by_side R p xs)) (sem 𝓛 (side_by_side R q xs))
side {𝓤 = 𝓤} 𝓛 R p q xs (inr e) = subst (λ (t : Ptr). ent 𝓤 (sem 𝓛 (side_by_side R p xs)) (sem 𝓛 (side_by_side R t xs))) (sym e) (id⊢ 𝓤 _)
side 𝓛 R p null_ptr xs (inl e) = qed 𝓛 (‵ (side_by_side R p xs) ∷ []) ∵ drop ! $ nothing ! $ done !
side 𝓛 R p (block_ptr b o) [] (inl e) = qed 𝓛 (‵ (side_by_side R p []) ∷ []) ∵ drop ! $ nothing ! $ done !
side 𝓛 R p (block_ptr b o) (x ∷ xs) (inl e) = absurd (no_item x xs e)

flips : {m : ℕ} {p q : Ptr} → (m ≡ 0) ⊎ (q ≡ p) → (m ≡ 0) ⊎ (p ≡ q)
flips (inl e) = inl e
flips (inr e) = inr (sym e)

-- the same of a share
shared_side : {M : Type 1} {𝓤 : Ura M} (𝓛 : Logic 𝓤) (R : RattleType) (s : Share) (p q : Ptr) (xs : List R.Denot) → (length xs ≡ 0) ⊎ (q ≡ p) → ent 𝓤 (sem 𝓛 (shared_side_by_side R s p xs)) (sem 𝓛 (shared_side_by_side R s q xs))
shared_side {𝓤 = 𝓤} 𝓛 R s p q xs (inr e) = subst (λ (t : Ptr). ent 𝓤 (sem 𝓛 (shared_side_by_side R s p xs)) (sem 𝓛 (shared_side_by_side R s t xs))) (sym e) (id⊢ 𝓤 _)
shared_side 𝓛 R s p null_ptr xs (inl e) = qed 𝓛 (‵ (shared_side_by_side R s p xs) ∷ []) ∵ drop ! $ nothing ! $ done !
shared_side 𝓛 R s p (block_ptr b o) [] (inl e) = qed 𝓛 (‵ (shared_side_by_side R s p []) ∷ []) ∵ drop ! $ nothing ! $ done !
shared_side 𝓛 R s p (block_ptr b o) (x ∷ xs) (inl e) = absurd (no_item x xs e)

-- what a `&` has can be had twice, and stays at another pointer likewise
module _ {M : Type 1} {𝓤 : Ura M} (𝓛 : Logic 𝓤) (R : RattleType) (laws : RowLaws R) (κ : Lft) where
  pub seen_twice : (p : Ptr) (xs : List R.Denot)
      → ent 𝓤 (sem 𝓛 (seen_side_by_side R κ p xs)) (sep 𝓤 (sem 𝓛 (seen_side_by_side R κ p xs)) (sem 𝓛 (seen_side_by_side R κ p xs)))
  seen_twice (block_ptr b o) xs = contraction 𝓛 (elements_shared R xs b o) (elements_shr_laws R laws xs b o) κ
  seen_twice null_ptr xs = qed 𝓛 (‵ ftrue ∷ []) ∵ nothing ! $ done !

  seen_side : (p q : Ptr) (xs : List R.Denot) → (length xs ≡ 0) ⊎ (q ≡ p) → ent 𝓤 (sem 𝓛 (seen_side_by_side R κ p xs)) (sem 𝓛 (seen_side_by_side R κ q xs))
  seen_side p q xs (inr e) = subst (λ (t : Ptr). ent 𝓤 (sem 𝓛 (seen_side_by_side R κ p xs)) (sem 𝓛 (seen_side_by_side R κ t xs))) (sym e) (id⊢ 𝓤 _)
  seen_side p null_ptr xs (inl e) = qed 𝓛 (‵ (seen_side_by_side R κ p xs) ∷ []) ∵ drop ! $ nothing ! $ done !
  seen_side p (block_ptr b o) [] (inl e) = qed 𝓛 (‵ (seen_side_by_side R κ p []) ∷ []) ∵ drop ! $ nothing ! $ done !
  seen_side p (block_ptr b o) (x ∷ xs) (inl e) = absurd (no_item x xs e)

-- the values at a pointer have room, whatever number C tells
pub rooms : (R : RattleType) (m : ℕ) (p : Ptr) (n : ℕ) → m ≡ count_at (mem R).size p n → Room R m
rooms R m p n e =
    let size : ℕ = (mem R).size in
    let low : m ≤ (2 ^ 63 - 1) / size = subst (λ (i : ℕ). i ≤ (2 ^ 63 - 1) / size) (sym e) (least size p n) in
    let all : m * size ≤ (2 ^ 63 - 1) / size * size = mul-le m size ((2 ^ 63 - 1) / size) size low (omega arith) in
    (omega (arith, low, div-le_self (2 ^ 63 - 1) size), omega (arith, all, div-mul-le_self (2 ^ 63 - 1) size))

module _ {M : Type 1} {𝓤 : Ura M} {𝓛 : Logic 𝓤} {K : Type 0} {Γ : List (Item 𝓤)} {G : Goal 𝓤 𝓛.H} where
  pub tells : K → Soaks G → (m : ℕ) (p : Ptr) (v : Val) → (IsPlaced m p v → Seq K 𝓛 Γ G) → Seq K 𝓛 (raw (𝓛.H.⇛ (fact 𝓤 (IsPlaced m p v))) ∷ Γ) G
  tells t z m p v k = use1 𝓛 (later (raw (fact 𝓤 (IsPlaced m p v)))) (id⊢ 𝓤 _) $ await t z $ heard t _ k

  -- the values at p are lent for a new lifetime, as a slice
  pub lends : K → Soaks G → (R : RattleType) (p : Ptr) (xs : List R.Denot) {v : Val} (it : IsPlaced (length xs) p v) → Room R (length xs)
      → ((α γ : ℕ) → Seq K 𝓛 (‵ ((MutSlice (named 0) (α ∷ []) R).own_val (record { ref_ptr = (it.block, it.offset); ghost_name = γ; now = xs }) (slice_val (it.block, it.offset) (length xs) ∷ []))
      ∷ ‵ (flent (α ∷ []) (Held R (length xs) it.block it.offset γ)) ∷ ‵ (flft (α ∷ []) full_share) ∷ Γ) G)
      → Seq K 𝓛 (‵ (side_by_side R p xs) ∷ Γ) G
  lends t z R p xs it room k =
      let b = it.block in let o = it.offset in
      use1 𝓛 (‵ (cells (mem R) xs b o)) (side 𝓛 R p (block_ptr b o) xs it.there) $ lft_new t z (λ α. move t (1 ∷ []) $
      use1 𝓛 (later (some (λ (γ : ℕ). ‵ ((MutSlice (named 0) (α ∷ []) R).own_val (record { ref_ptr = (b, o); ghost_name = γ; now = xs }) (slice_val (b, o) (length xs) ∷ [])) ⊛ ‵ (flent (α ∷ []) (Held R (length xs) b o γ)))))
      (lends_slice 𝓛 R (named 0) (α ∷ []) xs b o room) $ await t z $ pick t (λ γ. split t $ k α γ))

  -- and what lies there at the end comes back
  pub comes : K → Soaks G → (R : RattleType) (p : Ptr) (n : ℕ) (m : ℕ) (ys : List R.Denot) {v : Val} (it : IsPlaced m p v) → m ≡ count_at (mem R).size p n → {α γ : ℕ}
      → Step K 𝓛 (‵ (lent R p n ys) ∷ Γ) G (‵ (flft (α ∷ []) full_share) ∷ ‵ (flent (α ∷ []) (Held R m it.block it.offset γ)) ∷ ‵ (finally R γ ys) ∷ Γ) G
  comes t z R p n m ys it e {α} {γ} = step (λ s. let b = it.block in let o = it.offset in
      lft_end t z $ use3 𝓛 (later (‵ (fsep (feq ℕ (length ys) m) (cells (mem R) ys b o)))) (slice_back 𝓛 R (α ∷ []) γ ys m b o) $ await t z $ fsplit t $ feq_l t (λ l.
      use1 𝓛 (‵ (side_by_side R p ys)) (side 𝓛 R (block_ptr b o) p ys (flips (subst (λ (i : ℕ). (i ≡ 0) ⊎ (block_ptr b o ≡ p)) (sym l) it.there))) $
      feq_i t ℕ (length ys) (count_at (mem R).size p n) (l ∙ e) $ fjoin t $ s))

  -- a share of the values at p is lent for a new lifetime, as a shared slice
  pub shares_out : K → Soaks G → (R : RattleType) → Copied 𝓛 R → (q : Share) (p : Ptr) (xs : List R.Denot) {v : Val} (it : IsPlaced (length xs) p v) → Room R (length xs)
      → ((α : ℕ) → Seq K 𝓛 (‵ ((ShrSlice (named 0) (α ∷ []) R).own_val (record { ref_ptr = (it.block, it.offset); now = xs }) (slice_val (it.block, it.offset) (length xs) ∷ []))
      ∷ ‵ (flent (α ∷ []) (fsep (feq ℕ (length xs) (length xs)) (parts (mem R) (shares R) q xs it.block it.offset))) ∷ ‵ (flft (α ∷ []) full_share) ∷ Γ) G)
      → Seq K 𝓛 (‵ (shared_side_by_side R q p xs) ∷ Γ) G
  shares_out t z R copied q p xs it room k =
      let b = it.block in let o = it.offset in let Counted : Fml = fsep (feq ℕ (length xs) (length xs)) (parts (mem R) (shares R) q xs b o) in
      use1 𝓛 (‵ (parts (mem R) (shares R) q xs b o)) (shared_side 𝓛 R q p (block_ptr b o) xs it.there) $ feq_i t ℕ (length xs) (length xs) refl $ fjoin t $ lft_new t z (λ α. let κ : Lft = α ∷ [] in move t (1 ∷ 0 ∷ []) $
      use2 𝓛 (later ((‵ ((ShrSlice (named 0) κ R).own_val (record { ref_ptr = (b, o); now = xs }) (slice_val (b, o) (length xs) ∷ [])) ⊛ ‵ (flent κ Counted)) ⊛ ‵ (flft κ full_share)))
      (lends_shr_slice 𝓛 R (named 0) κ q xs b o room κ (copied.shares q κ) ((κ, full_share) ∷ []) (Incl-refl κ) (Incl-refl κ)) $ await t z $ split t $ split t $ k α)

  pub comes_back : K → Soaks G → (R : RattleType) (q : Share) (p : Ptr) (n : ℕ) (xs : List R.Denot) {v : Val} (it : IsPlaced (length xs) p v) → length xs ≡ count_at (mem R).size p n → {α : ℕ}
      → Step K 𝓛 (‵ (lent_shared R q p n xs) ∷ Γ) G (‵ (flft (α ∷ []) full_share) ∷ ‵ (flent (α ∷ []) (fsep (feq ℕ (length xs) (length xs)) (parts (mem R) (shares R) q xs it.block it.offset))) ∷ Γ) G
  comes_back t z R q p n xs it e {α} = step (λ s. let b = it.block in let o = it.offset in
      lft_end t z $ lent_back t z $ fsplit t $ drop t $ use1 𝓛 (‵ (shared_side_by_side R q p xs)) (shared_side 𝓛 R q (block_ptr b o) p xs (flips it.there)) $
      feq_i t ℕ (length xs) (count_at (mem R).size p n) e $ fjoin t $ s)

  -- what C lends to be read is a shared slice, and stays
  pub reads : K → (R : RattleType) → RowLaws R → (κ : Lft) (p : Ptr) (xs : List R.Denot) {v : Val} (it : IsPlaced (length xs) p v) → Room R (length xs)
      → Step K 𝓛 (‵ ((ShrSlice (named 0) κ R).own_val (record { ref_ptr = (it.block, it.offset); now = xs }) (slice_val (it.block, it.offset) (length xs) ∷ []))
      ∷ ‵ (seen_side_by_side R κ p xs) ∷ Γ) G (‵ (seen_side_by_side R κ p xs) ∷ Γ) G
  reads t R laws κ p xs it room = step (λ s. let b = it.block in let o = it.offset in
      use1 𝓛 (‵ (seen_side_by_side R κ p xs) ⊛ ‵ (seen_side_by_side R κ p xs)) (seen_twice 𝓛 R laws κ p xs) $ split t $
      use1 𝓛 (‵ (fhide (elements_shared R xs b o κ))) (seen_side 𝓛 R laws κ p (block_ptr b o) xs it.there) $
      pure_i t (shr_slice_at R (record { ref_ptr = (b, o); now = xs }) (slice_val (b, o) (length xs) ∷ [])) (tt, (tt, tt)) (refl, room) $ fjoin t $ s)

  pub read_back : K → (R : RattleType) (loan : Lft × Share) (p : Ptr) (n : ℕ) (xs : List R.Denot) → length xs ≡ count_at (mem R).size p n
      → Step K 𝓛 (‵ (lent_to_read R loan p n xs) ∷ Γ) G (‵ (seen_side_by_side R loan.0 p xs) ∷ ‵ (flft loan.0 loan.1) ∷ Γ) G
  read_back t R loan p n xs e = step (λ s. fjoin t $ feq_i t ℕ (length xs) (count_at (mem R).size p n) e $ fjoin t $ s)

pub joined : {xs xs' ys ys' : List Val} → xs ≡ xs' → ys ≡ ys' → xs ++ ys ≡ xs' ++ ys'
joined {xs} {xs'} {ys} {ys'} e f = ap (λ (us : List Val). us ++ ys) e ∙ ap (λ (us : List Val). xs' ++ us) f

pub ptr_good : (p : Ptr) → T (has_ty ty_ptr (ptr_val p)) × WT (ptr_val p)
ptr_good (block_ptr b o) = (tt, tt)
ptr_good null_ptr = (tt, record { fits = lit< tt })
