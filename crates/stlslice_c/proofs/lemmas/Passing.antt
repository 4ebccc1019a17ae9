-- What an export passes on to the call within it: its numbers, and as slices the arrays that C lends. Assumes `Logic`.
use Rattle.std.proofs.Common.{◌≡◌, ℕ, suc, ◌<◌, ◌^◌, List, [], ◌∷◌, length, refl, sym, ap, subst, w32, zero, Bor, MutBor}
use lib.Dec.{T}
use seplogic.Ra.Ura.{Ura}
use base.Fraction.{full_share}
use base.Logic.{SProp, ent, sep, emp, via, id⊢, assoc∗, emp∗, mono_r, comm∗, snd∗}
use base.Fml.{Fml, Lft, Share, ftrue, feq, fsep, flft, flent, fat, froom}
use mir.Syntax.{Width, Ty, ty_int, Opd as Operand, copy, place, Callee, Place as Spot, Body, seq, call, return, named}
use mir.Val.{Val, vint, bits, has_ty, WT}
use prog.Wp.{Env, Calls, Loops, spot_of}
use sound.WpLaws.{FmC}
use types.Logic.{Logic, sem}
use types.Kit.{Item, Goal, Soaks, Seq, Step, step, Post, at_ret, prop, frees, runs, lands}
use types.Kit.{mean, nth, del, ‵, raw, ◌⊛◌, some, later, ◌$◌, move, drop, use1, split, join, pick, fsplit, fjoin, feq_l, feq_i, await}
use types.Run.{Opds, no_more, and_then, from, stop, init, land, returns}
use types.ByLocal.{at, cell, get, look_at, set}
use types.Share.{parts}
use contract.Lifetimes.{Lfts, Shares}
use contract.Monad.{fact}
use denote.RattleType.{RattleType, Denots, Valss, owns}
use denote.Copied.{Copied}
use denote.Exit.{Last, left, yes}
use denote.Laws.{Is, shows}
use denote.Lend.{Held}
use denote.Memory.{mem, shares}
use denote.Param.{layout}
use denote.Plain.{UInt, uint_Makes, uint_Lawful}
use denote.RawPtr.{Ptr}
use denote.Slice.{MutSlice, ShrSlice, slice_val}
use denote.Steps.{heard, nothing, owned, peeks}
use denote.Triple.Call.{calls_at}
use denote.Triple.Statement.{Contract, Triple}
use Rattle.stlslice_c.specs.Pointers.{count_at, lent, lent_shared, lent_to_read, seen_side_by_side}
use Rattle.stlslice_c.specs.contracts.handle.Handle.{the_row as handle_row}
use Rattle.stlslice_c.proofs.handle.Handle.TheLaws.{the_row_laws as handle_laws}
use Rattle.stlslice_c.proofs.lemmas.Values.{Z}
use Rattle.stlslice_c.proofs.lemmas.Lending.{IsPlaced, lends, comes, shares_out, comes_back, reads, read_back, rooms}

-- a parameter of an export
pub data Passed {M : Type 1} {𝓤 : Ura M} (𝓛 : Logic 𝓤) : Type 2 where
  allocator : Z.Denot → (h : Val) → T (has_ty (layout Z) h) × WT h → Passed 𝓛  -- the allocator
  number : (w : Width) (x : ℕ) → x < 2 ^ bits w → Passed 𝓛
  to_read : Lft × Share → Ptr → List handle_row.Denot → Passed 𝓛  -- a mesh that the call reads
  shared : (R : RattleType) → Copied 𝓛 R → Share → Ptr → ℕ → List R.Denot → Passed 𝓛  -- an array of which it has a share
  filled : (R : RattleType) → Ptr → ℕ → List R.Denot → Passed 𝓛  -- an array that it may change

-- where the values at p lie, as many as C tells
pub record Found (R : RattleType) (p : Ptr) (n : ℕ) (xs : List R.Denot) : Type 0 where
  pub value : Val
  pub at : IsPlaced (length xs) p value
  pub counted : length xs ≡ count_at (mem R).size p n

module _ {R : RattleType} {p : Ptr} {n : ℕ} {xs : List R.Denot} where
  -- these values as a slice: its machine value, what a `&` to it is, and what a `&mut` is
  abbrev pub as_slice : Found R p n xs → Val
  as_slice f = slice_val (f.at.block, f.at.offset) (length xs)

  abbrev pub shared_at : Found R p n xs → Bor (List R.Denot)
  shared_at f = record { ref_ptr = (f.at.block, f.at.offset); now = xs }

  abbrev pub filled_at : Found R p n xs → ℕ → MutBor (List R.Denot)
  filled_at f γ = record { ref_ptr = (f.at.block, f.at.offset); ghost_name = γ; now = xs }

-- all formulas of a list, as a contract states them
abbrev pub tight : List Fml → Fml
tight [] = ftrue
tight (P ∷ []) = P
tight (P ∷ Q ∷ Ps) = fsep P (tight (Q ∷ Ps))

-- and with `ftrue` at their end
abbrev pub loose : List Fml → Fml
loose [] = ftrue
loose (P ∷ Ps) = fsep P (loose Ps)

module _ {M : Type 1} {𝓤 : Ura M} {𝓛 : Logic 𝓤} where
  -- what is had of each parameter before the call
  abbrev pub arrays : List (Passed 𝓛) → List Fml
  arrays [] = []
  arrays (allocator a h fits ∷ ps) = Z.own_val a (h ∷ []) ∷ arrays ps
  arrays (number w x low ∷ ps) = arrays ps
  arrays (to_read loan p xs ∷ ps) = lent_to_read handle_row loan p 1 xs ∷ arrays ps
  arrays (shared R copied q p n xs ∷ ps) = lent_shared R q p n xs ∷ arrays ps
  arrays (filled R p n xs ∷ ps) = lent R p n xs ∷ arrays ps

  -- that each array has as many values as C tells
  abbrev pub Counts : List (Passed 𝓛) → Type 0
  Counts [] = Unit {0}
  Counts (allocator a h fits ∷ ps) = Counts ps
  Counts (number w x low ∷ ps) = Counts ps
  Counts (to_read loan p xs ∷ ps) = (length xs ≡ count_at (mem handle_row).size p 1) × Counts ps
  Counts (shared R copied q p n xs ∷ ps) = (length xs ≡ count_at (mem R).size p n) × Counts ps
  Counts (filled R p n xs ∷ ps) = (length xs ≡ count_at (mem R).size p n) × Counts ps

  -- where each array lies
  abbrev pub Places : List (Passed 𝓛) → Type 0
  Places [] = Unit {0}
  Places (allocator a h fits ∷ ps) = Places ps
  Places (number w x low ∷ ps) = Places ps
  Places (to_read loan p xs ∷ ps) = Found handle_row p 1 xs × Places ps
  Places (shared R copied q p n xs ∷ ps) = Found R p n xs × Places ps
  Places (filled R p n xs ∷ ps) = Found R p n xs × Places ps

  -- the new lifetimes and ghost names
  abbrev pub Names : List (Passed 𝓛) → Type 0
  Names [] = Unit {0}
  Names (allocator a h fits ∷ ps) = Names ps
  Names (number w x low ∷ ps) = Names ps
  Names (to_read loan p xs ∷ ps) = Names ps
  Names (shared R copied q p n xs ∷ ps) = ℕ × Names ps
  Names (filled R p n xs ∷ ps) = (ℕ × ℕ) × Names ps

  -- what the call leaves of each parameter
  abbrev pub News : List (Passed 𝓛) → Type 0
  News [] = Unit {0}
  News (allocator a h fits ∷ ps) = Last (Z.exit yes) a × News ps
  News (number w x low ∷ ps) = Unit {0} × News ps
  News (to_read loan p xs ∷ ps) = Unit {0} × News ps
  News (shared R copied q p n xs ∷ ps) = Unit {0} × News ps
  News (filled R p n xs ∷ ps) = List R.Denot × News ps

  -- the lifetimes that the call within is given: one for each array, with a share of each, and their tokens
  abbrev pub lifetime_count : List (Passed 𝓛) → ℕ
  lifetime_count [] = 0
  lifetime_count (allocator a h fits ∷ ps) = lifetime_count ps
  lifetime_count (number w x low ∷ ps) = lifetime_count ps
  lifetime_count (to_read loan p xs ∷ ps) = suc (lifetime_count ps)
  lifetime_count (shared R copied q p n xs ∷ ps) = suc (lifetime_count ps)
  lifetime_count (filled R p n xs ∷ ps) = suc (lifetime_count ps)

  abbrev pub lifetimes_of : (ps : List (Passed 𝓛)) → Names ps → Lfts (lifetime_count ps)
  lifetimes_of [] os = tt
  lifetimes_of (allocator a h fits ∷ ps) os = lifetimes_of ps os
  lifetimes_of (number w x low ∷ ps) os = lifetimes_of ps os
  lifetimes_of (to_read loan p xs ∷ ps) os = (loan.0, lifetimes_of ps os)
  lifetimes_of (shared R copied q p n xs ∷ ps) os = (os.0 ∷ [], lifetimes_of ps os.1)
  lifetimes_of (filled R p n xs ∷ ps) os = (os.0.0 ∷ [], lifetimes_of ps os.1)

  abbrev pub shares_of : (ps : List (Passed 𝓛)) → Shares (lifetime_count ps)
  shares_of [] = tt
  shares_of (allocator a h fits ∷ ps) = shares_of ps
  shares_of (number w x low ∷ ps) = shares_of ps
  shares_of (to_read loan p xs ∷ ps) = (loan.1, shares_of ps)
  shares_of (shared R copied q p n xs ∷ ps) = (full_share, shares_of ps)
  shares_of (filled R p n xs ∷ ps) = (full_share, shares_of ps)

  abbrev pub tokens : (ps : List (Passed 𝓛)) → Names ps → Fml
  tokens [] os = ftrue
  tokens (allocator a h fits ∷ ps) os = tokens ps os
  tokens (number w x low ∷ ps) os = tokens ps os
  tokens (to_read loan p xs ∷ ps) os = fsep (flft loan.0 loan.1) (tokens ps os)
  tokens (shared R copied q p n xs ∷ ps) os = fsep (flft (os.0 ∷ []) full_share) (tokens ps os.1)
  tokens (filled R p n xs ∷ ps) os = fsep (flft (os.0.0 ∷ []) full_share) (tokens ps os.1)

  -- the types of its parameters, their values and machine values, and what they own
  abbrev pub rows : (ps : List (Passed 𝓛)) → Names ps → List RattleType
  rows [] os = []
  rows (allocator a h fits ∷ ps) os = Z ∷ rows ps os
  rows (number w x low ∷ ps) os = UInt w ∷ rows ps os
  rows (to_read loan p xs ∷ ps) os = ShrSlice (named 0) loan.0 handle_row ∷ rows ps os
  rows (shared R copied q p n xs ∷ ps) os = ShrSlice (named 0) (os.0 ∷ []) R ∷ rows ps os.1
  rows (filled R p n xs ∷ ps) os = MutSlice (named 0) (os.0.0 ∷ []) R ∷ rows ps os.1

  abbrev pub values_of : (ps : List (Passed 𝓛)) → Places ps → (os : Names ps) → Denots (rows ps os)
  values_of [] at os = tt
  values_of (allocator a h fits ∷ ps) at os = (a, values_of ps at os)
  values_of (number w x low ∷ ps) at os = (x, values_of ps at os)
  values_of (to_read loan p xs ∷ ps) at os = (shared_at at.0, values_of ps at.1 os)
  values_of (shared R copied q p n xs ∷ ps) at os = (shared_at at.0, values_of ps at.1 os.1)
  values_of (filled R p n xs ∷ ps) at os = (filled_at at.0 os.0.1, values_of ps at.1 os.1)

  abbrev pub machine_values : (ps : List (Passed 𝓛)) → Places ps → (os : Names ps) → Valss (rows ps os)
  machine_values [] at os = tt
  machine_values (allocator a h fits ∷ ps) at os = (h ∷ [], machine_values ps at os)
  machine_values (number w x low ∷ ps) at os = (vint w x ∷ [], machine_values ps at os)
  machine_values (to_read loan p xs ∷ ps) at os = (as_slice at.0 ∷ [], machine_values ps at.1 os)
  machine_values (shared R copied q p n xs ∷ ps) at os = (as_slice at.0 ∷ [], machine_values ps at.1 os.1)
  machine_values (filled R p n xs ∷ ps) at os = (as_slice at.0 ∷ [], machine_values ps at.1 os.1)

  abbrev pub owned_all : (ps : List (Passed 𝓛)) → Places ps → (os : Names ps) → Fml
  owned_all ps at os = owns (rows ps os) (values_of ps at os) (machine_values ps at os)

  -- what the export keeps during the call
  abbrev pub kept : (ps : List (Passed 𝓛)) → Places ps → Names ps → Fml
  kept [] at os = ftrue
  kept (allocator a h fits ∷ ps) at os = kept ps at os
  kept (number w x low ∷ ps) at os = kept ps at os
  kept (to_read loan p xs ∷ ps) at os = fsep (seen_side_by_side handle_row loan.0 p xs) (kept ps at.1 os)
  kept (shared R copied q p n xs ∷ ps) at os =
      fsep (flent (os.0 ∷ []) (fsep (feq ℕ (length xs) (length xs)) (parts (mem R) (shares R) q xs at.0.at.block at.0.at.offset))) (kept ps at.1 os.1)
  kept (filled R p n xs ∷ ps) at os = fsep (flent (os.0.0 ∷ []) (Held R (length xs) at.0.at.block at.0.at.offset os.0.1)) (kept ps at.1 os.1)

  -- what its contract says of them at its end
  abbrev pub lasts_all : (ps : List (Passed 𝓛)) → Places ps → Names ps → News ps → Fml
  lasts_all [] at os ws = ftrue
  lasts_all (allocator a h fits ∷ ps) at os ws = fsep (left (Z.exit yes) a ws.0) (lasts_all ps at os ws.1)
  lasts_all (number w x low ∷ ps) at os ws = fsep ftrue (lasts_all ps at os ws.1)
  lasts_all (to_read loan p xs ∷ ps) at os ws = fsep ftrue (lasts_all ps at.1 os ws.1)
  lasts_all (shared R copied q p n xs ∷ ps) at os ws = fsep ftrue (lasts_all ps at.1 os.1 ws.1)
  lasts_all (filled R p n xs ∷ ps) at os ws =
      fsep (left ((MutSlice (named 0) (os.0.0 ∷ []) R).exit yes) (filled_at at.0 os.0.1) ws.0)
      (lasts_all ps at.1 os.1 ws.1)

  -- the arrays once the call has come back
  abbrev pub lefts : (ps : List (Passed 𝓛)) → News ps → List Fml
  lefts [] ws = []
  lefts (allocator a h fits ∷ ps) ws = lefts ps ws.1
  lefts (number w x low ∷ ps) ws = lefts ps ws.1
  lefts (to_read loan p xs ∷ ps) ws = lent_to_read handle_row loan p 1 xs ∷ lefts ps ws.1
  lefts (shared R copied q p n xs ∷ ps) ws = lent_shared R q p n xs ∷ lefts ps ws.1
  lefts (filled R p n xs ∷ ps) ws = lent R p n ws.0 ∷ lefts ps ws.1

  -- what the call within answers: its tokens, the result r, and what its contract says
  abbrev pub answered : (ps : List (Passed 𝓛)) → Places ps → Names ps → (A : RattleType) → (A.Denot → News ps → Item 𝓤) → Val → Item 𝓤
  answered ps at os A Said w =
      some (λ (r : A.Denot). (‵ (tokens ps os) ⊛ ‵ (A.own_val r (w ∷ []))) ⊛ some (λ (ws : News ps). ‵ (lasts_all ps at os ws) ⊛ Said r ws))

module _ {M : Type 1} {𝓤 : Ura M} (𝓛 : Logic 𝓤) where
  -- the formulas of a contract, with an end
  pub untie : (Ps : List Fml) → ent 𝓤 (sem 𝓛 (tight Ps)) (sem 𝓛 (loose Ps))
  untie [] = id⊢ 𝓤 _
  untie (P ∷ []) = via 𝓤 (sep 𝓤 (emp 𝓤) (sem 𝓛 P)) (emp∗ 𝓤 (sem 𝓛 P)) (comm∗ 𝓤 (emp 𝓤) (sem 𝓛 P))
  untie (P ∷ Q ∷ Ps) = mono_r 𝓤 (sem 𝓛 P) (untie (Q ∷ Ps))

  -- formulas with an assertion at their end
  abbrev pub over : List Fml → SProp 𝓤 → SProp 𝓤
  over [] P = P
  over (Q ∷ Qs) P = sep 𝓤 (sem 𝓛 Q) (over Qs P)

  -- such formulas, of a list and an assertion
  pub closed : (Qs : List Fml) (P : SProp 𝓤) → ent 𝓤 (sep 𝓤 (sem 𝓛 (loose Qs)) P) (over Qs P)
  closed [] P = snd∗ 𝓤 (emp 𝓤) P
  closed (Q ∷ Qs) P = via 𝓤 (sep 𝓤 (sem 𝓛 Q) (sep 𝓤 (sem 𝓛 (loose Qs)) P)) (assoc∗ 𝓤 (sem 𝓛 Q) (sem 𝓛 (loose Qs)) P) (mono_r 𝓤 (sem 𝓛 Q) (closed Qs P))

module _ {M : Type 1} {𝓤 : Ura M} {𝓛 : Logic 𝓤} {K : Type 0} {G : Goal 𝓤 𝓛.H} where
  -- three formulas are put before three others
  sorts : K → {P Q R P' Q' R' : Fml} {Γ : List (Item 𝓤)} → Step K 𝓛 (‵ (fsep P P') ∷ ‵ (fsep Q Q') ∷ ‵ (fsep R R') ∷ Γ) G
      (‵ P' ∷ ‵ Q' ∷ ‵ R' ∷ ‵ P ∷ ‵ R ∷ ‵ Q ∷ Γ) G
  sorts t = step (λ s. move t (4 ∷ 2 ∷ []) $ fjoin t $ move t (4 ∷ 2 ∷ []) $ fjoin t $ move t (3 ∷ 2 ∷ []) $ fjoin t $ s)

  -- and taken from them
  parts_of : K → {P Q R P' Q' R' : Fml} {Γ : List (Item 𝓤)} → Step K 𝓛 (‵ P' ∷ ‵ Q' ∷ ‵ R' ∷ ‵ P ∷ ‵ Q ∷ ‵ R ∷ Γ) G
      (‵ (fsep P P') ∷ ‵ (fsep Q Q') ∷ ‵ (fsep R R') ∷ Γ) G
  parts_of t = step (λ s. fsplit t $ move t (2 ∷ []) $ fsplit t $ move t (4 ∷ []) $ fsplit t $ move t (5 ∷ 3 ∷ 1 ∷ 4 ∷ 2 ∷ 0 ∷ []) $ s)

  -- how many values there are of each array
  pub counts_of : K → (ps : List (Passed 𝓛)) {Γ : List (Item 𝓤)} → (Counts ps → Seq K 𝓛 (‵ (loose (arrays ps)) ∷ Γ) G) → Seq K 𝓛 (‵ (loose (arrays ps)) ∷ Γ) G
  counts_of t [] k = k tt
  counts_of t (allocator a h fits ∷ ps) k = fsplit t $ move t (1 ∷ []) $ counts_of t ps (λ cs. move t (1 ∷ 0 ∷ []) $ fjoin t $ k cs)
  counts_of t (number w x low ∷ ps) k = counts_of t ps k
  counts_of t (to_read loan p xs ∷ ps) k = fsplit t $ fsplit t $ feq_l t (λ e. feq_i t ℕ _ _ e $ fjoin t $
      move t (1 ∷ []) $ counts_of t ps (λ cs. move t (1 ∷ 0 ∷ []) $ fjoin t $ k (e, cs)))
  counts_of t (shared R copied q p n xs ∷ ps) k = fsplit t $ fsplit t $ feq_l t (λ e. feq_i t ℕ _ _ e $ fjoin t $
      move t (1 ∷ []) $ counts_of t ps (λ cs. move t (1 ∷ 0 ∷ []) $ fjoin t $ k (e, cs)))
  counts_of t (filled R p n xs ∷ ps) k = fsplit t $ fsplit t $ feq_l t (λ e. feq_i t ℕ _ _ e $ fjoin t $
      move t (1 ∷ []) $ counts_of t ps (λ cs. move t (1 ∷ 0 ∷ []) $ fjoin t $ k (e, cs)))

  -- all arrays are lent
  pub lends_all : K → Soaks G → (ps : List (Passed 𝓛)) (at : Places ps) {Γ : List (Item 𝓤)}
      → ((os : Names ps) → Seq K 𝓛 (‵ (owned_all ps at os) ∷ ‵ (tokens ps os) ∷ ‵ (kept ps at os) ∷ Γ) G) → Seq K 𝓛 (‵ (loose (arrays ps)) ∷ Γ) G
  lends_all t z [] at k = nothing t $ nothing t $ k tt
  lends_all t z (allocator a h fits ∷ ps) at k = fsplit t $ move t (1 ∷ []) $ lends_all t z ps at (λ os. move t (3 ∷ 0 ∷ []) $ fjoin t $ k os)
  lends_all t z (number w x low ∷ ps) at k =
      lends_all t z ps at (λ os. owned t (UInt w) (Is (UInt w)) (uint_Makes 𝓛 w) x (vint w x ∷ []) (refl, low) $ fjoin t $ k os)
  lends_all t z (to_read loan p xs ∷ ps) at k =
      fsplit t $ fsplit t $ drop t $ fsplit t $ reads t handle_row handle_laws.shr_laws loan.0 p xs at.0.at (rooms handle_row (length xs) p 1 at.0.counted) $
      move t (3 ∷ []) $ lends_all t z ps at.1 (λ os. sorts t $ k os)
  lends_all t z (shared R copied q p n xs ∷ ps) at k =
      fsplit t $ fsplit t $ drop t $ shares_out t z R copied q p xs at.0.at (rooms R (length xs) p n at.0.counted) (λ α.
      move t (3 ∷ []) $ lends_all t z ps at.1 (λ os. sorts t $ k (α, os)))
  lends_all t z (filled R p n xs ∷ ps) at k =
      fsplit t $ fsplit t $ drop t $ lends t z R p xs at.0.at (rooms R (length xs) p n at.0.counted) (λ α γ.
      move t (3 ∷ []) $ lends_all t z ps at.1 (λ os. sorts t $ k ((α, γ), os)))

  -- and come back
  pub comes_all : K → Soaks G → (ps : List (Passed 𝓛)) (at : Places ps) (os : Names ps) (ws : News ps) {Γ : List (Item 𝓤)}
      → Step K 𝓛 (‵ (loose (lefts ps ws)) ∷ Γ) G (‵ (tokens ps os) ∷ ‵ (kept ps at os) ∷ ‵ (lasts_all ps at os ws) ∷ Γ) G
  comes_all t z [] at os ws = step (λ s. drop t $ drop t $ s)
  comes_all t z (allocator a h fits ∷ ps) at os ws = step (λ s. move t (2 ∷ []) $ fsplit t $ drop t $ move t (1 ∷ 2 ∷ []) $ comes_all t z ps at os ws.1 $ s)
  comes_all t z (number w x low ∷ ps) at os ws = step (λ s. move t (2 ∷ []) $ fsplit t $ drop t $ move t (1 ∷ 2 ∷ []) $ comes_all t z ps at os ws.1 $ s)
  comes_all t z (to_read loan p xs ∷ ps) at os ws = step (λ s. parts_of t $ comes_all t z ps at.1 os ws.1 $ move t (2 ∷ 1 ∷ []) $
      read_back t handle_row loan p 1 xs at.0.counted $ fjoin t $ move t (1 ∷ []) $ drop t $ s)
  comes_all t z (shared R copied q p n xs ∷ ps) at os ws = step (λ s. parts_of t $ comes_all t z ps at.1 os.1 ws.1 $ move t (1 ∷ 2 ∷ []) $
      comes_back t z R q p n xs at.0.at at.0.counted $ fjoin t $ move t (1 ∷ []) $ drop t $ s)
  comes_all t z (filled R p n xs ∷ ps) at os ws = step (λ s. parts_of t $ comes_all t z ps at.1 os.1 ws.1 $ move t (3 ∷ []) $
      fsplit t $ fsplit t $ move t (4 ∷ 5 ∷ 0 ∷ []) $
      comes t z R p n (length xs) ws.0 at.0.at at.0.counted $ move t (0 ∷ 3 ∷ []) $ fjoin t $ move t (1 ∷ 2 ∷ []) $ drop t $ drop t $ s)

-- ---- operands that are locals
-- the local that an operand copies
abbrev local_in : Operand → ℕ
local_in (copy (place i st)) = i
local_in x = 0

abbrev locals_in : List Operand → List ℕ
locals_in [] = []
locals_in (x ∷ xs) = local_in x ∷ locals_in xs

-- operands that copy these locals
abbrev copies : List ℕ → List Operand
copies [] = []
copies (i ∷ is) = copy (place i []) ∷ copies is

module _ {M : Type 1} {𝓤 : Ura M} (𝓛 : Logic 𝓤) (E : Env 𝓤 𝓛.H) where
  -- how these locals stand in a context, and how they do if they hold these values
  abbrev met : List (Item 𝓤) → List ℕ → List Val → List (Item 𝓤)
  met Γ [] vs = []
  met Γ (i ∷ is) [] = []
  met Γ (i ∷ is) (v ∷ vs) = at 𝓛 i Γ ∷ met Γ is vs

  abbrev needed : List ℕ → List Val → List (Item 𝓤)
  needed [] vs = []
  needed (i ∷ is) [] = []
  needed (i ∷ is) (v ∷ vs) = ‵ (fat full_share (spot_of 𝓤 𝓛.H E i).0 (spot_of 𝓤 𝓛.H E i).1 zero v) ∷ needed is vs

  -- there are as many locals as values
  abbrev as_many : List ℕ → List Val → Type 0
  as_many [] [] = Unit {0}
  as_many [] (v ∷ vs) = ⊥
  as_many (i ∷ is) [] = ⊥
  as_many (i ∷ is) (v ∷ vs) = as_many is vs

  -- then the operands evaluate to the values
  copied_all : (K : Type 0) → K → (Γ : List (Item 𝓤)) (is : List ℕ) (vs : List Val) → as_many is vs → met Γ is vs ≡ needed is vs → Opds K 𝓛 Γ E (copies is) vs
  copied_all K t Γ [] [] n e = no_more t
  copied_all K t Γ [] (v ∷ vs) n e = absurd n
  copied_all K t Γ (i ∷ is) [] n e = absurd n
  copied_all K t Γ (i ∷ is) (v ∷ vs) n e = and_then t (get t (ap (nth 𝓛 0) e)) (copied_all K t Γ is vs n (ap (del 𝓛 0) e))

  -- the operands are locals that hold these values
  abbrev pub Hold : List (Item 𝓤) → List Operand → List Val → Type 2
  Hold Γ xs vs = (xs ≡ copies (locals_in xs)) × as_many (locals_in xs) vs × (met Γ (locals_in xs) vs ≡ needed (locals_in xs) vs)

  -- the result's local holds v
  abbrev pub result_in : Val → Item 𝓤
  result_in v = ‵ (fat full_share (spot_of 𝓤 𝓛.H E 0).0 (spot_of 𝓤 𝓛.H E 0).1 zero v)

  -- it is free before v is stored there
  abbrev pub Free : List (Item 𝓤) → Val → Type 2
  Free Γ v = (at 𝓛 0 Γ ∷ at 𝓛 0 (set 𝓛 0 (result_in v) Γ) ∷ []) ≡ (‵ (froom (spot_of 𝓤 𝓛.H E 0).0 (spot_of 𝓤 𝓛.H E 0).1 zero) ∷ result_in v ∷ [])

-- The call within an export: what is lent goes in, and comes back with the answer r and what the contract says of it.
module _ {M : Type 1} {𝓤 : Ura M} {𝓛 : Logic 𝓤} {K : Type 0} {Γ : List (Item 𝓤)}
    {E : Env 𝓤 𝓛.H} {C : Calls 𝓤 𝓛.H} {Λ : Loops 𝓤 𝓛.H} {q : Post 𝓤 𝓛.H} {f : Callee} {xs : List Operand} {d : Spot} {rest : Body} where
  pub passes_on : K → FmC 𝓤 𝓛.H 𝓛.laws C → (c : Contract 𝓤) → Triple 𝓤 (C f) c → (ps : List (Passed 𝓛)) (at : Places ps) (y : Names ps → c.Ghost)
      → ((os : Names ps) → ent 𝓤 (sep 𝓤 (sep 𝓤 (sem 𝓛 (tokens ps os)) (sem 𝓛 (owned_all ps at os))) (emp 𝓤)) (c.pre (y os)))
      → (A : RattleType) (Said : A.Denot → News ps → Item 𝓤)
      → ((os : Names ps) (w : Val) → ent 𝓤 (c.post (y os) w) (𝓛.H.⇛ (mean 𝓛 (answered ps at os A Said w))))
      → ((os : Names ps) → Hold 𝓛 E (raw (c.pre (y os)) ∷ ‵ (kept ps at os) ∷ Γ) xs (c.args (y os)))
      → ((w : Val) (r : A.Denot) (ws : News ps) → Seq K 𝓛 (Said r ws ∷ ‵ (A.own_val r (w ∷ [])) ∷ ‵ (loose (lefts ps ws)) ∷ Γ) (lands C Λ E d w rest q))
      → Seq K 𝓛 (‵ (loose (arrays ps)) ∷ Γ) (runs C Λ E (seq (call f xs d) rest) q)
  passes_on t fm c calls ps at y goes A Said told hold k = lends_all t tt ps at (λ os.
      move t (1 ∷ 0 ∷ []) $ join t $ nothing t $ move t (1 ∷ 0 ∷ []) $ join t $ use1 𝓛 (raw (c.pre (y os))) (goes os) $
      calls_at t fm c calls (y os)
      (subst (λ (us : List Operand). Opds K 𝓛 (raw (c.pre (y os)) ∷ ‵ (kept ps at os) ∷ Γ) E us (c.args (y os))) (sym (hold os).0)
      (copied_all 𝓛 E K t _ (locals_in xs) (c.args (y os)) (hold os).1 (hold os).2)) (λ w.
      use1 𝓛 (later (answered ps at os A Said w)) (told os w) $
      await t tt $ pick t (λ r. split t $ split t $ move t (2 ∷ []) $ pick t (λ ws. split t $ move t (2 ∷ 4 ∷ 0 ∷ []) $ comes_all t tt ps at os ws $ move t (1 ∷ 2 ∷ []) $ k w r ws))))

module _ {M : Type 1} {𝓤 : Ura M} {𝓛 : Logic 𝓤} {K : Type 0} {Γ : List (Item 𝓤)} {E : Env 𝓤 𝓛.H} {C : Calls 𝓤 𝓛.H} {Λ : Loops 𝓤 𝓛.H} {f : Callee} {xs : List Operand} where
  -- the same of a call whose status the export returns, with the two facts of its contract
  pub answers_with : K → FmC 𝓤 𝓛.H 𝓛.laws C → (c : Contract 𝓤) → Triple 𝓤 (C f) c → (ps : List (Passed 𝓛)) (at : Places ps) (y : Names ps → c.Ghost)
      → ((os : Names ps) → ent 𝓤 (sep 𝓤 (sep 𝓤 (sem 𝓛 (tokens ps os)) (sem 𝓛 (owned_all ps at os))) (emp 𝓤)) (c.pre (y os)))
      → (Refused Answered : ℕ → News ps → Type 0)
      → ((os : Names ps) (w : Val) → ent 𝓤 (c.post (y os) w) (𝓛.H.⇛ (mean 𝓛 (answered ps at os (UInt w32) (λ r ws. raw (fact 𝓤 (Refused r ws)) ⊛ raw (fact 𝓤 (Answered r ws))) w))))
      → ((os : Names ps) → Hold 𝓛 E (raw (c.pre (y os)) ∷ ‵ (kept ps at os) ∷ Γ) xs (c.args (y os))) → (spot_of 𝓤 𝓛.H E 0).0 ≡ ty_int w32
      → ((A B : Item 𝓤) (w : Val) → Free 𝓛 E (A ∷ B ∷ Γ) w)
      → {Kf : Val → SProp 𝓤}
      → ((w : Val) (r : ℕ) (ws : News ps) → Refused r ws × Answered r ws
      → Seq K 𝓛 (set 𝓛 0 (result_in 𝓛 E w) (‵ ((UInt w32).own_val r (w ∷ [])) ∷ ‵ (loose (lefts ps ws)) ∷ Γ)) (frees E (prop (Kf w))))
      → Seq K 𝓛 (‵ (loose (arrays ps)) ∷ Γ) (runs C Λ E (seq (call f xs (place 0 [])) return) (at_ret E Kf))
  answers_with t fm c calls ps at y goes Refused Answered told hold τ res k =
      passes_on t fm c calls ps at y goes (UInt w32) (λ r ws. raw (fact 𝓤 (Refused r ws)) ⊛ raw (fact 𝓤 (Answered r ws))) told hold (λ w r ws.
      let Own : Item 𝓤 = ‵ ((UInt w32).own_val r (w ∷ [])) in let Rest : Item 𝓤 = ‵ (loose (lefts ps ws)) in
      split t $ heard t _ (λ refused. heard t _ (λ answers. peeks t (UInt w32) (Is (UInt w32)) (shows 𝓛 (UInt w32)) r (w ∷ []) (λ ok.
      land t (from t (stop t)) (init t (cell 0 (Own ∷ Rest ∷ Γ)) (ap (nth 𝓛 0) (res Own Rest w))
      (subst (λ (σ : Ty). T (has_ty σ w) × WT w) (sym τ) (((uint_Lawful 𝓛 w32).typed r (w ∷ []) ok).0))) $
      returns t (look_at t 0 (ap (nth 𝓛 1) (res Own Rest w))) $ k w r ws (refused, answers)))))
