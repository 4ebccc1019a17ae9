-- The code of an export finds the place of each array, and makes it a slice. Assumes `Logic`.
use Rattle.std.proofs.Common.{◌≡◌, ℕ, zero, ◌<◌, ◌^◌, List, [], ◌∷◌, length, refl, sym, subst, ap, w64, lit<}
use lib.Dec.{T, ltb}
use seplogic.Ra.Ura.{Ura}
use base.Fraction.{full_share}
use base.Logic.{ent}
use base.Fml.{Share, fat, froom, ftrue}
use mir.Syntax.{Ty, place, copy, int, field, assign, rv_opd, aggregate, Opd as Operand, Body, seq, call}
use mir.Val.{Val, vint, vptr, has_ty, WT, bits}
use prog.Model.{Model}
use prog.Wp.{Env, Calls, Loops, spot_of}
use sound.WpLaws.{FmC}
use types.Logic.{Logic, sem}
use types.Kit.{Item, Seq, Step, step, Post, runs, lands, nth, ‵, ◌$◌}
use types.Run.{Opd, Opds, lit, no_more, and_then, of_opd, from, stop, fld, init, assigns, land}
use types.ByLocal.{at, set, cell, get, get_in}
use types.Part.{Part, agg, sub, whole}
use contract.Monad.{fact}
use contract.Running.{Running, tables}
use denote.Memory.{mem}
use denote.Param.{layout}
use denote.RattleType.{RattleType}
use denote.RawPtr.{Ptr, block_ptr, ptr_val, Testable}
use denote.Steps.{nothing}
use denote.Triple.Call.{calls_from}
use denote.Triple.Spec.{triple_of}
use denote.Triple.Statement.{Triple}
use denote.Triple.Table.{framed as framed_in}
use Rattle.stlslice_c.specs.Pointers.{count_at}
use Rattle.stlslice_c.specs.contracts.places.Place.{the_row as Place}
use Rattle.stlslice_c.proofs.places.Place.TheLaws.{lowers}
use Rattle.stlslice_c.proofs.places.place_of.Symbol.{name as #place}
use Rattle.stlslice_c.specs.contracts.places.place_of as placing
use Rattle.stlslice_c.proofs.lemmas.Lending.{IsPlaced, placed, tells, rooms}
use Rattle.stlslice_c.proofs.lemmas.Passing.{Found, as_slice}

-- the machine value of a place that was found
abbrev pub place_val : {R : RattleType} {p : Ptr} {n : ℕ} {xs : List R.Denot} → Found R p n xs → Val
place_val {xs = xs} f = lowers.lowered (record { at = block_ptr f.at.block f.at.offset; count = length xs })

-- the machine value of a pointer to its first value
abbrev pub start : {R : RattleType} {p : Ptr} {n : ℕ} {xs : List R.Denot} → Found R p n xs → Val
start f = vptr f.at.block f.at.offset

-- what is known of a table of calls: its frame, and what a call of `place_of` tells
pub record Finder {M : Type 1} {𝓤 : Ura M} (𝓛 : Logic 𝓤) (C : Calls 𝓤 𝓛.H) : Type 2 where
  pub framed : FmC 𝓤 𝓛.H 𝓛.laws C
  pub places : (m : ℕ) (p : Ptr) (n size : ℕ) → m ≡ count_at size p n → Testable p → 0 < size → n < 2 ^ 64 → size < 2 ^ 64
      → ent 𝓤 (sem 𝓛 ftrue) (C #place (ptr_val p ∷ vint w64 n ∷ vint w64 size ∷ []) (λ v. 𝓛.H.⇛ (fact 𝓤 (IsPlaced m p v))))

-- the frame is the table's; the rest is from the proof of `place_of`
pub finder : {M : Type 1} {𝓤 : Ura M} (𝓛 : Logic 𝓤) (𝓜 : Model 𝓤 𝓛.H) (𝓡 : Running 𝓤 𝓛.H 𝓜)
    → Triple 𝓤 ((tables 𝓤 𝓛.H 𝓜 𝓡 𝓡.env).C #place) (triple_of 𝓛 placing.signature (placing.spec 𝓛 𝓜.mem 𝓡.returns)) → Finder 𝓛 (tables 𝓤 𝓛.H 𝓜 𝓡 𝓡.env).C
finder {𝓤 = 𝓤} 𝓛 𝓜 𝓡 met =
    let 𝓣 = tables 𝓤 𝓛.H 𝓜 𝓡 𝓡.env in let fm = framed_in 𝓤 𝓛.H 𝓜 𝓣 in record { framed = fm; places = placed 𝓛 𝓜.mem 𝓡.returns 𝓣.C fm met }

-- how a local stands: with a value, or with none yet
module _ {M : Type 1} {𝓤 : Ura M} (𝓛 : Logic 𝓤) (E : Env 𝓤 𝓛.H) where
  abbrev pub type_of : ℕ → Ty
  type_of i = (spot_of 𝓤 𝓛.H E i).0

  abbrev pub holds : ℕ → Val → Item 𝓤
  holds i v = ‵ (fat full_share (spot_of 𝓤 𝓛.H E i).0 (spot_of 𝓤 𝓛.H E i).1 zero v)

  abbrev pub free : ℕ → Item 𝓤
  free i = ‵ (froom (spot_of 𝓤 𝓛.H E i).0 (spot_of 𝓤 𝓛.H E i).1 zero)

module _ {M : Type 1} {𝓤 : Ura M} {𝓛 : Logic 𝓤} {K : Type 0} where
  -- a part of an entry is a part of the same entry
  part_at : {I J : Item 𝓤} → I ≡ J → {q : Share} {τ : Ty} {b o : ℕ} {v : Val} {back : Val → Item 𝓤} → Part K 𝓛 J q τ b o v back → Part K 𝓛 I q τ b o v back
  part_at e {q} {τ} {b} {o} {v} {back} p = subst (λ (I : Item 𝓤). Part K 𝓛 I q τ b o v back) (sym e) p

module _ {M : Type 1} {𝓤 : Ura M} {𝓛 : Logic 𝓤} {K : Type 0} {Γ : List (Item 𝓤)} {E : Env 𝓤 𝓛.H} where
  open 𝓛 use {H}

  -- the fields of a place
  at_of : K → {R : RattleType} {p : Ptr} {n : ℕ} {xs : List R.Denot} (f : Found R p n xs) {i : ℕ} → type_of 𝓛 E i ≡ layout Place
      → at 𝓛 i Γ ≡ ‵ (fat full_share (layout Place) (spot_of 𝓤 H E i).1 zero (place_val f)) → Opd K 𝓛 Γ E (copy (place i (field 0 ∷ []))) (start f)
  at_of t f τ e = get_in t (fld t (ap (λ (σ : Ty). prog.Memory.field_of σ 0) τ) (stop t)) (part_at e (sub t 0 refl (whole t)))

  count_of : K → {R : RattleType} {p : Ptr} {n : ℕ} {xs : List R.Denot} (f : Found R p n xs) {i : ℕ} → type_of 𝓛 E i ≡ layout Place
      → at 𝓛 i Γ ≡ ‵ (fat full_share (layout Place) (spot_of 𝓤 H E i).1 zero (place_val f)) → Opd K 𝓛 Γ E (copy (place i (field 1 ∷ []))) (vint w64 (length xs))
  count_of t f τ e = get_in t (fld t (ap (λ (σ : Ty). prog.Memory.field_of σ 1) τ) (stop t)) (part_at e (sub t 1 refl (whole t)))

module _ {M : Type 1} {𝓤 : Ura M} {𝓛 : Logic 𝓤} {K : Type 0} {Γ : List (Item 𝓤)} {E : Env 𝓤 𝓛.H} {C : Calls 𝓤 𝓛.H} {Λ : Loops 𝓤 𝓛.H} {q : Post 𝓤 𝓛.H} {rest : Body} where
  open 𝓛 use {H}

  -- the call of `place_of`
  found : K → Finder 𝓛 C → (R : RattleType) (p : Ptr) (n : ℕ) (xs : List R.Denot) → length xs ≡ count_at (mem R).size p n → Testable p → n < 2 ^ 64
      → T (ltb 0 (mem R).size) → T (ltb (mem R).size (2 ^ bits w64)) → {ops : List Operand} {i : ℕ} → Opds K 𝓛 (‵ ftrue ∷ Γ) E ops (ptr_val p ∷ vint w64 n ∷ vint w64 (mem R).size ∷ [])
      → at 𝓛 i Γ ≡ free 𝓛 E i → type_of 𝓛 E i ≡ layout Place
      → ((f : Found R p n xs) → Seq K 𝓛 (set 𝓛 i (holds 𝓛 E i (place_val f)) Γ) (runs C Λ E rest q)) → Seq K 𝓛 Γ (runs C Λ E (seq (call #place ops (place i [])) rest) q)
  found t find R p n xs counted tests low some small {ops} {i} os empty τ k =
      nothing t $ calls_from t find.framed (‵ ftrue) _ _ (find.places (length xs) p n (mem R).size counted tests (lit< some) low (lit< small)) os (λ v. tells t tt (length xs) p v (λ it.
      let f : Found R p n xs = record { value = v; at = it; counted = counted } in
      subst (λ (w : Val). Seq K 𝓛 Γ (lands C Λ E (place i []) w rest q)) (sym it.value)
      (land t (from t (stop t)) (init t (cell i Γ) empty (subst (λ (σ : Ty). T (has_ty σ (place_val f)) × WT (place_val f)) (sym τ) (tt, (tt, (record { fits = (rooms R (length xs) p n counted).0 }, tt))))) $ k f)))

  -- the place of one value is found
  pub finds_one : K → Finder 𝓛 C → (R : RattleType) (p : Ptr) (xs : List R.Denot) → length xs ≡ count_at (mem R).size p 1 → Testable p
      → T (ltb 0 (mem R).size) → T (ltb (mem R).size (2 ^ bits w64)) → {i j : ℕ} → at 𝓛 j (‵ ftrue ∷ Γ) ≡ holds 𝓛 E j (ptr_val p) → at 𝓛 i Γ ≡ free 𝓛 E i → type_of 𝓛 E i ≡ layout Place
      → ((f : Found R p 1 xs) → Seq K 𝓛 (set 𝓛 i (holds 𝓛 E i (place_val f)) Γ) (runs C Λ E rest q))
      → Seq K 𝓛 Γ (runs C Λ E (seq (call #place (copy (place j []) ∷ int w64 1 ∷ int w64 (mem R).size ∷ []) (place i [])) rest) q)
  finds_one t find R p xs counted tests some small e empty τ k =
      found t find R p 1 xs counted tests (lit< tt) some small (and_then t (get t e) (and_then t (lit t tt) (and_then t (lit t small) (no_more t)))) empty τ k

  -- or of as many as a parameter says
  pub finds_many : K → Finder 𝓛 C → (R : RattleType) (p : Ptr) (n : ℕ) (xs : List R.Denot) → length xs ≡ count_at (mem R).size p n → Testable p → n < 2 ^ 64
      → T (ltb 0 (mem R).size) → T (ltb (mem R).size (2 ^ bits w64)) → {i j m : ℕ} → at 𝓛 j (‵ ftrue ∷ Γ) ≡ holds 𝓛 E j (ptr_val p) → at 𝓛 m (‵ ftrue ∷ Γ) ≡ holds 𝓛 E m (vint w64 n)
      → at 𝓛 i Γ ≡ free 𝓛 E i → type_of 𝓛 E i ≡ layout Place
      → ((f : Found R p n xs) → Seq K 𝓛 (set 𝓛 i (holds 𝓛 E i (place_val f)) Γ) (runs C Λ E rest q))
      → Seq K 𝓛 Γ (runs C Λ E (seq (call #place (copy (place j []) ∷ copy (place m []) ∷ int w64 (mem R).size ∷ []) (place i [])) rest) q)
  finds_many t find R p n xs counted tests low some small e d empty τ k =
      found t find R p n xs counted tests low some small (and_then t (get t e) (and_then t (get t d) (and_then t (lit t small) (no_more t)))) empty τ k

  -- and is made a slice, its pointer cast first
  pub slices : K → {R : RattleType} {p : Ptr} {n : ℕ} {xs : List R.Denot} (f : Found R p n xs) {i j k : ℕ} → type_of 𝓛 E i ≡ layout Place → T (has_ty (type_of 𝓛 E j) (start f)) → T (has_ty (type_of 𝓛 E k) (as_slice f))
      → (at 𝓛 i Γ ∷ at 𝓛 j Γ ∷ at 𝓛 i (set 𝓛 j (holds 𝓛 E j (start f)) Γ) ∷ at 𝓛 j (set 𝓛 j (holds 𝓛 E j (start f)) Γ) ∷ at 𝓛 k (set 𝓛 j (holds 𝓛 E j (start f)) Γ) ∷ [])
      ≡ (‵ (fat full_share (layout Place) (spot_of 𝓤 H E i).1 zero (place_val f)) ∷ free 𝓛 E j ∷ ‵ (fat full_share (layout Place) (spot_of 𝓤 H E i).1 zero (place_val f)) ∷ holds 𝓛 E j (start f) ∷ free 𝓛 E k ∷ [])
      → Step K 𝓛 (set 𝓛 k (holds 𝓛 E k (as_slice f)) (set 𝓛 j (holds 𝓛 E j (start f)) Γ)) (runs C Λ E rest q)
      Γ (runs C Λ E (seq (assign (place j []) (rv_opd (copy (place i (field 0 ∷ []))))) (seq (assign (place k []) (aggregate (copy (place j []) ∷ copy (place i (field 1 ∷ [])) ∷ []))) rest)) q)
  slices t {R} {p} {n} {xs} f {i} {j} {k} τ ptr slice e = step (λ s. let Γ' : List (Item 𝓤) = set 𝓛 j (holds 𝓛 E j (start f)) Γ in
      assigns t (of_opd t (at_of t f τ (ap (nth 𝓛 0) e))) (from t (stop t)) (init t (cell j Γ) (ap (nth 𝓛 1) e) (ptr, tt)) $
      assigns t (agg t (and_then t (get t (ap (nth 𝓛 3) e)) (and_then t (count_of t f τ (ap (nth 𝓛 2) e)) (no_more t)))) (from t (stop t))
      (init t (cell k Γ') (ap (nth 𝓛 4) e) (slice, (tt, (record { fits = (rooms R (length xs) p n f.counted).0 }, tt)))) $ s)

  -- or with no cast, of bytes
  pub slices_bytes : K → {R : RattleType} {p : Ptr} {n : ℕ} {xs : List R.Denot} (f : Found R p n xs) {i k : ℕ} → type_of 𝓛 E i ≡ layout Place → T (has_ty (type_of 𝓛 E k) (as_slice f))
      → (at 𝓛 i Γ ∷ at 𝓛 k Γ ∷ []) ≡ (‵ (fat full_share (layout Place) (spot_of 𝓤 H E i).1 zero (place_val f)) ∷ free 𝓛 E k ∷ [])
      → Step K 𝓛 (set 𝓛 k (holds 𝓛 E k (as_slice f)) Γ) (runs C Λ E rest q)
      Γ (runs C Λ E (seq (assign (place k []) (aggregate (copy (place i (field 0 ∷ [])) ∷ copy (place i (field 1 ∷ [])) ∷ []))) rest) q)
  slices_bytes t {R} {p} {n} {xs} f {i} {k} τ slice e = step (λ s.
      assigns t (agg t (and_then t (at_of t f τ (ap (nth 𝓛 0) e)) (and_then t (count_of t f τ (ap (nth 𝓛 0) e)) (no_more t)))) (from t (stop t))
      (init t (cell k Γ) (ap (nth 𝓛 1) e) (slice, (tt, (record { fits = (rooms R (length xs) p n f.counted).0 }, tt)))) $ s)
