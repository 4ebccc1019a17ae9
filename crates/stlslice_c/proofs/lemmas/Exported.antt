-- How the walk of an export begins and ends. Assumes `Logic`.
use Rattle.std.proofs.Common.{◌≡◌, ℕ, List, [], ◌∷◌, refl, sym, subst, ap}
use Rattle.std.specs.Prelude.{Bool, true, false}
use lib.Dec.{T}
use seplogic.Ra.Ura.{Ura}
use base.Logic.{SProp, ent, sep, emp, via, id⊢, emp∗}
use base.Fml.{Fml, ftrue, fsep}
use mir.Syntax.{Ty, Fn, Callee, ty_ptr, ty_int}
use mir.Val.{Val, vint, has_ty, WT}
use prog.Model.{Model}
use prog.Wp.{WpFn, Closed, Calls, Loops}
use types.Logic.{Logic, sem}
use types.ByLocal.{AllTyped, env}
use types.Run.{enter}
use types.Kit.{Item, Step, step, Sq, prop, ‵, raw, ◌⊛◌, ◌$◌, ◌∵◌, !, qed, by, move, use0, use1, use2, split, drop, suffices, Seq, Goal, fsplit, fjoin, allocs, params', runs, at_ret}
use contract.Lifetimes.{Lfts}
use contract.Monad.{fact, fact_i}
use contract.Running.{Running, tables}
use denote.Builtin.{RawPtr}
use denote.Exit.{Exit, unchanged, leaves, Last, left, rest}
use denote.Laws.{Are, Ises}
use denote.Param.{layout}
use denote.Plain.{UInt, uint_Lawful}
use denote.RattleType.{RattleType, Denots, Valss, flat, owns}
use denote.RawPtr.{ptr_val}
use denote.Signature.{Slot, types_at, type_at}
use denote.Steps.{heard}
use denote.Triple.Clauses.{Ended, Clauses, closing, at_exit}
use denote.Triple.End.{Kepts, Fins}
use denote.Triple.Entry.{Res, alive}
use denote.Triple.Spec.{Meets}
use denote.Triple.Walked.{Stays, stay_dropped, AllGo, Goes-Silent, fits_of, has_of, walk_of}
use Rattle.std.proofs.raw_atomic.Walks.{proved_at, leaves as leaves_all}
use Rattle.core.proofs.alloc.Calls.{handle_tells}
use Rattle.stlslice_c.proofs.lemmas.Lending.{joined, ptr_good}
use Rattle.stlslice_c.proofs.lemmas.Passing.{Passed, allocator, number, to_read, shared, filled, Counts, tight, loose, arrays, untie, counts_of, over, closed}
use Rattle.stlslice_c.proofs.lemmas.Values.{Z, zal}

-- ---- nothing is had of an export's parameters when it returns, and nothing is said of them
-- nothing is bound of such a parameter
abbrev mute : {D : Type 0} → Exit D → Bool
mute unchanged = true
mute (leaves L l S s r) = false

abbrev both : Bool → Bool → Bool
both true b = b
both false b = false

both_yes : (a b : Bool) → T (both a b) → T a × T b
both_yes true b h = (tt, h)
both_yes false b h = absurd h

mute_left : {D : Type 0} (e : Exit D) → T (mute e) → (x : D) (w : Last e x) → left e x w ≡ ftrue
mute_left unchanged h x w = refl
mute_left (leaves L l S s r) h x w = absurd h

module _ {n : ℕ} where
  abbrev pub dropped : (ss : List (Slot n)) (ks : Kepts ss) → Stays ss ks
  dropped [] ks = tt
  dropped (s ∷ ss) ks = (stay_dropped s ks.0, dropped ss ks.1)

  abbrev pub mutes : Lfts n → (ss : List (Slot n)) → Kepts ss → Bool
  mutes κs [] ks = true
  mutes κs (s ∷ ss) ks = both (mute ((s.row κs).exit ks.0)) (mutes κs ss ks.1)

  -- what is bound of them
  abbrev pub rests : (κs : Lfts n) (ss : List (Slot n)) (ks : Kepts ss) (a : Denots (types_at ss κs)) → Fins κs ss ks a
  rests κs [] ks a = tt
  rests κs (s ∷ ss) ks a = (rest ((s.row κs).exit ks.0) a.0, rests κs ss ks.1 a.1)

  -- that it fits
  fit_all : (κs : Lfts n) (ss : List (Slot n)) (ks : Kepts ss) (a : Denots (types_at ss κs)) → fits_of κs ss ks (dropped ss ks) a (rests κs ss ks a)
  fit_all κs [] ks a = tt
  fit_all κs (s ∷ ss) ks a = (tt, fit_all κs ss ks.1 a.1)

  module _ {M : Type 1} {𝓤 : Ura M} (𝓛 : Logic 𝓤) where
    -- each meets the law of its slot
    go_dropped : (ss : List (Slot n)) (ks : Kepts ss) → ((κs : Lfts n) → T (mutes κs ss ks)) → AllGo 𝓛 n ss ks (dropped ss ks)
    go_dropped [] ks h = tt
    go_dropped (s ∷ ss) ks h = (
      Goes-Silent 𝓛 n s ks.0 (stay_dropped s ks.0) (λ κs x f. mute_left ((s.row κs).exit ks.0) (both_yes (mute ((s.row κs).exit ks.0)) (mutes κs ss ks.1) (h κs)).0 x f),
      go_dropped ss ks.1 (λ κs. (both_yes (mute ((s.row κs).exit ks.0)) (mutes κs ss ks.1) (h κs)).1),
    )

    -- what is had of them is nothing
    had_none : (κs : Lfts n) (ss : List (Slot n)) (ks : Kepts ss) (a : Denots (types_at ss κs)) (vss : Valss (types_at ss κs)) → ent 𝓤 (emp 𝓤) (sem 𝓛 (has_of κs ss ks (dropped ss ks) a (rests κs ss ks a) vss))
    had_none κs [] ks a vss = id⊢ 𝓤 (emp 𝓤)
    had_none κs (s ∷ ss) ks a vss = let P : SProp 𝓤 = sem 𝓛 (has_of κs ss ks.1 (dropped ss ks.1) a.1 (rests κs ss ks.1 a.1) vss.1) in via 𝓤 P (had_none κs ss ks.1 a.1 vss.1) (emp∗ 𝓤 P)

module _ {M : Type 1} {𝓤 : Ura M} (𝓛 : Logic 𝓤) (X : Ended) (c : Clauses 𝓤 X) where
  open 𝓛 use {H}

  abbrev hs : Stays X.signature.params X.kept
  hs = dropped X.signature.params X.kept

  -- an export is proved by a walk from what its clauses ask
  pub export_proved : ((κs : Lfts X.signature.lifetimes) → T (mutes κs X.signature.params X.kept)) → (𝓜 : Model 𝓤 H) (𝓡 : Running 𝓤 H 𝓜) (k : Callee) (e : Fn)
      → Closed 𝓤 H (tables 𝓤 H 𝓜 𝓡 𝓡.env).C (tables 𝓤 H 𝓜 𝓡 𝓡.env).Λ k e
      → ((y : (walk_of 𝓛 X hs c).Ghost) → Are (types_at X.signature.params y.0.0) (Ises (types_at X.signature.params y.0.0)) y.0.3 y.0.4
      → Sq 𝓛 (‵ (owns (types_at X.signature.params y.0.0) y.0.3 y.0.4) ∷ raw ((c y.0.0 y.0.3).requires y.1) ∷ [])
      (prop (WpFn 𝓤 H (tables 𝓤 H 𝓜 𝓡 𝓡.env).C (tables 𝓤 H 𝓜 𝓡 𝓡.env).Λ e ((walk_of 𝓛 X hs c).args y) ((walk_of 𝓛 X hs c).post y))))
      → Meets 𝓛 X.signature ((tables 𝓤 H 𝓜 𝓡 𝓡.env).C k) (closing 𝓛 X c)
  export_proved silent 𝓜 𝓡 k e closed walk = proved_at 𝓛 X hs c 𝓜 𝓡 (go_dropped 𝓛 X.signature.params X.kept silent) k e closed (λ y are.
      qed 𝓛 ((raw (alive 𝓛 X.signature y.0.0 y.0.1) ⊛ ‵ (owns (types_at X.signature.params y.0.0) y.0.3 y.0.4)) ∷ raw ((c y.0.0 y.0.3).requires y.1) ∷ []) ∵ split ! $ drop ! $ walk y are)

  -- and ends with what was lent, and the fact of its `ensures`
  pub walk_ends : (y : (walk_of 𝓛 X hs c).Ghost) (v : Val) (r : Res X.signature y.0.0) (Qs : List Fml) {φ : Type 0} → φ → ent 𝓤 (emp 𝓤) (alive 𝓛 X.signature y.0.0 y.0.1)
      → ent 𝓤 (over 𝓛 Qs (fact 𝓤 φ)) ((c y.0.0 y.0.3).ensures y.1 r (at_exit X y.0.0 y.0.3 (rests y.0.0 X.signature.params X.kept y.0.3)))
      → ent 𝓤 (sep 𝓤 (sem 𝓛 ((type_at X.signature.result y.0.0).own_val r (v ∷ []))) (sem 𝓛 (loose Qs))) ((walk_of 𝓛 X hs c).post y v)
  walk_ends y v r Qs {φ} holds lives said =
      let ws = rests y.0.0 X.signature.params X.kept y.0.3 in
      qed 𝓛 (‵ ((type_at X.signature.result y.0.0).own_val r (v ∷ [])) ∷ ‵ (loose Qs) ∷ []) ∵ use0 𝓛 (raw (fact 𝓤 φ)) (fact_i 𝓤 φ (emp 𝓤) holds) $
      move ! (2 ∷ 0 ∷ []) $ use2 𝓛 (raw (over 𝓛 Qs (fact 𝓤 φ))) (closed 𝓛 Qs (fact 𝓤 φ)) $ use1 𝓛 (raw ((c y.0.0 y.0.3).ensures y.1 r (at_exit X y.0.0 y.0.3 ws))) said $
      use0 𝓛 (‵ (has_of y.0.0 X.signature.params X.kept hs y.0.3 ws y.0.4)) (had_none 𝓛 y.0.0 X.signature.params X.kept y.0.3 y.0.4) $
      use0 𝓛 (raw (alive 𝓛 X.signature y.0.0 y.0.1)) lives $ move ! (0 ∷ 1 ∷ 3 ∷ []) $
      by ! (leaves_all 𝓛 X hs c y v r ws (fit_all y.0.0 X.signature.params X.kept y.0.3))

-- ---- the machine values that an export is called with
abbrev first : List Ty → Ty
first [] = ty_ptr
first (τ ∷ τs) = τ

abbrev others : List Ty → List Ty
others [] = []
others (τ ∷ τs) = τs

abbrev empty : List Ty → Type 0
empty [] = Unit {0}
empty (τ ∷ τs) = ⊥

none_left : {τ : Ty} {τs : List Ty} → [] ≡ τ ∷ τs → ⊥
none_left e = subst empty e tt

module _ {M : Type 1} {𝓤 : Ura M} {𝓛 : Logic 𝓤} where
  abbrev pub words : List (Passed 𝓛) → List Val
  words [] = []
  words (allocator a h fits ∷ ps) = h ∷ words ps
  words (number w x low ∷ ps) = vint w x ∷ words ps
  words (to_read loan p xs ∷ ps) = ptr_val p ∷ words ps
  words (shared R copied q p n xs ∷ ps) = ptr_val p ∷ words ps
  words (filled R p n xs ∷ ps) = ptr_val p ∷ words ps

  -- the types of the parameters' locals
  abbrev local_types : List (Passed 𝓛) → List Ty
  local_types [] = []
  local_types (allocator a h fits ∷ ps) = layout Z ∷ local_types ps
  local_types (number w x low ∷ ps) = ty_int w ∷ local_types ps
  local_types (to_read loan p xs ∷ ps) = ty_ptr ∷ local_types ps
  local_types (shared R copied q p n xs ∷ ps) = ty_ptr ∷ local_types ps
  local_types (filled R p n xs ∷ ps) = ty_ptr ∷ local_types ps

  -- and the types of the first locals
  abbrev firsts : List (Passed 𝓛) → List (Ty × ℕ) → List Ty
  firsts [] E = []
  firsts (p ∷ ps) [] = []
  firsts (p ∷ ps) (e ∷ E) = e.0 ∷ firsts ps E

  -- each is of the type of its local
  pub typed : (ps : List (Passed 𝓛)) (E : List (Ty × ℕ)) → firsts ps E ≡ local_types ps → AllTyped E (words ps)
  typed [] E h = tt
  typed (allocator a h fits ∷ ps) [] e = absurd (none_left e)
  typed (number w x low ∷ ps) [] e = absurd (none_left e)
  typed (to_read loan p xs ∷ ps) [] e = absurd (none_left e)
  typed (shared R copied q p n xs ∷ ps) [] e = absurd (none_left e)
  typed (filled R p n xs ∷ ps) [] e = absurd (none_left e)
  typed (allocator a h fits ∷ ps) (l ∷ E) e = (subst (λ (τ : Ty). T (has_ty τ h) × WT h) (sym (ap first e)) fits, typed ps E (ap others e))
  typed (number w x low ∷ ps) (l ∷ E) e = (subst (λ (τ : Ty). T (has_ty τ (vint w x)) × WT (vint w x)) (sym (ap first e)) (((uint_Lawful 𝓛 w).typed x (vint w x ∷ []) (refl, low)).0), typed ps E (ap others e))
  typed (to_read loan p xs ∷ ps) (l ∷ E) e = (subst (λ (τ : Ty). T (has_ty τ (ptr_val p)) × WT (ptr_val p)) (sym (ap first e)) (ptr_good p), typed ps E (ap others e))
  typed (shared R copied q p n xs ∷ ps) (l ∷ E) e = (subst (λ (τ : Ty). T (has_ty τ (ptr_val p)) × WT (ptr_val p)) (sym (ap first e)) (ptr_good p), typed ps E (ap others e))
  typed (filled R p n xs ∷ ps) (l ∷ E) e = (subst (λ (τ : Ty). T (has_ty τ (ptr_val p)) × WT (ptr_val p)) (sym (ap first e)) (ptr_good p), typed ps E (ap others e))

  -- the types of the parameters, and their values
  abbrev params : List (Passed 𝓛) → List RattleType
  params [] = []
  params (allocator a h fits ∷ ps) = Z ∷ params ps
  params (number w x low ∷ ps) = UInt w ∷ params ps
  params (to_read loan p xs ∷ ps) = RawPtr ∷ params ps
  params (shared R copied q p n xs ∷ ps) = RawPtr ∷ params ps
  params (filled R p n xs ∷ ps) = RawPtr ∷ params ps

  abbrev values : (ps : List (Passed 𝓛)) → Denots (params ps)
  values [] = tt
  values (allocator a h fits ∷ ps) = (a, values ps)
  values (number w x low ∷ ps) = (x, values ps)
  values (to_read loan p xs ∷ ps) = (p, values ps)
  values (shared R copied q p n xs ∷ ps) = (p, values ps)
  values (filled R p n xs ∷ ps) = (p, values ps)

  -- the allocator's machine value is h
  abbrev Allocators : (ps : List (Passed 𝓛)) → Valss (params ps) → Type 0
  Allocators [] vss = Unit {0}
  Allocators (allocator a h fits ∷ ps) vss = (vss.0 ≡ h ∷ []) × Allocators ps vss.1
  Allocators (number w x low ∷ ps) vss = Allocators ps vss.1
  Allocators (to_read loan p xs ∷ ps) vss = Allocators ps vss.1
  Allocators (shared R copied q p n xs ∷ ps) vss = Allocators ps vss.1
  Allocators (filled R p n xs ∷ ps) vss = Allocators ps vss.1

  -- the machine values are those of the parameters
  pub told : (ps : List (Passed 𝓛)) (vss : Valss (params ps)) → Are (params ps) (Ises (params ps)) (values ps) vss → Allocators ps vss → flat (params ps) vss ≡ words ps
  told [] vss are allocators = refl
  told (allocator a h fits ∷ ps) vss are allocators = joined allocators.0 (told ps vss.1 are.1 allocators.1)
  told (number w x low ∷ ps) vss are allocators = joined are.0.0 (told ps vss.1 are.1 allocators)
  told (to_read loan p xs ∷ ps) vss are allocators = joined are.0 (told ps vss.1 are.1 allocators)
  told (shared R copied q p n xs ∷ ps) vss are allocators = joined are.0 (told ps vss.1 are.1 allocators)
  told (filled R p n xs ∷ ps) vss are allocators = joined are.0 (told ps vss.1 are.1 allocators)

module _ {M : Type 1} {𝓤 : Ura M} {𝓛 : Logic 𝓤} {K : Type 0} {Γ : List (Item 𝓤)} where
  -- a function is entered with values that are known to be others
  pub enters : K → (C : Calls 𝓤 𝓛.H) (Λ : Loops 𝓤 𝓛.H) (f : Fn) (vs : List Val) (Kf : Val → SProp 𝓤) {us : List Val} → us ≡ vs
      → Step K 𝓛 Γ (allocs f.locals (λ E. params' E vs (runs C Λ E f.body (at_ret E Kf)))) Γ (prop (WpFn 𝓤 𝓛.H C Λ f us Kf))
  enters t C Λ f vs Kf {us} e = step (λ s. suffices t (WpFn 𝓤 𝓛.H C Λ f vs Kf) (subst (λ (ws : List Val). ent 𝓤 (WpFn 𝓤 𝓛.H C Λ f vs Kf) (WpFn 𝓤 𝓛.H C Λ f ws Kf)) (sym e) (id⊢ 𝓤 _)) $
      enter t C Λ f vs Kf $ s)

module _ {M : Type 1} {𝓤 : Ura M} {𝓛 : Logic 𝓤} {K : Type 0} {Γ : List (Item 𝓤)} {G : Goal 𝓤 𝓛.H} where
  -- what the clauses ask is taken apart
  pub begins : K → {P : Fml} {R : SProp 𝓤} (ps : List (Passed 𝓛)) (φ : Type 0) → ent 𝓤 R (sep 𝓤 (fact 𝓤 φ) (sem 𝓛 (tight (arrays ps))))
      → (φ → Counts ps → Seq K 𝓛 (‵ (loose (arrays ps)) ∷ Γ) G) → Seq K 𝓛 (‵ P ∷ raw R ∷ Γ) G
  begins t ps φ h k = drop t $ use1 𝓛 (raw (fact 𝓤 φ) ⊛ ‵ (tight (arrays ps))) h $ split t $ heard t φ (λ tests. use1 𝓛 (‵ (loose (arrays ps))) (untie 𝓛 (arrays ps)) $ counts_of t ps (λ counts. k tests counts))

module _ {M : Type 1} {𝓤 : Ura M} {𝓛 : Logic 𝓤} {K : Type 0} {Γ : List (Item 𝓤)} {G : Goal 𝓤 𝓛.H} where
  -- the same of an export that is given the allocator first
  pub begins_with : K → {P : Fml} {R : SProp 𝓤} (a : Z.Denot) (vs : List Val) (ps : List (Passed 𝓛)) (φ : Type 0) → ent 𝓤 R (sep 𝓤 (fact 𝓤 φ) (sem 𝓛 (tight (arrays ps))))
      → ((v : Val) → vs ≡ v ∷ [] → (fits : T (has_ty (layout Z) v) × WT v) → φ → Counts ps → Seq K 𝓛 (‵ (loose (arrays (allocator a v fits ∷ ps))) ∷ Γ) G) → Seq K 𝓛 (‵ (fsep (Z.own_val a vs) P) ∷ raw R ∷ Γ) G
  begins_with t a vs ps φ h k = fsplit t $ move t (1 ∷ 2 ∷ []) $ begins t ps φ h (λ tests counts. move t (1 ∷ []) $ handle_tells zal t a vs (λ v is fits. fjoin t $ k v is fits tests counts))

-- a list without its first entry
abbrev pub tail : {X : Type 0} → List X → List X
tail [] = []
tail (x ∷ xs) = xs

-- the locals of a function's parameters, and those after them
abbrev pub locals_of : Fn → (ℕ → ℕ) → List (Ty × ℕ)
locals_of f l = tail (env f.locals l)
