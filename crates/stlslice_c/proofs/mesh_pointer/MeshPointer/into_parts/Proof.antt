use Rattle.std.proofs.Common.{◌≡◌, List, [], ◌∷◌, ◌++◌, refl, sym, subst}
use mir.Val.{Val, vptr}
use base.Logic.{SProp, ent, emp, never, id⊢, fst∗}
use base.Fml.{ftrue}
use prog.Wp.{WpFn}
use types.Logic.{sem}
use types.Kit.{‵, raw, ◌⊛◌, ◌$◌, ◌∵◌, !, qed, by, move, keep, split, fsplit, fjoin, suffices, use0, rewrite}
use types.Run.{stop, fld, of_opd, no_more, and_then, returns, enter}
use types.ByLocal.{alloc_all, pass_all, free_all, look_at, get, get_in, sets}
use types.Part.{agg, sub, whole}
use contract.Monad.{fact, fact_i}
use contract.Running.{tables}
use denote.Exit.{yes}
use denote.RattleType.{RattleType, owns}
use denote.Signature.{types_at, plain}
use denote.RawPtr.{Ptr, block_ptr, null_ptr, ptr_val, in_a_block}
use denote.Memory.{lone}
use mir.Raw.{raw as bare}
use denote.Steps.{nothing, heard}
use denote.Triple.Walked.{Stays, stay_dropped, walk_of}
use Rattle.core.proofs.alloc.Calls.{Goes-blank, handle_tells}
use Rattle.std.specs.Prelude.{Option, true, is_some}
use Rattle.core.specs.declared.option.Option.TheVariants.{Some}
use Rattle.std_alloc.specs.Box.Ownership.{box_owns}
use Rattle.std.proofs.raw_atomic.Walks.{proved_at, leaves}
use Rattle.stlslice_c.specs.MeshPointer.{owned, token}
use Rattle.std.specs.contracts.impls.GlobalAllocator.TheImpl.{ghosts}
use Rattle.stlslice_c.proofs.lemmas.Values.{both, alone, parts_good, parts_in, R, Z, LZ, MeshPointer, zal, pointer_good, pointer_out, some_of}
use Rattle.stlslice_c.specs.contracts.mesh_pointer.MeshPointer.into_parts.{ended, clauses}
use Rattle.stlslice_c.specs.contracts.mesh_pointer.MeshPointer.into_parts.Key.{name as #self}
use Rattle.stlslice_c.proofs.mesh_pointer.MeshPointer.into_parts.Statement.{statement}
use Rattle.stlslice_c.proofs.mesh_pointer.MeshPointer.into_parts.Code as code

pub into_parts_spec : {M : Type 1} → statement M
into_parts_spec 𝓤 𝓛 𝓜 𝓡 wired =
    let H = 𝓛.H in let 𝓣 = tables 𝓤 H 𝓜 𝓡 𝓡.env in let c = clauses 𝓛 𝓜.mem 𝓡.returns in let fn = code.function in
    let From : RattleType = MeshPointer in let hs : Stays ended.signature.params ended.kept = (stay_dropped (plain (λ _. From)) yes, (stay_dropped (plain (λ _. Z)) yes, tt)) in
    proved_at 𝓛 ended hs c 𝓜 𝓡 (Goes-blank 𝓛 0 (plain (λ _. From)) yes (λ κs x f. tt), (Goes-blank 𝓛 0 (plain (λ _. Z)) yes (λ κs x f. tt), tt)) #self fn (code.unfolded 𝓤 H 𝓜 𝓡 wired) (λ z are.
    let κs = z.0.0 in let v = z.0.3.0 in let Post : Val → SProp 𝓤 = (walk_of 𝓛 ended hs c).post z in let Run : List Val → SProp 𝓤 = λ ws. WpFn 𝓤 H 𝓣.C 𝓣.Λ fn ws Post in
    qed 𝓛 ((‵ ftrue ⊛ ‵ (owns (types_at ended.signature.params κs) z.0.3 z.0.4)) ∷ raw ((c κs z.0.3).requires z.1) ∷ []) ∵ split ! $ move ! (1 ∷ []) $ fsplit ! $
    pointer_out ! v z.0.4.0 (λ ws. let a = z.0.3.1.0 in move ! (3 ∷ []) $ heard ! (is_some v.session ≡ true) (λ some. let x₁ : R.Denot = (some_of v.session some).0 in let is : v.session ≡ Some x₁ = (some_of v.session some).1 in rewrite ! 0 (λ (x : Option R.Denot). ‵ (owned token R v.at x)) is refl $
    in_a_block ! v.at (λ p. box_owns token R p x₁) (fst∗ 𝓤 (never 𝓤) (sem 𝓛 (token (bare (lone R.mir)) null_ptr))) (λ b o e. move ! (1 ∷ []) $ fsplit ! $ handle_tells zal ! a z.0.4.1.0 (λ h hs' fits.
    let w : Val = alone (vptr b o) in let said = subst (λ (p : Ptr). z.0.4.0 ≡ alone (ptr_val p) ∷ []) e ws in
    suffices ! (Run (w ∷ h ∷ [])) (subst (λ (us : List Val). ent 𝓤 (Run (w ∷ h ∷ [])) (Run (us ++ (z.0.4.1.0 ++ [])))) (sym said) (subst (λ (us : List Val). ent 𝓤 (Run (w ∷ h ∷ [])) (Run (w ∷ (us ++ [])))) (sym hs') (id⊢ 𝓤 (Run (w ∷ h ∷ []))))) $
    enter ! 𝓣.C 𝓣.Λ fn (w ∷ h ∷ []) Post $ alloc_all ! (λ l. pass_all ! refl (pointer_good (block_ptr b o), (fits, tt)) $
    sets ! (of_opd ! (get_in ! (fld ! refl (stop !)) (sub ! 0 refl (whole !)))) refl (tt, tt) $
    sets ! (of_opd ! (get ! refl)) refl (tt, tt) $ sets ! (agg ! (and_then ! (get ! refl) (and_then ! (get ! refl) (no_more !)))) refl (parts_good R Z LZ ghosts b o h fits) $
    move ! (2 ∷ 0 ∷ []) $ parts_in R Z LZ ghosts ! b o h a x₁ $ use0 𝓛 (raw (fact 𝓤 (v.session ≡ Some x₁))) (fact_i 𝓤 (v.session ≡ Some x₁) (emp 𝓤) is) $ nothing ! $ nothing ! $ fjoin ! $ nothing ! $ fjoin ! $
    returns ! (look_at ! 0 refl) $ free_all ! refl $ keep ! (4 ∷ 0 ∷ 2 ∷ 1 ∷ []) $ by ! (leaves 𝓛 ended hs c z (both (vptr b o) h) (record { at = block_ptr b o; alloc = a; value = x₁ }) (tt, (tt, tt)) (tt, (tt, tt)))))))))
