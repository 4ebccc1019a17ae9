use Rattle.std.proofs.Common.{◌≡◌, ℕ, ◌+◌, List, [], ◌∷◌, ◌++◌, refl, sym, subst}
use seplogic.Ra.Ura.{Ura}
use mir.Val.{Val, vptr}
use base.Logic.{SProp, ent, sep, emp, id⊢}
use base.Fml.{Lft, ftrue, fhide, flft}
use prog.Wp.{WpFn}
use types.Logic.{Logic, sem}
use types.Kit.{at_ret, ‵, raw, ◌⊛◌, ◌$◌, ◌∵◌, !, qed, by, move, keep, split, join, fsplit, fjoin, feq_i, feq_l, suffices, use0, use1, rewrite, done}
use types.Run.{stop, fld, of_opd, load, look, addr, first, blocks, exec, returns, enter}
use types.ByLocal.{alloc_all, pass_all, free_all, look_at, get, through, sets, sets_last, env}
use contract.Monad.{fact, fact_i}
use contract.Running.{tables}
use denote.Exit.{yes}
use denote.RattleType.{RattleType, owns}
use denote.Signature.{types_at, plain}
use denote.Memory.{hidden_shr}
use denote.Opens.{shr_dup, unhide, hide}
use denote.RawPtr.{RawPtr, InBlock, block_of, count_of, ptr_row_laws}
use denote.Struct.Struct.{Struct, Struct-row_laws}
use denote.Struct.Owning.{shape}
use denote.Struct.Lending.{in_block_says, lent_out}
use denote.Steps.{nothing, heard}
use denote.Triple.Walked.{Stays, Goes-none_ref, stay_none_ref, walk_of}
use Rattle.std.specs.Prelude.{Option, true, is_some}
use Rattle.core.specs.declared.option.Option.TheVariants.{Some}
use Rattle.std.proofs.raw_atomic.Walks.{proved_at, leaves}
use Rattle.std_alloc.proofs.VecSteps.Shapes.{after}
use Rattle.std_alloc.proofs.Words.{pointer_in, pointer_out}
use Rattle.stlslice_c.specs.MeshPointer.{seen}
use Rattle.stlslice_c.specs.contracts.mesh_pointer.MeshPointer as pointer
use Rattle.stlslice_c.proofs.mesh_pointer.MeshPointer.TheLaws as laws
use Rattle.stlslice_c.proofs.lemmas.Values.{R, MeshPointer, some_of}
use Rattle.stlslice_c.specs.contracts.mesh_pointer.MeshPointer.session.{ended, clauses}
use Rattle.stlslice_c.specs.contracts.mesh_pointer.MeshPointer.session.Key.{name as #self}
use Rattle.stlslice_c.proofs.mesh_pointer.MeshPointer.session.Statement.{statement}
use Rattle.stlslice_c.proofs.mesh_pointer.MeshPointer.session.Code as code

module _ {M : Type 1} {𝓤 : Ura M} (𝓛 : Logic 𝓤) (κ : Lft) (b o : ℕ) (d : MeshPointer.Denot) where
  abbrev Words : RattleType
  Words = Struct (shape pointer.the_type)

  abbrev word : Words.Denot
  word = (d.at, tt)

  -- a `&` to the pointer's word is had of one to the whole
  shows_at : ent 𝓤 (sem 𝓛 (hidden_shr Words κ word b o)) (sep 𝓤 (sem 𝓛 (hidden_shr RawPtr κ d.at b (o + 0))) (sem 𝓛 (hidden_shr Words κ word b o)))
  shows_at = qed 𝓛 (‵ (hidden_shr Words κ word b o) ∷ []) ∵ shr_dup ! Words (Struct-row_laws (shape pointer.the_type) (ptr_row_laws, tt)) word b o κ $
      unhide ! $ fsplit ! $ fsplit ! $ hide ! $ keep ! (0 ∷ 3 ∷ []) $ done !

pub session_spec : {M : Type 1} → statement M
session_spec 𝓤 𝓛 𝓜 𝓡 wired =
    let H = 𝓛.H in let 𝓣 = tables 𝓤 H 𝓜 𝓡 𝓡.env in let c = clauses 𝓛 𝓜.mem 𝓡.returns in let fn = code.function in
    let hs : Stays ended.signature.params ended.kept = (stay_none_ref (0 ∷ []) tt (plain (λ _. MeshPointer)) yes, tt) in
    let go = Goes-none_ref 𝓛 1 (0 ∷ []) tt (plain (λ _. MeshPointer)) yes in
    proved_at 𝓛 ended hs c 𝓜 𝓡 (go, tt) #self fn (code.unfolded 𝓤 H 𝓜 𝓡 wired) (λ z are.
    let κ = z.0.0.0 in let q = z.0.1.0 in let self = z.0.3.0 in let b = self.ref_ptr.0 in let o = self.ref_ptr.1 in let d = self.now in
    let Post : Val → SProp 𝓤 = (walk_of 𝓛 ended hs c).post z in let Run : List Val → SProp 𝓤 = λ ws. WpFn 𝓤 H 𝓣.C 𝓣.Λ fn ws Post in
    let Asked = ‵ (owns (types_at ended.signature.params z.0.0) z.0.3 z.0.4) in
    qed 𝓛 (((‵ (flft κ q) ⊛ ‵ ftrue) ⊛ Asked) ∷ raw ((c z.0.0 z.0.3).requires z.1) ∷ []) ∵ split ! $ split ! $
    move ! (3 ∷ []) $ heard ! (is_some d.session ≡ true) (λ some.
    let x : R.Denot = (some_of d.session some).0 in let is : d.session ≡ Some x = (some_of d.session some).1 in
    -- [the token; no more tokens; the argument]
    move ! (2 ∷ []) $ fsplit ! $ fsplit ! $ feq_l ! (λ ev.
    suffices ! (Run (vptr b o ∷ [])) (subst (λ (us : List Val). ent 𝓤 (Run (vptr b o ∷ [])) (Run (us ++ []))) (sym ev) (id⊢ 𝓤 (Run (vptr b o ∷ [])))) $
    shr_dup ! MeshPointer laws.the_row_laws.shr_laws d b o κ $
    use1 𝓛 (‵ (hidden_shr (Words 𝓛 κ b o d) κ (word 𝓛 κ b o d) b o) ⊛ ‵ (fhide (seen R d.at d.session κ)))
    (lent_out 𝓛 pointer.struct pointer.the_codes pointer.the_heap pointer.the_lent κ d b o) $ split ! $
    move ! (1 ∷ []) $ rewrite ! 0 (λ (y : Option R.Denot). ‵ (fhide (seen R d.at y κ))) is refl $ unhide ! $ fsplit ! $
    use1 𝓛 (raw (fact 𝓤 (InBlock d.at))) (in_block_says 𝓛 d.at) $ heard ! (InBlock d.at) (λ inb. hide ! $
    -- [the mesh; the word; the whole; no more arguments; the token; no more tokens]
    enter ! 𝓣.C 𝓣.Λ fn (vptr b o ∷ []) Post $ alloc_all ! (λ l. pass_all ! refl ((tt, tt), tt) $
    move ! (1 ∷ 4 ∷ []) $ pointer_in ! tt d.at inb b (o + 0) (shows_at 𝓛 κ b o d) (λ q'.
    sets ! (of_opd ! (load ! (through ! refl (fld ! refl (stop !))) (look ! 1 refl))) refl (tt, tt) $
    pointer_out ! tt d.at inb b (o + 0) $
    -- [the token; the word; the mesh; the whole; no more arguments; no more tokens]
    sets ! (of_opd ! (get ! refl)) refl (tt, tt) $
    first ! $ blocks ! $ sets_last ! (addr ! (through ! refl (stop !))) refl (tt, tt) $
    exec ! 𝓣.C 𝓣.Λ (env fn.locals l) (after 3 fn.body) (at_ret _ Post) $
    sets ! (of_opd ! (get ! refl)) refl (tt, tt) $
    returns ! (look_at ! 0 refl) $ free_all ! refl $
    nothing ! $ nothing ! $ keep ! (2 ∷ 0 ∷ 5 ∷ 1 ∷ 4 ∷ []) $ join ! $
    move ! (1 ∷ []) $ feq_i ! (List Val) z.0.4.0 (vptr b o ∷ []) ev $ fjoin ! $ move ! (0 ∷ 2 ∷ []) $ fjoin ! $
    let at : ℕ × ℕ = (block_of d.at, count_of d.at) in let w : Val = vptr at.0 at.1 in
    move ! (2 ∷ []) $ feq_i ! (List Val) (w ∷ []) (w ∷ []) refl $ fjoin ! $
    use0 𝓛 (raw (fact 𝓤 (d.session ≡ Some x))) (fact_i 𝓤 (d.session ≡ Some x) (emp 𝓤) is) $ move ! (3 ∷ 2 ∷ 1 ∷ 0 ∷ []) $
    by ! (leaves 𝓛 ended hs c z w (record { ref_ptr = at; now = x }) (tt, tt) (tt, tt))))))))
