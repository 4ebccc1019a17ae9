-- A `&` to a mesh that C keeps is made where one to the mesh is. Assumes `Logic`.
use mir.Raw.{raw}
use base.Fraction.{full_share}
use base.Fml.{Lft, Incl}
use contract.BorrowLft.{⊑_static}
use seplogic.Ra.Ura.{Ura}
use types.Logic.{Logic}
use denote.Memory.{lone}
use denote.RawPtr.{Ptr, lies_at}
use denote.Shares.{Shares-less}
use denote.Sharing.{ShrLaws}
use denote.SharingLaws.{nothing_shr_laws}
use denote.Param.Laws.{Laws}
use denote.Param.Shared.{copy_shared}
use denote.Struct.Field.{RawPtr-field}
use denote.Struct.Laws.{RawPtr-copy}
use denote.Struct.Lending.{Lends, Lends-first, Lends-lies, Lends-nothing, lent_at, lent_at_shr_laws, of_Lends}
use Rattle.std.specs.Prelude.{Option, None, Some}
use Rattle.std.proofs.alloc.Global.TheLaws as heap_laws
use Rattle.std.specs.contracts.alloc.Global as heap
use Rattle.std.specs.contracts.impls.GlobalAllocator.TheImpl.{ghosts}
use Rattle.layer_session.proofs.session.Session.TheLaws as session_laws
use Rattle.stlslice_c.specs.MeshPointer.{owned, seen, session_row, token}
use Rattle.stlslice_c.specs.contracts.mesh_pointer.MeshPointer as C
use Rattle.stlslice_c.proofs.mesh_pointer.MeshPointer.TheLaw.Statement.{statement}

of_session : Laws session_row
of_session = session_laws.the_row_laws heap.the_row ghosts heap_laws.the_row_laws

seen_shr_laws : (p : Ptr) (x : Option session_row.Denot) → ShrLaws (seen session_row p x)
seen_shr_laws p None = nothing_shr_laws
seen_shr_laws p (Some x) = lent_at_shr_laws session_row of_session.shr_laws p x

lends : {M : Type 1} {𝓤 : Ura M} (𝓛 : Logic 𝓤) (l : Lft) → Incl l session_row.lives → (p : Ptr) (x : Option session_row.Denot)
    → Lends 𝓛 (owned token session_row p x) (seen session_row p x) l
lends 𝓛 l within p None = Lends-nothing 𝓛 (owned token session_row p None) l
lends 𝓛 l within p (Some x) =
    Lends-first 𝓛 (lies_at session_row full_share p x) (token (raw (lone session_row.mir)) p) (lent_at session_row p x) l
    (Lends-lies 𝓛 session_row l p x (Shares-less 𝓛 session_row session_row.lives l within (of_session.shares 𝓛) x))

pub shares : statement
shares = of_Lends C.struct C.the_codes C.the_heap C.the_lent (λ d p. seen_shr_laws d.at d.session) (copy_shared RawPtr-field RawPtr-copy, tt)
    (λ M 𝓤 𝓛 d p. lends 𝓛 C.the_row.lives (⊑_static _) d.at d.session)
