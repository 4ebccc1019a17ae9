-- What a pointer that C keeps owns: a box if there is one, else nothing. And what a `&` to it has: a `&` to what is in the box.
use Rattle.std.specs.Prelude.{Option, None, Some}
use mir.Syntax.{Ty}
use base.Fml.{Fml, Lft, ftrue}
use Rattle.std.specs.contracts.impls.GlobalAllocator.TheImpl.{ghosts}
use denote.RattleType.{RattleType}
use denote.RawPtr.{Ptr}
use denote.Sharing.{nothing}
use denote.Struct.Lending.{lent_at}
use Rattle.std_alloc.specs.Box.Ownership.{box_owns}
use Rattle.std.specs.contracts.alloc.Global as heap
use Rattle.layer_session.specs.contracts.session.Session as session

-- a session whose memory is of the heap
abbrev pub session_row : RattleType
session_row = session.the_row heap.the_row ghosts

-- the right to free a block of the heap
abbrev pub token : Ty → Ptr → Fml
token = ghosts.dealloc_token (record { memory = record { seal = tt } })

abbrev pub owned : (Ty → Ptr → Fml) → (R : RattleType) → Ptr → Option R.Denot → Fml
owned free R p None = ftrue
owned free R p (Some x) = box_owns free R p x

abbrev pub seen : (R : RattleType) → Ptr → Option R.Denot → Lft → Fml
seen R p None = nothing
seen R p (Some x) = lent_at R p x
