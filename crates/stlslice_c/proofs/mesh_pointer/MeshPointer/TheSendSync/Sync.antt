-- A mesh that C keeps may be read by several threads.
use denote.RawPtr.{Ptr}
use denote.Struct.Owning.{fields, shape, to}
use denote.Param.Send.{AllSync, Common, IsSync, struct_sync, sendable}
use Rattle.std.specs.Prelude.{Option, None, Some}
use Rattle.std.proofs.Crossing as heap
use Rattle.std_alloc.proofs.SendSync.{seen as lent}
use Rattle.std.specs.contracts.alloc.Global as Heap
use Rattle.std.specs.contracts.impls.GlobalAllocator.TheImpl.{ghosts}
use Rattle.layer_session.proofs.session.Session.TheSendSync.{the_sync as the_session_sync}
use Rattle.stlslice_c.specs.MeshPointer.{seen, session_row}
use Rattle.stlslice_c.specs.contracts.mesh_pointer.MeshPointer.{the_row, the_type}

session_sync : IsSync session_row
session_sync = the_session_sync Heap.the_row ghosts heap.sync

pointer_common : (p : Ptr) (x : Option session_row.Denot) → Common (seen session_row p x)
pointer_common p None = λ κ. tt
pointer_common p (Some x) = lent session_row session_sync p x

pub sync : IsSync the_row
sync =
    let all : AllSync (fields the_type) = (search sendable, tt) in
    record { shared = λ d b o κ. ((struct_sync (shape the_type) all).shared (to the_type d) b o κ, pointer_common d.at d.session κ) }
