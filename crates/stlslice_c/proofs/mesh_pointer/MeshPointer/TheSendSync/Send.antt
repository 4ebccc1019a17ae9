-- A mesh that C keeps may go to another thread.
use mir.Raw.{raw}
use base.Shift.{Keyless}
use denote.Memory.{lone}
use denote.RawPtr.{Ptr}
use denote.Struct.Struct.{exits_of}
use denote.Struct.Owning.{shape, fields, to}
use denote.Param.Send.{IsSend, AllSend, owning_send, struct_send, sendable}
use Rattle.std.specs.Prelude.{Option, None, Some}
use Rattle.std.proofs.Crossing as heap
use Rattle.std_alloc.proofs.SendSync.{quiet, lies}
use Rattle.std.specs.contracts.alloc.Global as Heap
use Rattle.std.specs.contracts.impls.GlobalAllocator.TheImpl.{ghosts}
use Rattle.layer_session.proofs.session.Session.TheSendSync.{the_send as the_session_send}
use Rattle.stlslice_c.specs.MeshPointer.{owned, session_row, token}
use Rattle.stlslice_c.specs.contracts.mesh_pointer.MeshPointer.{the_row, the_type}

session_send : IsSend session_row
session_send = the_session_send Heap.the_row ghosts heap.send heap.frees

pointer_keyless : (p : Ptr) (x : Option session_row.Denot) → Keyless (owned token session_row p x)
pointer_keyless p None = tt
pointer_keyless p (Some x) =
    (lies session_row session_send p x, heap.frees.frees (record { memory = record { seal = tt } }) (raw (lone session_row.mir)) p)

pub send : IsSend the_row
send =
    let all : AllSend (fields the_type) = (search sendable, tt) in
    owning_send the_type all (λ d. pointer_keyless d.at d.session)
    (λ k. quiet (to the_type) (exits_of k (fields the_type)) ((struct_send (shape the_type) all).leaving k))
