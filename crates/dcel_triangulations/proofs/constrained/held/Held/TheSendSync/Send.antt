use base.Shift.{Keyless}
use denote.Memory.{lone}
use denote.Param.Send.{IsSend, AllSend, owning_send, struct_send, sendable}
use denote.RawPtr.{Ptr}
use denote.Struct.Owning.{shape, fields, to}
use denote.Struct.Struct.{exits_of}
use mir.Raw.{raw}
use Rattle.dcel_triangulations.specs.constrained.Held.{Kept, constrained_row, held_owns}
use Rattle.dcel_triangulations.specs.contracts.constrained.held.Held.{the_row, the_type}
use Rattle.dcel_constrained.proofs.triangulation.ConstrainedTriangulation.TheSendSync as constrained
use Rattle.std.proofs.Crossing as heap
use Rattle.std.specs.Global.{Global}
use Rattle.std.specs.Prelude.{Some, None}
use Rattle.std_alloc.proofs.SendSync.{quiet, lies}
use Rattle.std_heap.specs.contracts.Global as Heap
use Rattle.std_heap.specs.contracts.GlobalAllocator.TheImpl.{ghosts}
use Rattle.std_heap.proofs.Global.TheSendSync as handle

-- the triangulation is only numbers
points_send : IsSend constrained_row
points_send = constrained.the_send Heap.the_row ghosts heap.send heap.frees

-- what is kept names no thread
of_no_thread : (alloc : Global) (at : Ptr) (kept : Kept) → Keyless (held_owns alloc at kept)
of_no_thread alloc at None = tt
of_no_thread alloc at (Some t) = (lies constrained_row points_send at t, heap.frees.frees alloc (raw (lone constrained_row.mir)) at)

-- and the words are a pointer and a handle
words_send : AllSend (fields the_type)
words_send = (search sendable, (handle.the_field_send, tt))

pub send : IsSend the_row
send =
    let words = struct_send (shape the_type) words_send in
    owning_send the_type words_send (λ held. of_no_thread held.alloc held.at held.kept) (λ k. quiet (to the_type) (exits_of k (fields the_type)) (words.leaving k))
