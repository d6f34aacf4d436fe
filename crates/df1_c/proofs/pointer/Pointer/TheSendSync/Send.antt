-- A pointer may go to another thread with what it owns: the box of a value that may, or nothing.
use mir.Raw.{raw}
use base.Shift.{Keyless}
use denote.Memory.{lone}
use denote.RawPtr.{Ptr}
use denote.Struct.Struct.{exits_of}
use denote.Struct.Owning.{shape, fields, to}
use denote.Param.Send.{IsSend, AllSend, owning_send, struct_send, sendable}
use Rattle.std.specs.declared.option.Option.{Option}
use Rattle.std.specs.declared.option.Option.TheVariants.{Some, None}
use Rattle.std.proofs.Crossing as heap
use Rattle.std.proofs.mem.ManuallyDrop.TheSendSync as lasting
use Rattle.std_alloc.proofs.SendSync.{quiet, lies}
use Rattle.c_ends.specs.contracts.held.Held as held
use Rattle.c_ends.proofs.held.Held.TheSendSync as held_sent
use Rattle.df1_c.specs.Owned.{pointer_owns, the_heap}
use Rattle.df1_c.specs.Rows.{Kept, kept_row}
use Rattle.df1_c.specs.contracts.pointer.Pointer.{the_row, the_type}

kept : IsSend kept_row
kept = lasting.the_send held.the_row held_sent.the_send

owned : (p : Ptr) (h : Option Kept) → Keyless (pointer_owns p h)
unfolding pointer_owns
owned p None = tt
owned p (Some held) = (lies kept_row kept p held, heap.frees.frees the_heap (raw (lone kept_row.mir)) p)

pub send : IsSend the_row
send =
    let all : AllSend (fields the_type) = (search sendable, tt) in
    owning_send the_type all (λ d. owned d.at d.held) (λ k. quiet (to the_type) (exits_of k (fields the_type)) ((struct_send (shape the_type) all).leaving k))
