-- What a handle's pointer owns: the box whose value it holds, or nothing.
use Rattle.std.specs.declared.option.Option.{Option}
use Rattle.std.specs.declared.option.Option.TheVariants.{Some, None}
use base.Fml.{Fml, ftrue}
use mir.Syntax.{Ty}
use denote.RawPtr.{Ptr}
use Rattle.std.specs.Global.{Global}
use Rattle.std_heap.specs.contracts.GlobalAllocator.TheImpl.{ghosts}
use Rattle.std_alloc.specs.Box.Ownership.{box_owns}
use Rattle.df1_c.specs.Rows.{Kept, kept_row}

abbrev pub the_heap : Global
the_heap = record { memory = record { seal = tt } }

-- the right to free the block of a value of this type at a pointer
abbrev pub freeable : Ty → Ptr → Fml
freeable = ghosts.dealloc_token the_heap

unfoldable pub pointer_owns : Ptr → Option Kept → Fml
pointer_owns p None = ftrue
pointer_owns p (Some held) = box_owns freeable kept_row p held
