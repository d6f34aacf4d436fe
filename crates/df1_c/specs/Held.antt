-- What a handle holds.
use Rattle.std.specs.Prelude.{◌≡◌, ◌⊎◌, ℕ, if◌then◌else◌}
use Rattle.std.specs.declared.option.Option.{Option}
use Rattle.std.specs.declared.option.Option.TheVariants.{Some, None}
use Rattle.std.specs.Mem.{manually_drop_value}
use Rattle.c_ends.specs.declared.code.Code.{Code}
use Rattle.c_ends.specs.declared.code.Code.TheVariants as code
use Rattle.c_ends.specs.declared.held.Held.{Held}
use Rattle.c_ends.specs.Code.{code_number}
use Rattle.c_ends.specs.Held.{is_end}
use Rattle.df1_c.specs.declared.seat.Seat.{Seat}
use Rattle.df1_c.specs.Rows.{Kept}

-- the value in the box of a handle
unfoldable pub value_in : Option Kept → Option Held
value_in None = None
value_in (Some kept) = Some (manually_drop_value kept)

-- what a handle holds
abbrev pub holding : Seat → Option Held
holding seat = value_in seat.pointer.held

-- an end is let go, and nothing else
abbrev pub freed : Option Held → Option Held
freed None = None
freed (Some held) = if is_end held then None else Some held

-- a handle that is to be filled is empty
abbrev pub taken_fault : Option Held → Option Code
taken_fault None = None
taken_fault (Some held) = Some code.NoHandle

-- a call that fills a handle: where something is out of range its code, with nothing changed; else it is done, or there is no memory, with nothing changed
abbrev pub IsMake : Option Code → Held → ℕ → Option Held → Option Held → Type 0
IsMake None made number old new =
    ((number ≡ code_number code.Done) × (new ≡ Some made)) ⊎ ((number ≡ code_number code.NoMemory) × (new ≡ old))
IsMake (Some fault) made number old new = (number ≡ code_number fault) × (new ≡ old)
