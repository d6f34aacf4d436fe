-- What a message is named, by its CMD and what follows TNS.
use Rattle.std.specs.Prelude.{ℕ, Bool, true, false, List, [], ◌∷◌, codes, ◌==◌, ◌||◌, ◌&&◌, if◌then◌else◌, Option, Some, None, Result, Ok, Err}
use Rattle.std.specs.Int.{bit_at}
use Rattle.df1_base.specs.declared.code.Code.{Code}
use Rattle.slc_commands.specs.Order.{order_of as logical_order}
use Rattle.plc_commands.specs.Reading.{order_of as other_order}

-- the commands with CMD 06, by FNC
abbrev pub basic_name : List ℕ → Option (List ℕ)
basic_name [] = None
basic_name (fnc ∷ bytes) =
    if fnc == 0x00 then Some (codes "echo")
    else if fnc == 0x03 then Some (codes "status")
    else None

-- the commands with CMD 0F, by FNC
abbrev pub extended_name : List ℕ → Option (List ℕ)
extended_name [] = None
extended_name (fnc ∷ bytes) =
    if fnc == 0x00 then Some (codes "word-range-write")
    else if fnc == 0x01 then Some (codes "word-range-read")
    else if fnc == 0x26 then Some (codes "read-modify-write")
    else if fnc == 0x67 then Some (codes "typed-write")
    else if fnc == 0x68 then Some (codes "typed-read")
    else if fnc == 0xA1 then Some (codes "logical-read-2")
    else if fnc == 0xA2 then Some (codes "logical-read-3")
    else if fnc == 0xA9 then Some (codes "logical-write-2")
    else if fnc == 0xAA then Some (codes "logical-write-3")
    else if fnc == 0xAB then Some (codes "masked-write")
    else None

-- the name of a command, if it is one that stations know
abbrev pub command_name : ℕ → List ℕ → Option (List ℕ)
command_name cmd payload =
    if cmd == 0x06 then basic_name payload
    else if cmd == 0x01 then Some (codes "unprotected-read")
    else if cmd == 0x08 then Some (codes "unprotected-write")
    else if cmd == 0x0F then extended_name payload
    else None

abbrev pub is_read : {A : Type 0} → Result A Code → Bool
is_read (Ok order) = true
is_read (Err code) = false

-- the command is spelled as its layout asks: it can be read as one of the logical commands or as another
abbrev pub is_spelled : ℕ → List ℕ → Bool
is_spelled cmd payload = is_read (other_order cmd payload) || ((cmd == 0x0F) && is_read (logical_order payload))

-- the name of a command that is known, if it is spelled as it should be
abbrev pub spelled_name : Option (List ℕ) → Bool → List ℕ
spelled_name None spelled = codes "unknown"
spelled_name (Some name) spelled = if spelled then name else codes "malformed"

-- a reply has no other name, whatever command it answers
abbrev pub message_name : ℕ → List ℕ → List ℕ
message_name cmd payload = if bit_at cmd 6 == 1 then codes "reply" else spelled_name (command_name cmd payload) (is_spelled cmd payload)
