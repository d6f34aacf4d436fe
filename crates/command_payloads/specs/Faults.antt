-- What stands against a payload. Of several faults the first is told.
use Rattle.std.specs.Prelude.{ℕ, ◌+◌, ◌*◌, ◌%◌, ◌==◌, nat_le, nat_lt, List, [], length, if◌then◌else◌, Option, Some, None, Result, Ok, Err}
use Rattle.std.specs.Option.{option_or}
use Rattle.df1_base.specs.declared.file_type.FileType.{FileType}
use Rattle.df1_base.specs.declared.file_type.FileType.TheVariants.{Status, Bit, Timer, Counter, Control, Integer, Float}
use Rattle.logical_address.specs.Parameter.{written_element}
use Rattle.data_files.specs.Words.{words_per_element}
use Rattle.data_addresses.specs.declared.address.Address.{Address}
use Rattle.command_payloads.specs.declared.fault.PayloadFault.{PayloadFault}
use Rattle.command_payloads.specs.declared.fault.PayloadFault.TheVariants.{NoData, TooMuchData, NoType, NoSub, HalfElement}

-- ---- parts of it

-- so many words are 1 to 122
abbrev pub count_fault : ℕ → Option PayloadFault
count_fault words = if words == 0 then Some NoData else if nat_lt 122 words then Some TooMuchData else None

-- no sub-element is given, or 0
abbrev pub sub_fault : Address → Option PayloadFault
sub_fault at = if at.sub == 0 then None else Some NoSub

abbrev pub type_fault : FileType → Option PayloadFault
type_fault Status = None
type_fault Bit = None
type_fault Timer = Some NoType
type_fault Counter = Some NoType
type_fault Control = Some NoType
type_fault Integer = None
type_fault Float = None

-- whole elements with a parameter
abbrev pub element_fault : Address → Option PayloadFault
element_fault at = option_or (type_fault at.kind) (sub_fault at)

-- words after these bytes are a payload of at most 245
abbrev pub room_fault : (front words : List ℕ) → Option PayloadFault
room_fault front words = if nat_le (length front + 2 * length words) 245 then None else Some TooMuchData

-- so many elements with the parameter of their array are at most 244 bytes, and there is one
abbrev pub reply_fault : FileType → ℕ → Option PayloadFault
reply_fault kind count =
    if count == 0 then Some NoData
    else if nat_lt 244 (3 + length (written_element kind) + 2 * (count * words_per_element kind)) then Some TooMuchData
    else None

-- so many words are whole elements
abbrev pub half_fault : FileType → ℕ → Option PayloadFault
half_fault kind words = if words % words_per_element kind == 0 then None else Some HalfElement

-- ---- what a call comes to

abbrev pub answer_of : Option PayloadFault → Result (Unit {0}) PayloadFault
answer_of None = Ok tt
answer_of (Some fault) = Err fault

-- the payload, and nothing where there is a fault
abbrev pub unless : Option PayloadFault → List ℕ → List ℕ
unless None payload = payload
unless (Some fault) payload = []
