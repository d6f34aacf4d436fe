-- The commands that read and write words of data files, by their numbers.
use Rattle.std.specs.Prelude.{ℕ, ◌==◌, false, true, List, if◌then◌else◌, Option, Some, None}
use Rattle.data_addresses.specs.declared.address.Address.{Address}
use Rattle.command_payloads.specs.declared.fault.PayloadFault.{PayloadFault}
use Rattle.command_payloads.specs.Faults.{count_fault}
use Rattle.command_payloads.specs.Payloads as payload
use Rattle.command_payloads.specs.Orders as order
use Rattle.c_payloads.specs.declared.commands.Command.{Command}
use Rattle.c_payloads.specs.declared.commands.Command.TheVariants.{WordRange, Typed, Logical2, Logical3}

abbrev pub command_of : ℕ → Option Command
command_of number =
    if number == 0 then Some WordRange
    else if number == 1 then Some Typed
    else if number == 2 then Some Logical2
    else if number == 3 then Some Logical3
    else None

-- ---- reads

-- what stands against a read of so many words, or elements of a typed one
abbrev pub read_fault : Command → Address → ℕ → Option PayloadFault
read_fault WordRange at count = count_fault count
read_fault Typed at count = payload.typed_read_fault at count
read_fault Logical2 at count = payload.logical_read_fault false at count
read_fault Logical3 at count = payload.logical_read_fault true at count

abbrev pub read_bytes : Command → Address → ℕ → List ℕ
read_bytes WordRange at count = payload.word_range_read_payload at count
read_bytes Typed at count = payload.typed_read_payload at count
read_bytes Logical2 at count = payload.logical_read_payload false at count
read_bytes Logical3 at count = payload.logical_read_payload true at count

-- the order that a station reads in it
abbrev pub SpellsRead : Command → Address → ℕ → List ℕ → Type 0
SpellsRead WordRange at count bytes = order.SpellsPlc (order.word_range_read_order at count) bytes
SpellsRead Typed at count bytes = order.SpellsPlc (order.typed_read_order at count) bytes
SpellsRead Logical2 at count bytes = order.SpellsSlc (order.logical_read_order false at count) bytes
SpellsRead Logical3 at count bytes = order.SpellsSlc (order.logical_read_order true at count) bytes

-- ---- writes

-- what stands against a write of words
abbrev pub write_fault : Command → Address → List ℕ → Option PayloadFault
write_fault WordRange at words = payload.word_range_write_fault at words
write_fault Typed at words = payload.typed_write_fault at words
write_fault Logical2 at words = payload.logical_write_fault false at words
write_fault Logical3 at words = payload.logical_write_fault true at words

abbrev pub write_bytes : Command → Address → List ℕ → List ℕ
write_bytes WordRange at words = payload.word_range_write_payload at words
write_bytes Typed at words = payload.typed_write_payload at words
write_bytes Logical2 at words = payload.logical_write_payload false at words
write_bytes Logical3 at words = payload.logical_write_payload true at words

abbrev pub SpellsWrite : Command → Address → List ℕ → List ℕ → Type 0
SpellsWrite WordRange at words bytes = order.SpellsPlc (order.word_range_write_order at words) bytes
SpellsWrite Typed at words bytes = order.SpellsPlc (order.typed_write_order at words) bytes
SpellsWrite Logical2 at words bytes = order.SpellsSlc (order.logical_write_order false at words) bytes
SpellsWrite Logical3 at words bytes = order.SpellsSlc (order.logical_write_order true at words) bytes
