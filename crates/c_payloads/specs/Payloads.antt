-- The payload of each call: its bytes, or the code of the first fault, in the order that lib.rt has.
use Rattle.std.specs.Prelude.{IfSome, ℕ, Bool, List, None, Result, Err}
use Rattle.std.specs.Option.{option_map_or}
use Rattle.command_payloads.specs.Faults.{count_fault}
use Rattle.command_payloads.specs.Orders as order
use Rattle.command_payloads.specs.Payloads as payload
use Rattle.c_ends.specs.declared.code.Code.{Code}
use Rattle.c_ends.specs.declared.code.Code.TheVariants as code
use Rattle.c_payloads.specs.declared.commands.Command.{Command}
use Rattle.c_payloads.specs.declared.parts.AddressParts.{AddressParts}
use Rattle.c_payloads.specs.Commands.{SpellsRead, SpellsWrite, command_of, read_bytes, read_fault, write_bytes, write_fault}
use Rattle.c_payloads.specs.Faults.{at_address, told}
use Rattle.c_payloads.specs.Parts.{address_in}

-- of the command of a number
abbrev pub by_command : ℕ → (Command → Result (List ℕ) Code) → Result (List ℕ) Code
by_command number spelled = option_map_or spelled (command_of number) (Err code.BadCommand)

abbrev pub read_told : ℕ → AddressParts → ℕ → Result (List ℕ) Code
read_told number parts count =
    by_command number (λ command. at_address parts (λ at. told (read_fault command at count) (read_bytes command at count)))

abbrev pub write_told : ℕ → AddressParts → List ℕ → Result (List ℕ) Code
write_told number parts words =
    by_command number (λ command. at_address parts (λ at. told (write_fault command at words) (write_bytes command at words)))

abbrev pub masked_told : AddressParts → ℕ → List ℕ → Result (List ℕ) Code
masked_told parts mask words =
    at_address parts (λ at. told (payload.masked_write_fault at mask words) (payload.masked_write_payload at mask words))

abbrev pub modify_told : AddressParts → (and or : ℕ) → Result (List ℕ) Code
modify_told parts and or = at_address parts (λ at. told None (payload.read_modify_write_payload at and or))

abbrev pub bit_told : AddressParts → Bool → Result (List ℕ) Code
bit_told parts on = at_address parts (λ at. told (payload.bit_fault at.bit) (payload.bit_write_payload at at.bit on))

abbrev pub echo_told : List ℕ → Result (List ℕ) Code
echo_told bytes = told (payload.echo_fault bytes) (payload.echo_payload bytes)

-- of the compatibility file, by the number of a byte
abbrev pub unprotected_read_told : (address count : ℕ) → Result (List ℕ) Code
unprotected_read_told address count = told (count_fault count) (payload.unprotected_read_payload address count)

abbrev pub unprotected_write_told : ℕ → List ℕ → Result (List ℕ) Code
unprotected_write_told address words = told (payload.unprotected_write_fault address words) (payload.unprotected_write_payload address words)

-- ---- the order that a station reads in it, of a number that is a command's and an address that is one

abbrev pub IsRead : ℕ → AddressParts → ℕ → List ℕ → Type 0
IsRead number parts count bytes = IfSome (command_of number) (λ command. IfSome (address_in parts) (λ at. SpellsRead command at count bytes))

abbrev pub IsWrite : ℕ → AddressParts → List ℕ → List ℕ → Type 0
IsWrite number parts words bytes = IfSome (command_of number) (λ command. IfSome (address_in parts) (λ at. SpellsWrite command at words bytes))

abbrev pub IsMasked : AddressParts → ℕ → List ℕ → List ℕ → Type 0
IsMasked parts mask words bytes = IfSome (address_in parts) (λ at. order.SpellsSlc (order.masked_write_order at mask words) bytes)

abbrev pub IsModify : AddressParts → (and or : ℕ) → List ℕ → Type 0
IsModify parts and or bytes = IfSome (address_in parts) (λ at. order.SpellsPlc (order.read_modify_write_order at and or) bytes)

abbrev pub IsBit : AddressParts → Bool → List ℕ → Type 0
IsBit parts on bytes = IfSome (address_in parts) (λ at. IfSome at.bit (λ bit. order.SpellsPlc (order.bit_order at bit on) bytes))
