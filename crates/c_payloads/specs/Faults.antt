-- The codes of faults, and what a call comes to that spells something: its bytes, or the code of the first fault.
use Rattle.std.specs.Prelude.{ℕ, List, Option, Some, None, Result, Ok, Err}
use Rattle.std.specs.Option.{option_map_or}
use Rattle.data_addresses.specs.declared.address.Address.{Address}
use Rattle.data_addresses.specs.declared.address.AddressFault.{AddressFault}
use Rattle.data_addresses.specs.declared.address.AddressFault.TheVariants as address
use Rattle.command_payloads.specs.declared.fault.PayloadFault.{PayloadFault}
use Rattle.command_payloads.specs.declared.fault.PayloadFault.TheVariants as payload
use Rattle.c_ends.specs.declared.code.Code.{Code}
use Rattle.c_ends.specs.declared.code.Code.TheVariants as code
use Rattle.c_payloads.specs.declared.parts.AddressParts.{AddressParts}
use Rattle.c_payloads.specs.Parts.{address_in}

abbrev pub address_code : AddressFault → Code
address_code address.NoType = code.NoAddressType
address_code address.NoFile = code.NoAddressFile
address_code address.NoColon = code.NoAddressColon
address_code address.NoElement = code.NoAddressElement
address_code address.NoSub = code.NoAddressSub
address_code address.NoBit = code.NoAddressBit
address_code address.NoEnd = code.NoAddressEnd

abbrev pub payload_code : PayloadFault → Code
payload_code payload.NoData = code.NoData
payload_code payload.TooMuchData = code.TooMuchData
payload_code payload.NoType = code.NoElementType
payload_code payload.NoSub = code.NoSub
payload_code payload.HalfElement = code.HalfElement
payload_code payload.NoBit = code.NoBit

-- what is spelled, where nothing stands against it
abbrev pub told : Option PayloadFault → List ℕ → Result (List ℕ) Code
told None bytes = Ok bytes
told (Some fault) bytes = Err (payload_code fault)

-- at the address that C gives
abbrev pub at_address : AddressParts → (Address → Result (List ℕ) Code) → Result (List ℕ) Code
at_address parts spelled = option_map_or spelled (address_in parts) (Err code.BadType)
