-- What the calls on the texts of addresses come to.
use Rattle.std.specs.Prelude.{ℕ, List, [], ◌∷◌, ◌++◌, Result, Ok, Err}
use Rattle.data_addresses.specs.declared.address.Address.{Address}
use Rattle.data_addresses.specs.declared.address.AddressFault.{AddressFault}
use Rattle.data_addresses.specs.Canonical.{address_text}
use Rattle.c_ends.specs.declared.code.Code.{Code}
use Rattle.c_ends.specs.declared.code.Code.TheVariants as code
use Rattle.c_payloads.specs.declared.parts.AddressParts.{AddressParts}
use Rattle.c_payloads.specs.Faults.{address_code, at_address}
use Rattle.c_payloads.specs.Parts.{parts_told}

-- the answer to a text, by what it is read as
abbrev pub reading_code : Result Address AddressFault → Code
reading_code (Ok at) = code.Done
reading_code (Err fault) = address_code fault

-- what is told then; after a refusal nothing
abbrev pub parts_after : Result Address AddressFault → AddressParts → AddressParts
parts_after (Ok at) old = parts_told at
parts_after (Err fault) old = old

-- the text of the address that C gives, with a zero byte at its end
abbrev pub text_told : AddressParts → Result (List ℕ) Code
text_told parts = at_address parts (λ at. Ok (address_text at ++ 0 ∷ []))
