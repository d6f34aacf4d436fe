-- Addresses as C has them.
use Rattle.std.specs.Prelude.{ℕ, if◌then◌else◌, Option, Some, None}
use Rattle.std.specs.Option.{is_some, option_map, unwrap_or}
use Rattle.df1_base.specs.declared.file_type.FileType.{FileType}
use Rattle.data_files.specs.Place.{type_byte}
use Rattle.data_addresses.specs.declared.address.Address.{Address}
use Rattle.c_ends.specs.Parts.{kind_of}
use Rattle.c_payloads.specs.declared.parts.AddressParts.{AddressParts}

abbrev pub bit_in : AddressParts → Option ℕ
bit_in parts = if parts.has_bit then Some parts.bit else None

abbrev pub address_with : AddressParts → FileType → Address
address_with parts kind = record { kind = kind; file = parts.file; element = parts.element; sub = parts.sub; bit = bit_in parts }

-- the address that C gives, if its type byte is one's
abbrev pub address_in : AddressParts → Option Address
address_in parts = option_map (address_with parts) (kind_of parts.kind)

-- an address as C sees it
abbrev pub parts_told : Address → AddressParts
parts_told at = record {
  kind = type_byte at.kind;
  file = at.file;
  element = at.element;
  sub = at.sub;
  has_bit = is_some at.bit;
  bit = unwrap_or at.bit 0;
}
