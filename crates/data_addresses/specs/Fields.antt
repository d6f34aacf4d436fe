-- The fields of an address in a command's bytes. A bit has no place there.
use Rattle.logical_address.specs.declared.levels.Levels.{Levels}
use Rattle.logical_address.specs.declared.three.Three.{Three}
use Rattle.data_files.specs.Place.{type_byte}
use Rattle.data_addresses.specs.declared.address.Address.{Address}

-- by levels, of area 0
abbrev pub levels_of : Address → Levels
levels_of at = record { area = 0; file = at.file; element = at.element; sub = at.sub }

-- by three fields, beside the type byte
abbrev pub three_of : Address → Three
three_of at = record { file = at.file; kind = type_byte at.kind; element = at.element; sub = at.sub }
