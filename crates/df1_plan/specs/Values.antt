-- What one value of a document says.
use Rattle.std.specs.Prelude.{ℕ, List, length, nat_le, Option, Some, None, pos, if◌then◌else◌}
use Rattle.std.specs.Option.{option_and_then, option_map}
use Rattle.df1_base.specs.declared.file_type.FileType.{FileType}
use Rattle.df1_check.specs.declared.Check.{Check}
use Rattle.script_statement.specs.Words.{within, hex_of}
use Rattle.script_statement.specs.Statements.{check_of, file_type}
use Rattle.end_settings.specs.declared.row.Values.{Values}
use Rattle.end_settings.specs.declared.row.Values.TheVariants.{Switch, Number}
use Rattle.toml.specs.Data.{Data, integer, as_bool, as_str}

-- an integer within bounds
abbrev pub integer_in : ℕ → ℕ → Data → Option ℕ
integer_in least most (integer (pos n)) = within least most (Some n)
integer_in least most other = None

-- the value of a setting: a switch is told by a boolean, a number by an integer
abbrev pub value_in : Values → Data → Option ℕ
value_in Switch value = option_map (λ on. if on then 1 else 0) (as_bool value)
value_in (Number least most) value = integer_in least most value

-- the check that a text names
abbrev pub check_in : Data → Option Check
check_in value = option_and_then check_of (as_str value)

-- the type of a data file that a text names
abbrev pub kind_in : Data → Option FileType
kind_in value = option_and_then file_type (as_str value)

-- the bytes that a text of hexadecimal pairs spells
abbrev pub hex_in : Data → Option (List ℕ)
hex_in value = option_and_then hex_of (as_str value)

-- so many bytes at most
abbrev pub at_most : ℕ → List ℕ → Option (List ℕ)
at_most most bytes = if nat_le (length bytes) most then Some bytes else None

-- a block: at most 244 bytes
abbrev pub block_in : Data → Option (List ℕ)
block_in value = option_and_then (at_most 244) (hex_in value)
