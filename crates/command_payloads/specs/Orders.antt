-- Which order a station reads in a payload.
use Rattle.std.specs.Prelude.{◌≡◌, ℕ, ◌-◌, ◌*◌, ◌^◌, Bool, true, if◌then◌else◌, List, [], ◌∷◌, length}
use Rattle.std.specs.Option.{unwrap_or}
use Rattle.logical_address.specs.declared.param.Param.{Param}
use Rattle.logical_address.specs.Parameter.{element_param}
use Rattle.data_files.specs.WordBytes.{bytes_of}
use Rattle.data_addresses.specs.declared.address.Address.{Address}
use Rattle.data_addresses.specs.Fields.{levels_of, three_of}
use Rattle.df1_base.specs.declared.file_type.FileType.{FileType}
use Rattle.plc_commands.specs.declared.order.Set.{Set}
use Rattle.plc_commands.specs.Order as plc
use Rattle.plc_commands.specs.Spelling as plc_spelling
use Rattle.slc_commands.specs.declared.order.SlcFnc.TheVariants.{Read2, Read3, Write2, Write3, Masked}
use Rattle.slc_commands.specs.Order as slc
use Rattle.command_payloads.specs.Payloads.{elements_of}

-- a payload is CMD and the spelling of an order of a PLC, or of one that every station knows
pub record SpellsPlc (order : plc.Order) (payload : List ℕ) : Type 0 where
  pub rest : List ℕ
  pub whole : payload ≡ plc_spelling.cmd_byte order ∷ rest
  pub spelled : plc_spelling.SpellsOrder order (plc_spelling.cmd_byte order) rest

-- a payload is CMD and the spelling of an order of an SLC
pub record SpellsSlc (order : slc.Order) (payload : List ℕ) : Type 0 where
  pub rest : List ℕ
  pub whole : payload ≡ 0x0F ∷ rest
  pub spelled : slc.SpellsOrder order rest

-- ---- of a PLC; a window is the offset and the total of a range, and where it begins

abbrev pub word_range_read_order : Address → ℕ → plc.Order
word_range_read_order at count = plc.RangeRead (plc.window 0 count (levels_of at)) (2 * count)

abbrev pub word_range_write_order : Address → List ℕ → plc.Order
word_range_write_order at words = plc.RangeWrite (plc.window 0 (length words) (levels_of at)) (bytes_of words)

abbrev pub typed_read_order : Address → ℕ → plc.Order
typed_read_order at count = plc.TypedRead (plc.window 0 count (levels_of at)) count

-- the parameter of an element, and zeros where it has none
abbrev pub param_of : FileType → Param
param_of kind = unwrap_or (element_param kind) (record { kind = 0; size = 0 })

abbrev pub typed_write_order : Address → List ℕ → plc.Order
typed_write_order at words = plc.TypedWrite (plc.window 0 (elements_of at words) (levels_of at)) (param_of at.kind) true (bytes_of words)

abbrev pub set_of : Address → (and or : ℕ) → Set
set_of at and or = record { at = levels_of at; and = and; or = or }

abbrev pub read_modify_write_order : Address → (and or : ℕ) → plc.Order
read_modify_write_order at and or = plc.Change (set_of at and or ∷ [])

-- one bit of a word is set, or cleared
abbrev pub bit_set : Address → ℕ → Bool → Set
bit_set at bit on = set_of at (65535 - 2 ^ bit) (if on then 2 ^ bit else 0)

abbrev pub bit_order : Address → ℕ → Bool → plc.Order
bit_order at bit on = plc.Change (bit_set at bit on ∷ [])

-- ---- of an SLC

abbrev pub logical_read_order : Bool → Address → ℕ → slc.Order
logical_read_order with_sub at count =
    record { fnc = if with_sub then Read3 else Read2; at = three_of at; size = 2 * count; mask = 0xFFFF; bytes = [] }

abbrev pub logical_write_order : Bool → Address → List ℕ → slc.Order
logical_write_order with_sub at words =
    record { fnc = if with_sub then Write3 else Write2; at = three_of at; size = 2 * length words; mask = 0xFFFF; bytes = bytes_of words }

abbrev pub masked_write_order : Address → ℕ → List ℕ → slc.Order
masked_write_order at mask words = record { fnc = Masked; at = three_of at; size = 2 * length words; mask = mask; bytes = bytes_of words }
