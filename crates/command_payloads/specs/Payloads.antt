-- The payloads: CMD, and what follows TNS. Bytes are numbers below 256, and words are below 65536.
use Rattle.std.specs.Prelude.{ℕ, ◌-◌, ◌*◌, ◌/◌, ◌%◌, ◌^◌, Bool, true, nat_le, List, [], ◌∷◌, ◌++◌, length, if◌then◌else◌, Option, Some, None}
use Rattle.std.specs.Option.{option_or, unwrap_or}
use Rattle.logical_address.specs.Shortest.{shortest_levels, shortest_three}
use Rattle.logical_address.specs.Parameter.{written_array}
use Rattle.data_files.specs.WordBytes.{bytes_of}
use Rattle.data_files.specs.Words.{words_per_element}
use Rattle.data_addresses.specs.declared.address.Address.{Address}
use Rattle.data_addresses.specs.Fields.{levels_of, three_of}
use Rattle.command_payloads.specs.declared.fault.PayloadFault.{PayloadFault}
use Rattle.command_payloads.specs.declared.fault.PayloadFault.TheVariants.{NoBit, TooMuchData}
use Rattle.command_payloads.specs.Faults.{count_fault, element_fault, half_fault, reply_fault, room_fault, sub_fault}

-- a number in two bytes, low first
abbrev pub two_bytes : ℕ → List ℕ
two_bytes n = n % 256 ∷ n / 256 ∷ []

-- a whole range: offset 0, total, and where it begins
abbrev pub range : ℕ → Address → List ℕ
range total at = two_bytes 0 ++ two_bytes total ++ shortest_levels (levels_of at)

-- ---- what every station knows

abbrev pub echo_payload : List ℕ → List ℕ
echo_payload bytes = 0x06 ∷ 0x00 ∷ bytes

abbrev pub echo_fault : List ℕ → Option PayloadFault
echo_fault bytes = if nat_le (length bytes) 243 then None else Some TooMuchData

abbrev pub status_payload : List ℕ
status_payload = 0x06 ∷ 0x03 ∷ []

-- ---- the compatibility file, by the number of a byte

abbrev pub unprotected_read_payload : (address count : ℕ) → List ℕ
unprotected_read_payload address count = 0x01 ∷ two_bytes address ++ 2 * count ∷ []

abbrev pub unprotected_front : ℕ → List ℕ
unprotected_front address = 0x08 ∷ two_bytes address

abbrev pub unprotected_write_payload : ℕ → List ℕ → List ℕ
unprotected_write_payload address words = unprotected_front address ++ bytes_of words

abbrev pub unprotected_write_fault : ℕ → List ℕ → Option PayloadFault
unprotected_write_fault address words = option_or (count_fault (length words)) (room_fault (unprotected_front address) words)

-- ---- word ranges

abbrev pub word_range_read_payload : Address → ℕ → List ℕ
word_range_read_payload at count = 0x0F ∷ 0x01 ∷ range count at ++ 2 * count ∷ []

abbrev pub word_range_front : Address → ℕ → List ℕ
word_range_front at count = 0x0F ∷ 0x00 ∷ range count at

abbrev pub word_range_write_payload : Address → List ℕ → List ℕ
word_range_write_payload at words = word_range_front at (length words) ++ bytes_of words

abbrev pub word_range_write_fault : Address → List ℕ → Option PayloadFault
word_range_write_fault at words = option_or (count_fault (length words)) (room_fault (word_range_front at (length words)) words)

-- ---- typed

abbrev pub typed_read_payload : Address → ℕ → List ℕ
typed_read_payload at count = 0x0F ∷ 0x68 ∷ range count at ++ two_bytes count

abbrev pub typed_read_fault : Address → ℕ → Option PayloadFault
typed_read_fault at count = option_or (element_fault at) (reply_fault at.kind count)

-- so many words in elements
abbrev pub elements_of : Address → List ℕ → ℕ
elements_of at words = length words / words_per_element at.kind

abbrev pub typed_front : Address → ℕ → List ℕ
typed_front at count = 0x0F ∷ 0x67 ∷ range count at ++ unwrap_or (written_array at.kind count) []

abbrev pub typed_write_payload : Address → List ℕ → List ℕ
typed_write_payload at words = typed_front at (elements_of at words) ++ bytes_of words

abbrev pub typed_write_fault : Address → List ℕ → Option PayloadFault
typed_write_fault at words =
    option_or (element_fault at)
    (option_or (count_fault (length words)) (option_or (half_fault at.kind (length words)) (room_fault (typed_front at (elements_of at words)) words)))

-- ---- bits of a word

abbrev pub read_modify_write_payload : Address → (and or : ℕ) → List ℕ
read_modify_write_payload at and or = 0x0F ∷ 0x26 ∷ shortest_levels (levels_of at) ++ two_bytes and ++ two_bytes or

-- all bits but one stay, and that one is set or isn't
abbrev pub bit_payload : Address → ℕ → Bool → List ℕ
bit_payload at bit on = read_modify_write_payload at (65535 - 2 ^ bit) (if on then 2 ^ bit else 0)

abbrev pub bit_write_payload : Address → Option ℕ → Bool → List ℕ
bit_write_payload at None on = []
bit_write_payload at (Some bit) on = bit_payload at bit on

abbrev pub bit_fault : Option ℕ → Option PayloadFault
bit_fault None = Some NoBit
bit_fault (Some bit) = if nat_le bit 15 then None else Some NoBit

-- ---- logical, with two fields or three

abbrev pub read_function : Bool → ℕ
read_function with_sub = if with_sub then 0xA2 else 0xA1

abbrev pub write_function : Bool → ℕ
write_function with_sub = if with_sub then 0xAA else 0xA9

-- an address of two fields has no sub-element
abbrev pub fields_fault : Bool → Address → Option PayloadFault
fields_fault with_sub at = if with_sub then None else sub_fault at

abbrev pub logical_front : (fnc : ℕ) → Bool → Address → ℕ → List ℕ
logical_front fnc with_sub at count = 0x0F ∷ fnc ∷ 2 * count ∷ shortest_three with_sub (three_of at)

abbrev pub logical_read_payload : Bool → Address → ℕ → List ℕ
logical_read_payload with_sub at count = logical_front (read_function with_sub) with_sub at count

abbrev pub logical_read_fault : Bool → Address → ℕ → Option PayloadFault
logical_read_fault with_sub at count = option_or (fields_fault with_sub at) (count_fault count)

abbrev pub logical_write_payload : Bool → Address → List ℕ → List ℕ
logical_write_payload with_sub at words = logical_front (write_function with_sub) with_sub at (length words) ++ bytes_of words

abbrev pub logical_write_fault : Bool → Address → List ℕ → Option PayloadFault
logical_write_fault with_sub at words =
    option_or (fields_fault with_sub at) (option_or (count_fault (length words)) (room_fault (logical_front (write_function with_sub) with_sub at (length words)) words))

abbrev pub masked_front : Address → ℕ → ℕ → List ℕ
masked_front at mask count = logical_front 0xAB true at count ++ two_bytes mask

abbrev pub masked_write_payload : Address → ℕ → List ℕ → List ℕ
masked_write_payload at mask words = masked_front at mask (length words) ++ bytes_of words

abbrev pub masked_write_fault : Address → ℕ → List ℕ → Option PayloadFault
masked_write_fault at mask words = option_or (count_fault (length words)) (room_fault (masked_front at mask (length words)) words)
