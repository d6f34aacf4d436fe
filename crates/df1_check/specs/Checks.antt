-- The two checks of the link, each of a whole list of bytes.
use Rattle.std.specs.Prelude.{◌≡◌, ℕ, ◌<◌, ◌+◌, ◌-◌, ◌/◌, ◌%◌, List, ◌==◌, if◌then◌else◌, bit_xor, sum}
use Rattle.std.specs.List.{fold}
use Rattle.df1_check.specs.declared.Check.{Check}
use Rattle.df1_check.specs.declared.Check.TheVariants as kind

-- added to the sum of the bytes, the check gives a multiple of 256
pub record IsBcc (bytes : List ℕ) (check : ℕ) : Type 0 where
  pub below : check < 256
  pub multiple : (check + sum bytes) % 256 ≡ 0

-- the BCC: the two's complement of the 8-bit sum
abbrev pub bcc : List ℕ → ℕ
bcc bytes = (256 - sum bytes % 256) % 256

-- shifts right by one bit, and combines with A001 where the dropped bit was 1
abbrev pub crc_bit : ℕ → ℕ
crc_bit register = if register % 2 == 1 then bit_xor (register / 2) 0xA001 else register / 2

-- shifts eight times
unfoldable pub eight_shifts : ℕ → ℕ
eight_shifts register = crc_bit (crc_bit (crc_bit (crc_bit (crc_bit (crc_bit (crc_bit (crc_bit register)))))))

-- combines a byte into the low 8 bits, and shifts eight times
abbrev pub crc_byte : ℕ → ℕ → ℕ
crc_byte register b = eight_shifts (bit_xor register b)

-- the CRC-16, from a register of 0
abbrev pub crc : List ℕ → ℕ
crc bytes = fold crc_byte 0 bytes

-- the value of a check over the bytes
abbrev pub check_value : Check → List ℕ → ℕ
check_value kind.Bcc bytes = bcc bytes
check_value kind.Crc bytes = crc bytes

-- a check under way: its kind, and its value over the bytes so far
pub record Taken : Type 0 where
  pub check : Check
  pub value : ℕ

-- the value with one byte more
unfoldable pub with_byte : Check → ℕ → ℕ → ℕ
with_byte kind.Bcc value b = (value + (256 - b % 256)) % 256
with_byte kind.Crc value b = crc_byte value b

-- the check with one byte more
abbrev pub take_byte : Taken → ℕ → Taken
take_byte so_far b = record { check = so_far.check; value = with_byte so_far.check so_far.value b }

-- a check that has taken these bytes
abbrev pub taken : Check → List ℕ → Taken
taken check bytes = record { check = check; value = check_value check bytes }
