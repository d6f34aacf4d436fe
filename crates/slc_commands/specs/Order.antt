-- How the logical commands of an SLC are spelled after CMD, and how they are read.
use Rattle.std.specs.Prelude.{◌≡◌, ℕ, ◌+◌, ◌*◌, Bool, false, true, ◌==◌, List, [], ◌∷◌, ◌++◌, length, drop, if◌then◌else◌, Option, None, Some, Result}
use Rattle.std.specs.Option.{ok_or}
use Rattle.df1_base.specs.declared.code.Code.{Code}
use Rattle.df1_base.specs.declared.code.Code.TheVariants.{Sts}
use Rattle.logical_address.specs.declared.three.Three.{Three}
use Rattle.logical_address.specs.Spelling.{SpellsThree}
use Rattle.logical_address.specs.Reading.{◌>>=◌, byte_front, word_front, three_at}
use Rattle.slc_commands.specs.declared.order.SlcFnc.{SlcFnc}
use Rattle.slc_commands.specs.declared.order.SlcFnc.TheVariants.{Read2, Read3, Write2, Write3, Masked}
use Rattle.slc_commands.specs.declared.order.SlcOrder.{SlcOrder}

-- an order without where its bytes lie in memory
pub record Order : Type 0 where
  pub fnc : SlcFnc
  pub at : Three
  pub size : ℕ
  pub mask : ℕ
  pub bytes : List ℕ

abbrev pub seen : SlcOrder → Order
seen order = record { fnc = order.fnc; at = order.at; size = order.size; mask = order.mask; bytes = order.bytes.now }

-- ---- the table of functions

-- FNC
abbrev pub fnc_byte : SlcFnc → ℕ
fnc_byte Read2 = 0xA1
fnc_byte Read3 = 0xA2
fnc_byte Write2 = 0xA9
fnc_byte Write3 = 0xAA
fnc_byte Masked = 0xAB

-- its address has three fields
abbrev pub has_sub : SlcFnc → Bool
has_sub Read2 = false
has_sub Read3 = true
has_sub Write2 = false
has_sub Write3 = true
has_sub Masked = true

-- it writes
abbrev pub writes : SlcFnc → Bool
writes Read2 = false
writes Read3 = false
writes Write2 = true
writes Write3 = true
writes Masked = true

-- it has a mask
abbrev pub has_mask : SlcFnc → Bool
has_mask Read2 = false
has_mask Read3 = false
has_mask Write2 = false
has_mask Write3 = false
has_mask Masked = true

-- how many bytes of data follow: as many as the size says where it writes, and else none
abbrev pub data_len : SlcFnc → ℕ → ℕ
data_len fnc size = if writes fnc then size else 0

-- ---- how an order is spelled

-- a mask of two bytes, low first; where there is none it is FFFF
pub data SpellsMask : Bool → ℕ → List ℕ → Type 0 where
  given : {mask low high : ℕ} → mask ≡ low + 256 * high → SpellsMask true mask (low ∷ high ∷ [])
  left_out : SpellsMask false 0xFFFF []

-- what follows CMD, STS and TNS: FNC, the size, the address, the mask where there is one, and the data
pub record SpellsOrder (order : Order) (payload : List ℕ) : Type 0 where
  pub at : List ℕ
  pub mask : List ℕ
  pub of_at : SpellsThree (has_sub order.fnc) order.at at
  pub of_mask : SpellsMask (has_mask order.fnc) order.mask mask
  pub of_data : length order.bytes ≡ data_len order.fnc order.size
  pub whole : payload ≡ fnc_byte order.fnc ∷ order.size ∷ at ++ mask ++ order.bytes

-- ---- how it is read

-- the function of an FNC
abbrev pub fnc_of : ℕ → Option SlcFnc
fnc_of byte =
    if byte == 0xA1 then Some Read2
    else if byte == 0xA2 then Some Read3
    else if byte == 0xA9 then Some Write2
    else if byte == 0xAA then Some Write3
    else if byte == 0xAB then Some Masked
    else None

-- the mask, where there is one
abbrev pub mask_front : Bool → List ℕ → Option (ℕ × List ℕ)
mask_front true bytes = word_front bytes
mask_front false bytes = Some (0xFFFF, bytes)

-- the order, where exactly its data is left
abbrev pub with_data : Order → Option Order
with_data order = if length order.bytes == data_len order.fnc order.size then Some order else None

-- the fields after FNC
unfoldable pub fields : SlcFnc → List ℕ → Option Order
fields fnc bytes = do
  size ← byte_front bytes
  at ← three_at (has_sub fnc) size.1
  mask ← mask_front (has_mask fnc) (drop at.1 size.1)
  with_data (record { fnc = fnc; at = at.0; size = size.0; mask = mask.0; bytes = mask.1 })

-- an order of one of the five functions
unfoldable pub spelled_order : List ℕ → Option Order
spelled_order payload = do
  first ← byte_front payload
  fnc ← fnc_of first.0
  fields fnc first.1

-- an order, or STS 10 where there is none: another FNC or none, a field cut off, bytes left after a read, or a write whose
-- data isn't as long as the size says
abbrev pub order_of : List ℕ → Result Order Code
order_of payload = ok_or (spelled_order payload) (Sts 0x10)

-- what is true of every order that is read
pub record IsOrder (order : Order) : Type 0 where
  pub of_data : length order.bytes ≡ data_len order.fnc order.size
  pub of_sub : has_sub order.fnc ≡ false → order.at.sub ≡ 0
  pub of_mask : has_mask order.fnc ≡ false → order.mask ≡ 0xFFFF
