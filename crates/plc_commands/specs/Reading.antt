-- How orders are read.
use Rattle.std.specs.Prelude.{ℕ, Bool, false, ◌||◌, List, [], ◌∷◌, ◌==◌, if◌then◌else◌, Result, Ok}
use Rattle.df1_base.specs.declared.code.Code.{Code}
use Rattle.df1_base.specs.declared.code.Code.TheVariants.{Done, Sts, Ext}
use Rattle.plc_commands.specs.Order.{Order, Echo, Status, Peek, Poke, RangeWrite, RangeRead, Change, TypedWrite, TypedRead, window}
use Rattle.plc_commands.specs.Fields.{◌>>=◌, illegal, word, levels, parameter, nothing, last_byte, last_word, words, sets}

-- ---- what follows CMD and FNC; the first field that can't be read refuses the order

abbrev pub echo : List ℕ → Result Order Code
echo bytes = Ok (Echo bytes)

abbrev pub status : List ℕ → Result Order Code
status bytes = do
  none ← nothing bytes
  Ok Status

unfoldable pub unprotected_read : List ℕ → Result Order Code
unprotected_read bytes = do
  address ← word bytes
  size ← last_byte address.1
  Ok (Peek address.0 size)

unfoldable pub unprotected_write : List ℕ → Result Order Code
unprotected_write bytes = do
  address ← word bytes
  data' ← words address.1
  Ok (Poke address.0 data')

unfoldable pub range_write : List ℕ → Result Order Code
range_write bytes = do
  offset ← word bytes
  total ← word offset.1
  at ← levels total.1
  data' ← words at.1
  Ok (RangeWrite (window offset.0 total.0 at.0) data')

unfoldable pub range_read : List ℕ → Result Order Code
range_read bytes = do
  offset ← word bytes
  total ← word offset.1
  at ← levels total.1
  size ← last_byte at.1
  Ok (RangeRead (window offset.0 total.0 at.0) size)

unfoldable pub change : List ℕ → Result Order Code
change bytes = do
  all ← sets bytes
  Ok (Change all)

unfoldable pub typed_write : List ℕ → Result Order Code
typed_write bytes = do
  offset ← word bytes
  total ← word offset.1
  at ← levels total.1
  element ← parameter at.1
  Ok (TypedWrite (window offset.0 total.0 at.0) element.0.0 element.0.1 element.1)

unfoldable pub typed_read : List ℕ → Result Order Code
typed_read bytes = do
  offset ← word bytes
  total ← word offset.1
  at ← levels total.1
  count ← last_word at.1
  Ok (TypedRead (window offset.0 total.0 at.0) count)

-- ---- the commands: CMD, then FNC where there is one, and what follows

abbrev pub basic : List ℕ → Result Order Code
basic [] = illegal
basic (fnc ∷ bytes) =
    if fnc == 0x00 then echo bytes
    else if fnc == 0x03 then status bytes
    else illegal

abbrev pub extended : List ℕ → Result Order Code
extended [] = illegal
extended (fnc ∷ bytes) =
    if fnc == 0x00 then range_write bytes
    else if fnc == 0x01 then range_read bytes
    else if fnc == 0x26 then change bytes
    else if fnc == 0x67 then typed_write bytes
    else if fnc == 0x68 then typed_read bytes
    else illegal

-- an order, or the code that refuses it: another CMD or FNC, or none, is illegal
abbrev pub order_of : ℕ → List ℕ → Result Order Code
order_of cmd payload =
    if cmd == 0x06 then basic payload
    else if cmd == 0x01 then unprotected_read payload
    else if cmd == 0x08 then unprotected_write payload
    else if cmd == 0x0F then extended payload
    else illegal

-- ---- the codes that refuse what can't be read: it isn't spelled as its command asks, or an address has too few levels or
-- too many

abbrev pub is_reading_code : Code → Bool
is_reading_code Done = false
is_reading_code (Sts status) = status == 0x10
is_reading_code (Ext extension) = (extension == 0x02) || (extension == 0x03)
