-- How orders are spelled: which CMD, and which bytes after TNS, are which order. Bytes are numbers below 256.
use Rattle.std.specs.Prelude.{◌≡◌, ◌≢◌, ℕ, ◌+◌, ◌*◌, Bool, true, false, List, [], ◌∷◌, ◌++◌, length}
use Rattle.logical_address.specs.declared.param.Param.{Param}
use Rattle.logical_address.specs.Spelling.{SpellsLevels, SpellsParam}
use Rattle.plc_commands.specs.declared.order.Set.{Set}
use Rattle.plc_commands.specs.declared.order.Window.{Window}
use Rattle.plc_commands.specs.Order.{Order, Echo, Status, Peek, Poke, RangeWrite, RangeRead, Change, TypedWrite, TypedRead, IsWords}

-- two bytes, low first
pub data SpellsWord : ℕ → List ℕ → Type 0 where
  low_first : {n low high : ℕ} → n ≡ low + 256 * high → SpellsWord n (low ∷ high ∷ [])

-- a part of a range: offset, total and where the range begins
pub record SpellsWindow (window : Window) (bytes : List ℕ) : Type 0 where
  pub offset : List ℕ
  pub total : List ℕ
  pub at : List ℕ
  pub of_offset : SpellsWord window.offset offset
  pub of_total : SpellsWord window.total total
  pub of_at : SpellsLevels window.at at
  pub whole : bytes ≡ offset ++ total ++ at

-- a set: where the word is, the AND mask and the OR mask
pub record SpellsSet (set : Set) (bytes : List ℕ) : Type 0 where
  pub at : List ℕ
  pub and : List ℕ
  pub or : List ℕ
  pub of_at : SpellsLevels set.at at
  pub of_and : SpellsWord set.and and
  pub of_or : SpellsWord set.or or
  pub whole : bytes ≡ at ++ and ++ or

-- sets, one after the other
pub data SpellsSets : List Set → List ℕ → Type 0 where
  no_set : SpellsSets [] []
  one_set : {set : Set} {sets : List Set} {front rest : List ℕ} → SpellsSet set front → SpellsSets sets rest → SpellsSets (set ∷ sets) (front ++ rest)

-- the parameter of an element before so many bytes of data: by itself, of another kind than 9; or after the parameter of
-- an array, of kind 9, whose size is that of the element's parameter and of the data
pub data SpellsElement : Param → Bool → ℕ → List ℕ → Type 0 where
  alone : {element : Param} {size : ℕ} {bytes : List ℕ} → SpellsParam element bytes → element.kind ≢ 9 → SpellsElement element false size bytes
  in_array : {element array : Param} {size : ℕ} {outer inner : List ℕ} → SpellsParam array outer → array.kind ≡ 9 → SpellsParam element inner → array.size ≡ length inner + size
      → SpellsElement element true size (outer ++ inner)

-- what follows CMD and FNC
pub data SpellsFields : Order → List ℕ → Type 0 where
  echo : {bytes : List ℕ} → SpellsFields (Echo bytes) bytes
  status : SpellsFields Status []
  peek : {address size : ℕ} {at : List ℕ} → SpellsWord address at → SpellsFields (Peek address size) (at ++ size ∷ [])
  poke : {address : ℕ} {at bytes : List ℕ} → SpellsWord address at → IsWords bytes → SpellsFields (Poke address bytes) (at ++ bytes)
  range_write : {window : Window} {front bytes : List ℕ} → SpellsWindow window front → IsWords bytes → SpellsFields (RangeWrite window bytes) (front ++ bytes)
  range_read : {window : Window} {size : ℕ} {front : List ℕ} → SpellsWindow window front → SpellsFields (RangeRead window size) (front ++ size ∷ [])
  change : {sets : List Set} {bytes : List ℕ} → SpellsSets sets bytes → sets ≢ [] → SpellsFields (Change sets) bytes
  typed_write : {window : Window} {element : Param} {array : Bool} {front param bytes : List ℕ} → SpellsWindow window front → SpellsElement element array (length bytes) param
      → SpellsFields (TypedWrite window element array bytes) (front ++ (param ++ bytes))
  typed_read : {window : Window} {count : ℕ} {front last : List ℕ} → SpellsWindow window front → SpellsWord count last → SpellsFields (TypedRead window count) (front ++ last)

-- CMD
abbrev pub cmd_byte : Order → ℕ
cmd_byte (Echo bytes) = 0x06
cmd_byte Status = 0x06
cmd_byte (Peek address size) = 0x01
cmd_byte (Poke address bytes) = 0x08
cmd_byte (RangeWrite window bytes) = 0x0F
cmd_byte (RangeRead window size) = 0x0F
cmd_byte (Change sets) = 0x0F
cmd_byte (TypedWrite window element array bytes) = 0x0F
cmd_byte (TypedRead window count) = 0x0F

-- FNC, where there is one
abbrev pub fnc_bytes : Order → List ℕ
fnc_bytes (Echo bytes) = 0x00 ∷ []
fnc_bytes Status = 0x03 ∷ []
fnc_bytes (Peek address size) = []
fnc_bytes (Poke address bytes) = []
fnc_bytes (RangeWrite window bytes) = 0x00 ∷ []
fnc_bytes (RangeRead window size) = 0x01 ∷ []
fnc_bytes (Change sets) = 0x26 ∷ []
fnc_bytes (TypedWrite window element array bytes) = 0x67 ∷ []
fnc_bytes (TypedRead window count) = 0x68 ∷ []

-- a command: its CMD, and the payload after TNS
pub record SpellsOrder (order : Order) (cmd : ℕ) (payload : List ℕ) : Type 0 where
  pub fields : List ℕ
  pub of_cmd : cmd ≡ cmd_byte order
  pub of_fields : SpellsFields order fields
  pub whole : payload ≡ fnc_bytes order ++ fields
