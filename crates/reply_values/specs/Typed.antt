-- The data of a typed read: the parameter of an element, alone or behind that of an array, which has the kind 9 and whose size is
-- the number of all bytes behind it, and the words.
use Rattle.std.specs.Prelude.{◌≡◌, ℕ, Bool, true, false, List, ◌++◌, length, drop, ◌==◌, if◌then◌else◌, Option, Some, None}
use Rattle.std.specs.Option.{option_and_then, option_map}
use Rattle.std.specs.Result.{result_ok}
use Rattle.logical_address.specs.declared.param.Param.{Param}
use Rattle.logical_address.specs.Reading.{param_at}
use Rattle.plc_commands.specs.Spelling.{SpellsElement}
use Rattle.reply_values.specs.declared.typed.Typed.{Typed}

-- typed data without where it lies in memory
pub record TypedData : Type 0 where
  pub element : Param
  pub is_array : Bool
  pub bytes : List ℕ

abbrev pub seen : Typed → TypedData
seen typed = record { element = typed.element; is_array = typed.is_array; bytes = typed.bytes.now }

-- the bytes of typed data: the spelling of its parameters, and the words of its elements
pub record SpellsTyped (typed : TypedData) (bytes : List ℕ) : Type 0 where
  pub front : List ℕ
  pub of_params : SpellsElement typed.element typed.is_array (length typed.bytes) front
  pub whole : bytes ≡ front ++ typed.bytes

-- ---- how it is read

-- a parameter at the front, and what follows it
abbrev pub after_param : List ℕ → Param × ℕ → Param × List ℕ
after_param bytes found = (found.0, drop found.1 bytes)

abbrev pub param_front : List ℕ → Option (Param × List ℕ)
param_front bytes = option_map (after_param bytes) (result_ok (param_at bytes))

abbrev pub with_element : Param → List ℕ → Param × List ℕ → Option TypedData
with_element array bytes found =
    if array.size == length bytes then Some (record { element = found.0; is_array = true; bytes = found.1 }) else None

abbrev pub array_element : Param → List ℕ → Option TypedData
array_element array bytes = option_and_then (with_element array bytes) (param_front bytes)

abbrev pub by_first : Param × List ℕ → Option TypedData
by_first found =
    if found.0.kind == 9 then array_element found.0 found.1 else Some (record { element = found.0; is_array = false; bytes = found.1 })

abbrev pub typed_of : List ℕ → Option TypedData
typed_of bytes = option_and_then by_first (param_front bytes)
