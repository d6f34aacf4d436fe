-- The fields that follow CMD and FNC, and the code that refuses an order where one of them can't be read.
use Rattle.std.specs.Prelude.{ℕ, zero, suc, ◌%◌, Bool, false, true, not, ◌&&◌, List, [], ◌∷◌, length, drop, ◌==◌, if◌then◌else◌, Result, Ok, Err}
use Rattle.std.specs.Option.{ok_or}
use Rattle.df1_base.specs.declared.code.Code.{Code}
use Rattle.df1_base.specs.declared.code.Code.TheVariants.{Sts, Ext}
use Rattle.logical_address.specs.declared.levels.Levels.{Levels}
use Rattle.logical_address.specs.declared.levels.LevelFault.{LevelFault}
use Rattle.logical_address.specs.declared.levels.LevelFault.TheVariants as level
use Rattle.logical_address.specs.declared.param.Param.{Param}
use Rattle.logical_address.specs.declared.param.ParamFault.{ParamFault}
use Rattle.logical_address.specs.Reading.{word_front, levels_at, param_at}
use Rattle.plc_commands.specs.declared.order.Set.{Set}

infixl 10 ◌>>=◌
abbrev pub ◌>>=◌ : {A B : Type 0} → Result A Code → (A → Result B Code) → Result B Code
(Ok a) >>= f = f a
(Err code) >>= f = Err code

-- the order isn't spelled as its command asks
abbrev pub illegal : {A : Type 0} → Result A Code
illegal = Err (Sts 0x10)

-- the answer, where the test holds
abbrev pub only_if : {A : Type 0} → Bool → A → Result A Code
only_if test answer = if test then Ok answer else illegal

-- ---- a field at the front, beside the bytes after it

-- two bytes, low first
abbrev pub word : List ℕ → Result (ℕ × List ℕ) Code
word bytes = ok_or (word_front bytes) (Sts 0x10)

-- why an address is refused
abbrev pub fault_code : LevelFault → Code
fault_code level.Truncated = Sts 0x10
fault_code level.TooFew = Ext 0x02
fault_code level.TooMany = Ext 0x03

abbrev pub after_levels : List ℕ → Result (Levels × ℕ) LevelFault → Result (Levels × List ℕ) Code
after_levels bytes (Ok found) = Ok (found.0, drop found.1 bytes)
after_levels bytes (Err fault) = Err (fault_code fault)

-- a level address
abbrev pub levels : List ℕ → Result (Levels × List ℕ) Code
levels bytes = after_levels bytes (levels_at bytes)

abbrev pub after_param : List ℕ → Result (Param × ℕ) ParamFault → Result (Param × List ℕ) Code
after_param bytes (Ok found) = Ok (found.0, drop found.1 bytes)
after_param bytes (Err fault) = illegal

-- a parameter
abbrev pub param : List ℕ → Result (Param × List ℕ) Code
param bytes = after_param bytes (param_at bytes)

-- the parameter of an element after that of an array, whose size counts all that follows it
abbrev pub array_element : Param → List ℕ → Result ((Param × Bool) × List ℕ) Code
array_element array bytes = do
  element ← param bytes
  only_if (array.size == length bytes) ((element.0, true), element.1)

-- the parameter of an element, by itself or after that of an array, which has the kind 9, and whether it is of an array
abbrev pub element_or_array : Param × List ℕ → Result ((Param × Bool) × List ℕ) Code
element_or_array found = if found.0.kind == 9 then array_element found.0 found.1 else Ok ((found.0, false), found.1)

abbrev pub parameter : List ℕ → Result ((Param × Bool) × List ℕ) Code
parameter bytes = param bytes >>= element_or_array

-- a set of a read-modify-write
unfoldable pub set : List ℕ → Result (Set × List ℕ) Code
set bytes = do
  at ← levels bytes
  and ← word at.1
  or ← word and.1
  Ok (record { at = at.0; and = and.0; or = or.0 }, or.1)

-- ---- a last field, which is all that is left

-- no byte
abbrev pub nothing : List ℕ → Result (Unit {0}) Code
nothing [] = Ok tt
nothing (b ∷ bytes) = illegal

-- one byte
abbrev pub last_byte : List ℕ → Result ℕ Code
last_byte [] = illegal
last_byte (b ∷ []) = Ok b
last_byte (b ∷ c ∷ bytes) = illegal

-- two bytes, low first
abbrev pub last_word : List ℕ → Result ℕ Code
last_word bytes = do
  found ← word bytes
  only_if (length found.1 == 0) found.0

-- whole words, and at least one
abbrev pub words : List ℕ → Result (List ℕ) Code
words bytes = only_if (not (length bytes == 0) && (length bytes % 2 == 0)) bytes

abbrev pub first_and_more : {A : Type 0} → A → List A → List A
first_and_more first more = first ∷ more

-- the sets that bytes are, one after the other; there are no more than the first number says, which is never reached
-- where it is the number of the bytes
unfoldable pub sets_within : ℕ → List ℕ → Result (List Set) Code
sets_within most [] = Ok []
sets_within zero (b ∷ bytes) = Ok []
sets_within (suc most) (b ∷ bytes) = do
  first ← set (b ∷ bytes)
  more ← sets_within most first.1
  Ok (first.0 ∷ more)

-- sets, and at least one
abbrev pub sets : List ℕ → Result (List Set) Code
sets [] = illegal
sets (b ∷ bytes) = sets_within (length (b ∷ bytes)) (b ∷ bytes)
