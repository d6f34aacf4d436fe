-- That a command that can't be read is refused with a code of reading.
use Rattle.std.proofs.Common.{◌≡◌, ℕ, zero, suc, ◌%◌, Bool, true, false, not, ◌&&◌, eqb, List, [], ◌∷◌, length, Option, None, Some, Result, Ok, Err, refl}
use Rattle.std.specs.Prelude.{IfErr}
use Rattle.std.specs.Option.{ok_or}
use Rattle.std.proofs.lemmas.Bool.{cond_both}
use Rattle.df1_base.specs.declared.code.Code.{Code}
use Rattle.df1_base.specs.declared.code.Code.TheVariants.{Sts}
use Rattle.logical_address.specs.declared.levels.Levels.{Levels}
use Rattle.logical_address.specs.declared.levels.LevelFault.{LevelFault}
use Rattle.logical_address.specs.declared.levels.LevelFault.TheVariants as level
use Rattle.logical_address.specs.declared.param.Param.{Param}
use Rattle.logical_address.specs.declared.param.ParamFault.{ParamFault}
use Rattle.logical_address.specs.Reading.{word_front, levels_at, param_at}
use Rattle.plc_commands.specs.Fields.{◌>>=◌, illegal, only_if, word, after_levels, levels, after_param, param, array_element, parameter, set, sets_within, sets, nothing, last_byte, last_word, words}
use Rattle.plc_commands.specs.Reading.{is_reading_code}
use Rattle.plc_commands.specs.Reading as reading

-- what wasn't read is refused with a code of reading
abbrev pub IsTold : {A : Type 0} → Result A Code → Type 0
IsTold r = IfErr r (λ code. is_reading_code code ≡ true)

then_told : {A B : Type 0} (r : Result A Code) (f : A → Result B Code) → IsTold r → ((a : A) → IsTold (f a)) → IsTold (r >>= f)
then_told (Ok a) f first next = next a
then_told (Err code) f first next = first

-- ---- fields

ok_or_told : {A : Type 0} (found : Option A) → IsTold (ok_or found (Sts 0x10))
ok_or_told (Some a) = tt
ok_or_told None = refl

only_if_told : {A : Type 0} (test : Bool) (answer : A) → IsTold (only_if test answer)
only_if_told true answer = tt
only_if_told false answer = refl

word_told : (bytes : List ℕ) → IsTold (word bytes)
word_told bytes = ok_or_told (word_front bytes)

levels_told : (bytes : List ℕ) → IsTold (levels bytes)
levels_told bytes = by (levels_at bytes)
  where
    by : (r : Result (Levels × ℕ) LevelFault) → IsTold (after_levels bytes r)
    by (Ok found) = tt
    by (Err level.Truncated) = refl
    by (Err level.TooFew) = refl
    by (Err level.TooMany) = refl

param_told : (bytes : List ℕ) → IsTold (param bytes)
param_told bytes = by (param_at bytes)
  where
    by : (r : Result (Param × ℕ) ParamFault) → IsTold (after_param bytes r)
    by (Ok found) = tt
    by (Err fault) = refl

array_told : (array : Param) (bytes : List ℕ) → IsTold (array_element array bytes)
array_told array bytes = then_told (param bytes) _ (param_told bytes) (λ element. only_if_told (eqb array.size (length bytes)) ((element.0, true), element.1))

parameter_told : (bytes : List ℕ) → IsTold (parameter bytes)
parameter_told bytes =
    then_told (param bytes) _ (param_told bytes) (λ first.
    cond_both (eqb first.0.kind 9) (array_element first.0 first.1) (Ok ((first.0, false), first.1)) IsTold (λ _. array_told first.0 first.1) (λ _. tt))

nothing_told : (bytes : List ℕ) → IsTold (nothing bytes)
nothing_told [] = tt
nothing_told (b ∷ bytes) = refl

last_byte_told : (bytes : List ℕ) → IsTold (last_byte bytes)
last_byte_told [] = refl
last_byte_told (b ∷ []) = tt
last_byte_told (b ∷ c ∷ bytes) = refl

last_word_told : (bytes : List ℕ) → IsTold (last_word bytes)
last_word_told bytes = then_told (word bytes) _ (word_told bytes) (λ found. only_if_told (eqb (length found.1) 0) found.0)

words_told : (bytes : List ℕ) → IsTold (words bytes)
words_told bytes = only_if_told (not (eqb (length bytes) 0) && eqb (length bytes % 2) 0) bytes

-- ---- sets

set_told : (bytes : List ℕ) → IsTold (set bytes)
unfolding set
set_told bytes =
    then_told (levels bytes) _ (levels_told bytes) (λ at. then_told (word at.1) _ (word_told at.1) (λ and. then_told (word and.1) _ (word_told and.1) (λ or. tt)))

sets_within_told : (most : ℕ) (bytes : List ℕ) → IsTold (sets_within most bytes)
unfolding sets_within
sets_within_told most [] = tt
sets_within_told zero (b ∷ bytes) = tt
sets_within_told (suc most) (b ∷ bytes) =
    then_told (set (b ∷ bytes)) _ (set_told (b ∷ bytes)) (λ first. then_told (sets_within most first.1) _ (sets_within_told most first.1) (λ more. tt))

sets_told : (bytes : List ℕ) → IsTold (sets bytes)
sets_told [] = refl
sets_told (b ∷ bytes) = sets_within_told (length (b ∷ bytes)) (b ∷ bytes)

-- ---- what follows CMD and FNC

-- offset, total and address, and what is read after them
window_told : {A : Type 0} (bytes : List ℕ) (f : ℕ × List ℕ → ℕ × List ℕ → Levels × List ℕ → Result A Code) → ((offset total : ℕ × List ℕ) (at : Levels × List ℕ) → IsTold (f offset total at))
    → IsTold (word bytes >>= (λ offset. word offset.1 >>= (λ total. levels total.1 >>= f offset total)))
window_told bytes f next =
    then_told (word bytes) _ (word_told bytes) (λ offset.
    then_told (word offset.1) _ (word_told offset.1) (λ total. then_told (levels total.1) (f offset total) (levels_told total.1) (next offset total)))

status_told : (bytes : List ℕ) → IsTold (reading.status bytes)
status_told bytes = then_told (nothing bytes) _ (nothing_told bytes) (λ none. tt)

unprotected_read_told : (bytes : List ℕ) → IsTold (reading.unprotected_read bytes)
unfolding reading.unprotected_read
unprotected_read_told bytes =
    then_told (word bytes) _ (word_told bytes) (λ address. then_told (last_byte address.1) _ (last_byte_told address.1) (λ size. tt))

unprotected_write_told : (bytes : List ℕ) → IsTold (reading.unprotected_write bytes)
unfolding reading.unprotected_write
unprotected_write_told bytes =
    then_told (word bytes) _ (word_told bytes) (λ address. then_told (words address.1) _ (words_told address.1) (λ data'. tt))

range_write_told : (bytes : List ℕ) → IsTold (reading.range_write bytes)
unfolding reading.range_write
range_write_told bytes = window_told bytes _ (λ offset total at. then_told (words at.1) _ (words_told at.1) (λ data'. tt))

range_read_told : (bytes : List ℕ) → IsTold (reading.range_read bytes)
unfolding reading.range_read
range_read_told bytes = window_told bytes _ (λ offset total at. then_told (last_byte at.1) _ (last_byte_told at.1) (λ size. tt))

change_told : (bytes : List ℕ) → IsTold (reading.change bytes)
unfolding reading.change
change_told bytes = then_told (sets bytes) _ (sets_told bytes) (λ all. tt)

typed_write_told : (bytes : List ℕ) → IsTold (reading.typed_write bytes)
unfolding reading.typed_write
typed_write_told bytes = window_told bytes _ (λ offset total at. then_told (parameter at.1) _ (parameter_told at.1) (λ element. tt))

typed_read_told : (bytes : List ℕ) → IsTold (reading.typed_read bytes)
unfolding reading.typed_read
typed_read_told bytes = window_told bytes _ (λ offset total at. then_told (last_word at.1) _ (last_word_told at.1) (λ count. tt))

-- ---- commands

basic_told : (payload : List ℕ) → IsTold (reading.basic payload)
basic_told [] = refl
basic_told (fnc ∷ bytes) =
    cond_both (eqb fnc 0x00) (reading.echo bytes) _ IsTold (λ _. tt) (λ _.
    cond_both (eqb fnc 0x03) (reading.status bytes) illegal IsTold (λ _. status_told bytes) (λ _. refl))

extended_told : (payload : List ℕ) → IsTold (reading.extended payload)
extended_told [] = refl
extended_told (fnc ∷ bytes) =
    cond_both (eqb fnc 0x00) (reading.range_write bytes) _ IsTold (λ _. range_write_told bytes) (λ _.
    cond_both (eqb fnc 0x01) (reading.range_read bytes) _ IsTold (λ _. range_read_told bytes) (λ _.
    cond_both (eqb fnc 0x26) (reading.change bytes) _ IsTold (λ _. change_told bytes) (λ _.
    cond_both (eqb fnc 0x67) (reading.typed_write bytes) _ IsTold (λ _. typed_write_told bytes) (λ _.
    cond_both (eqb fnc 0x68) (reading.typed_read bytes) illegal IsTold (λ _. typed_read_told bytes) (λ _. refl)))))

pub order_told : (cmd : ℕ) (payload : List ℕ) → IsTold (reading.order_of cmd payload)
order_told cmd payload =
    cond_both (eqb cmd 0x06) (reading.basic payload) _ IsTold (λ _. basic_told payload) (λ _.
    cond_both (eqb cmd 0x01) (reading.unprotected_read payload) _ IsTold (λ _. unprotected_read_told payload) (λ _.
    cond_both (eqb cmd 0x08) (reading.unprotected_write payload) _ IsTold (λ _. unprotected_write_told payload) (λ _.
    cond_both (eqb cmd 0x0F) (reading.extended payload) illegal IsTold (λ _. extended_told payload) (λ _. refl))))
