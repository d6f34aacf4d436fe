-- Each address has a text, and what a text is has numbers that fit.
use Rattle.std.proofs.Common.{◌≡◌, ℕ, ◌+◌, ◌-◌, ◌*◌, ◌/◌, ◌%◌, ◌<◌, ◌≤◌, ◌^◌, true, eqb, leb, List, [], ◌∷◌, ◌++◌, length, Option, Some, None, Ok, refl, sym, ap, subst, ◌∙◌, arith, length-append}
use Rattle.std.specs.Prelude.{decimal}
use Rattle.std.proofs.lemmas.Bool.{cond_both, eqb-true, le-leb}
use Rattle.std.proofs.lemmas.Fmt.{decimal_by_steps}
use Rattle.df1_base.specs.declared.file_type.FileType.{FileType}
use Rattle.df1_base.specs.declared.file_type.FileType.TheVariants.{Status, Bit, Timer, Counter, Control, Integer, Float}
use Rattle.data_addresses.specs.declared.address.Address.{Address}
use Rattle.data_addresses.specs.Numbers.{is_digit, number_from, number_of, AreDigits, SpellsNumber}
use Rattle.data_addresses.specs.Text.{most_sub, IsName, timer_control, timer_preset, timer_accumulator, counter_control, counter_preset, counter_accumulator, control_control, control_length, control_position, SpellsFile, file_number, status_file, SpellsSub, no_sub, sub_name, sub_number, SpellsBit, no_bit, bit_number, SpellsAddress}
use Rattle.data_addresses.specs.Reading.{address_of}
use Rattle.data_addresses.specs.Canonical.{IsAddress, IsBit, address_text, bit_text, sub_text}
use Rattle.data_addresses.proofs.Known.{address_again}

-- ---- decimals

record IsDecimal (n : ℕ) (text : List ℕ) : Type 0 where
  some : 0 < length text
  each : AreDigits text
  value : n ≡ number_of text

digits_append : (front rest : List ℕ) → AreDigits front → AreDigits rest → AreDigits (front ++ rest)
digits_append [] rest f r = r
digits_append (b ∷ front) rest f r = (f.0, digits_append front rest f.1 r)

number_append : (front rest : List ℕ) (n : ℕ) → number_from n (front ++ rest) ≡ number_from (number_from n front) rest
number_append [] rest n = refl
number_append (d ∷ front) rest n = number_append front rest (10 * n + (d - 48))

last_digit : (d : ℕ) → d < 10 → is_digit (48 + d) ≡ true
last_digit d small =
    let low : leb 48 (48 + d) ≡ true = le-leb 48 (48 + d) (omega arith) in
    let high : leb (48 + d) 57 ≡ true = le-leb (48 + d) 57 (omega arith) in
    rw (low, high) refl

one_digit : (n : ℕ) → n < 10 → IsDecimal n ((48 + n) ∷ [])
one_digit n small = record { some = omega arith; each = (last_digit n small, tt); value = omega arith }

more_digits : (n : ℕ) (ds : List ℕ) → 10 ≤ n → IsDecimal (n / 10) ds → IsDecimal n (ds ++ ((48 + n % 10) ∷ []))
more_digits n ds large front =
    let total = length-append ds ((48 + n % 10) ∷ []) in
    let value = front.value in
    let last : n ≡ 10 * number_of ds + ((48 + n % 10) - 48) = omega arith in
    record {
      some = omega arith;
      each = digits_append ds ((48 + n % 10) ∷ []) front.each (last_digit (n % 10) (omega arith), tt);
      value = last ∙ sym (number_append ds ((48 + n % 10) ∷ []) 0);
    }

decimal_is : (n : ℕ) → n < 2 ^ 64 → IsDecimal n (decimal n)
decimal_is n small = decimal_by_steps IsDecimal one_digit more_digits n small

decimal_spelled : (most n : ℕ) → n ≤ most → most ≤ 999 → SpellsNumber most n (decimal n)
decimal_spelled most n within small =
    let d = decimal_is n (omega arith) in
    let some = d.some in
    record { some = λ e. let none = ap length e in absurd (omega arith); each = d.each; value = d.value; within = within }

-- ---- a text of an address

small_sub : (kind : FileType) → most_sub kind ≤ 999
small_sub Status = omega arith
small_sub Bit = omega arith
small_sub Timer = omega arith
small_sub Counter = omega arith
small_sub Control = omega arith
small_sub Integer = omega arith
small_sub Float = omega arith

sub_spelled : (kind : FileType) (sub : ℕ) → sub ≤ most_sub kind → SpellsSub kind sub (sub_text sub)
sub_spelled kind sub within =
    let none : ℕ → Type 0 = λ n. SpellsSub kind n [] in
    cond_both (eqb sub 0) [] (46 ∷ decimal sub) (λ text. SpellsSub kind sub text)
    (λ is. subst none (sym (eqb-true sub 0 is)) no_sub)
    (λ _. sub_number (decimal_spelled (most_sub kind) sub within (small_sub kind)))

bit_spelled : (kind : FileType) (bit : Option ℕ) → IsBit kind bit → SpellsBit kind bit (bit_text bit)
bit_spelled kind None is = no_bit
bit_spelled kind (Some bit) is = bit_number is.0 (decimal_spelled 15 bit is.1 (omega arith))

pub text_spelled : (at : Address) → IsAddress at → SpellsAddress at (address_text at)
text_spelled at is = record {
  file = decimal at.file;
  element = decimal at.element;
  sub = sub_text at.sub;
  bit = bit_text at.bit;
  of_file = file_number (decimal_spelled 999 at.file is.file (omega arith));
  of_element = decimal_spelled 999 at.element is.element (omega arith);
  of_sub = sub_spelled at.kind at.sub is.sub;
  of_bit = bit_spelled at.kind at.bit is.bit;
  whole = refl;
}

pub text_read : (at : Address) → IsAddress at → address_of (address_text at) ≡ Ok at
text_read at is = address_again at (address_text at) (text_spelled at is)

-- ---- what a text is

file_within : {kind : FileType} {file : ℕ} {text : List ℕ} → SpellsFile kind file text → file ≤ 999
file_within (file_number s) = s.within
file_within status_file = omega arith

name_within : {kind : FileType} {sub : ℕ} {name : List ℕ} → IsName kind sub name → sub ≤ most_sub kind
name_within timer_control = omega arith
name_within timer_preset = omega arith
name_within timer_accumulator = omega arith
name_within counter_control = omega arith
name_within counter_preset = omega arith
name_within counter_accumulator = omega arith
name_within control_control = omega arith
name_within control_length = omega arith
name_within control_position = omega arith

sub_within : {kind : FileType} {sub : ℕ} {text : List ℕ} → SpellsSub kind sub text → sub ≤ most_sub kind
sub_within no_sub = omega arith
sub_within (sub_name n) = name_within n
sub_within (sub_number s) = s.within

bit_within : {kind : FileType} {bit : Option ℕ} {text : List ℕ} → SpellsBit kind bit text → IsBit kind bit
bit_within no_bit = tt
bit_within (bit_number has s) = (has, s.within)

pub only_addresses : (at : Address) (text : List ℕ) → SpellsAddress at text → IsAddress at
only_addresses at text s = record { file = file_within s.of_file; element = s.of_element.within; sub = sub_within s.of_sub; bit = bit_within s.of_bit }
