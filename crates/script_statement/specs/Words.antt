-- Words of a line, and what a word means by itself.
use Rattle.std.specs.Prelude.{ℕ, ◌+◌, ◌*◌, Bool, List, [], ◌∷◌, length, filter, not, Option, Some, None, option_and_then, nat_lt, nat_le, ◌==◌, ◌&&◌, ◌||◌, if◌then◌else◌}
use Rattle.std.specs.List.{list_all, slice_split}
use Rattle.std.specs.Char.{is_ascii_digit}
use Rattle.std.specs.Result.{result_ok}
use Rattle.std.specs.Str.Parse.{digits_value}
use Rattle.hex.specs.Hex.{decode_of, decode_sized}

-- a blank or a tab
abbrev pub is_blank : ℕ → Bool
is_blank byte = (byte == 32) || (byte == 9)

-- the words of a line, parted by blanks and tabs
abbrev pub words : List ℕ → List (List ℕ)
words line = filter (λ word. not (length word == 0)) (slice_split is_blank line)

-- 1 to 9 decimal digits
abbrev pub is_number : List ℕ → Bool
is_number word = nat_lt 0 (length word) && nat_le (length word) 9 && list_all is_ascii_digit word

-- the number that a word is
unfoldable pub number_of : List ℕ → Option ℕ
number_of word = if is_number word then Some (digits_value 10 word) else None

-- a number within bounds
abbrev pub within : ℕ → ℕ → Option ℕ → Option ℕ
within least most None = None
within least most (Some n) = if nat_le least n && nat_le n most then Some n else None

-- the bytes that a word of pairs of hexadecimal digits spells
abbrev pub hex_of : List ℕ → Option (List ℕ)
hex_of word = result_ok (decode_of word)

-- the byte of a list of one
abbrev pub byte_in : List ℕ → Option ℕ
byte_in (byte ∷ []) = Some byte
byte_in other = None

-- the byte that two hexadecimal digits spell
abbrev pub byte_of : List ℕ → Option ℕ
byte_of word = option_and_then byte_in (result_ok (decode_sized word 1))

-- the word of a data file, of a high and a low byte
abbrev pub register_in : List ℕ → Option ℕ
register_in (high ∷ low ∷ []) = Some (high * 256 + low)
register_in other = None

-- the word of a data file that four hexadecimal digits spell, its high byte first
abbrev pub register_of : List ℕ → Option ℕ
register_of word = option_and_then register_in (result_ok (decode_sized word 2))
