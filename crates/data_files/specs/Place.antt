-- The place of the words that an order reads or writes, and the tests of it.
use Rattle.std.specs.Prelude.{ℕ, ◌+◌, ◌*◌, Bool, false, true, not, ◌&&◌, ◌==◌, nat_lt, nat_le, List, [], ◌∷◌, Option, Result}
use Rattle.std.specs.Option.{option_map_or, is_some}
use Rattle.df1_base.specs.declared.code.Code.{Code}
use Rattle.df1_base.specs.declared.code.Code.TheVariants.{Ext}
use Rattle.df1_base.specs.declared.file_type.FileType.{FileType}
use Rattle.df1_base.specs.declared.file_type.FileType.TheVariants.{Status, Bit, Timer, Counter, Control, Integer, Float}
use Rattle.data_files.specs.declared.file_spec.FileSpec.{FileSpec}
use Rattle.data_files.specs.declared.place.Place.{Place}
use Rattle.data_files.specs.Words.{words_per_element}
use Rattle.data_files.specs.Tables.{word_count}
use Rattle.data_files.specs.Effect.{Test, refusal, unless_refused}

-- the type byte of a file
abbrev pub type_byte : FileType → ℕ
type_byte Status = 0x84
type_byte Bit = 0x85
type_byte Timer = 0x86
type_byte Counter = 0x87
type_byte Control = 0x88
type_byte Integer = 0x89
type_byte Float = 0x8A

abbrev pub is_status : FileType → Bool
is_status Status = true
is_status Bit = false
is_status Timer = false
is_status Counter = false
is_status Control = false
is_status Integer = false
is_status Float = false

-- the index in its file of the first word of a place
abbrev pub first_in : Place → FileSpec → ℕ
first_in place file = place.element * words_per_element file.kind + place.sub + place.offset

-- the type is the one whose byte is given, if one is
abbrev pub is_of_type : Option ℕ → FileType → Bool
is_of_type byte kind = option_map_or (λ b. b == type_byte kind) byte true

-- there is such a file, and it is so
abbrev pub holds_of : (FileSpec → Bool) → Option FileSpec → Bool
holds_of test file = option_map_or test file false

-- the tests of a place, beside the file of its number: there is such a file; it is of the type that is given; it may be
-- written; there is such a sub-element; all the words are in the file
abbrev pub place_tests : Option FileSpec → Place → List Test
place_tests file place =
    (is_some file, Ext 0x06)
    ∷ (holds_of (λ f. is_of_type place.kind f.kind) file, Ext 0x11)
    ∷ (holds_of (λ f. not (place.writes && is_status f.kind)) file, Ext 0x0B)
    ∷ (holds_of (λ f. nat_lt place.sub (words_per_element f.kind)) file, Ext 0x06)
    ∷ (holds_of (λ f. nat_le (first_in place f + place.count) (word_count f)) file, Ext 0x0A)
    ∷ []

-- the index of the first word of a place, and 0 where there is no such file
abbrev pub first_of : Option FileSpec → Place → ℕ
first_of file place = option_map_or (first_in place) file 0

-- the index of the first word, or the code that refuses the place
abbrev pub located : Option FileSpec → Place → Result ℕ Code
located file place = unless_refused (refusal (place_tests file place)) (first_of file place)
