-- Data tables: a list of files in their order, and a finite map from places to words.
use Rattle.std.specs.Prelude.{ℕ, ◌+◌, ◌*◌, Bool, true, false, List, [], ◌∷◌, ◌++◌, length, map, replicate, find, nat_lt, nat_le, sum_by, ◌==◌, if◌then◌else◌, Option, None, Some, refl}
use Rattle.std.specs.Option.{option_map, option_map_or, option_or, unwrap_or}
use Rattle.std.specs.List.{flat_map, list_any, range_with_len}
use Rattle.std.specs.Ordering.{nat_cmp, ordering_then}
use Rattle.std.specs.declared.cmp.Ordering.{Ordering}
use Rattle.std.specs.FinMap as map_of
use Rattle.std.specs.Coded.{Coded, code_by, coded×, coded_list, coded_ℕ}
use Rattle.data_files.specs.declared.file_spec.FileSpec.{FileSpec}
use Rattle.data_files.specs.declared.make_fault.MakeFault.{MakeFault}
use Rattle.data_files.specs.declared.make_fault.MakeFault.TheVariants.{TooMany, Empty, Large, Twice}
use Rattle.data_files.specs.Words.{holds_words, words_per_element}

-- the order of places: by the number of the file, and then by the index of the word
abbrev pub place_cmp : ℕ × ℕ → ℕ × ℕ → Ordering
place_cmp a b = ordering_then (nat_cmp a.0 b.0) (nat_cmp a.1 b.1)

-- the files in the order in which they were given, and the word at each place
pub record DataTables : Type 0 where
  pub specs : List FileSpec
  pub words : map_of.FinMap place_cmp ℕ

-- tables are told apart by their files and words
abbrev pub tables_code : Coded FileSpec → Coded DataTables
tables_code spec =
    code_by (List FileSpec × map_of.FinMap place_cmp ℕ) (coded× (coded_list spec) (map_of.code (coded× coded_ℕ coded_ℕ) coded_ℕ))
    (λ t. (t.specs, t.words)) (λ p. record { specs = p.0; words = p.1 }) (λ _. refl)

-- the words of a file
abbrev pub word_count : FileSpec → ℕ
word_count spec = spec.count * words_per_element spec.kind

-- the file of a number
abbrev pub file_of : List FileSpec → ℕ → Option FileSpec
file_of specs number = find (λ spec. spec.number == number) specs

-- a compatibility file, where one is given, is one of the files, and holds bits or integers
abbrev pub fits_compat : List FileSpec → Option ℕ → Bool
fits_compat specs compat = option_map_or (λ number. option_map_or (λ spec. holds_words spec.kind) (file_of specs number) false) compat true

-- there is such a file, and such a word in it
abbrev pub has_word : List FileSpec → ℕ → ℕ → Bool
has_word specs number index = option_map_or (λ spec. nat_lt index (word_count spec)) (file_of specs number) false

-- the word at a place
abbrev pub word_at : DataTables → ℕ → ℕ → Option ℕ
word_at tables number index = map_of.get tables.words (number, index)

-- another word at a place
abbrev pub with_word : DataTables → ℕ → ℕ → ℕ → DataTables
with_word tables number index value = record tables { words = map_of.insert tables.words (number, index) value }

-- there is such a file, and it has so many words from an index on
abbrev pub has_words : List FileSpec → ℕ → ℕ → ℕ → Bool
has_words specs number first count = option_map_or (λ spec. nat_le (first + count) (word_count spec)) (file_of specs number) false

-- so many words of a file, from an index on
abbrev pub words_at : DataTables → ℕ → ℕ → ℕ → List ℕ
words_at tables number first count = map (λ index. unwrap_or (word_at tables number index) 0) (range_with_len first count)

-- other words in a file, from an index on
abbrev pub with_words : DataTables → ℕ → ℕ → List ℕ → DataTables
with_words tables number first [] = tables
with_words tables number first (word ∷ words) = with_words (with_word tables number first word) number (first + 1) words

-- the words of all files, file after file
abbrev pub flat_words : DataTables → List ℕ
flat_words tables = flat_map (λ spec. words_at tables spec.number 0 (word_count spec)) tables.specs

-- how many words the files have
abbrev pub total_words : List FileSpec → ℕ
total_words specs = sum_by word_count specs

-- where the words of a file begin among the words of all: after those of the files before it
abbrev pub start_of : List FileSpec → ℕ → Option ℕ
start_of [] number = None
start_of (spec ∷ specs) number = if spec.number == number then Some 0 else option_map (λ start. word_count spec + start) (start_of specs number)

-- words at their places, from an index of a file on
abbrev pub placed : ℕ → ℕ → List ℕ → List ((ℕ × ℕ) × ℕ)
placed number index [] = []
placed number index (word ∷ words) = ((number, index), word) ∷ placed number (index + 1) words

-- the words of these files at their places, all 0
abbrev pub zero_entries : List FileSpec → List ((ℕ × ℕ) × ℕ)
zero_entries specs = flat_map (λ spec. placed spec.number 0 (replicate (word_count spec) 0)) specs

-- tables of these files, whose words are all 0
abbrev pub fresh : List FileSpec → DataTables
fresh specs = record { specs = specs; words = map_of.from_entries (zero_entries specs) }

-- what a file is tested for, in order, where it is known whether an earlier one has its number
abbrev pub tests_of : FileSpec → Bool → List (Bool × MakeFault)
tests_of spec is_twice = (spec.count == 0, Empty spec.number) ∷ (nat_lt 1000 spec.count, Large spec.number) ∷ (is_twice, Twice spec.number) ∷ []

-- the fault of the first test that finds one
abbrev pub first_found : List (Bool × MakeFault) → Option MakeFault
first_found [] = None
first_found ((is_so, fault) ∷ tests) = if is_so then Some fault else first_found tests

-- what is wrong with a file
abbrev pub file_fault : FileSpec → Bool → Option MakeFault
file_fault spec is_twice = first_found (tests_of spec is_twice)

-- what is wrong with a file that follows others
abbrev pub fault_of : List FileSpec → FileSpec → Option MakeFault
fault_of before spec = file_fault spec (list_any (λ other. other.number == spec.number) before)

-- the first fault of files that follow others
abbrev pub first_fault : List FileSpec → List FileSpec → Option MakeFault
first_fault before [] = None
first_fault before (spec ∷ specs) = option_or (fault_of before spec) (first_fault (before ++ spec ∷ []) specs)

-- what is wrong with files
abbrev pub faults : List FileSpec → Option MakeFault
faults specs = if nat_lt 256 (length specs) then Some TooMany else first_fault [] specs
