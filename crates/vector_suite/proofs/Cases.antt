-- What is wanted of the forty cases is what their kinds make of their inputs.
use Rattle.std.proofs.Common.{◌≡◌, ◌∙◌, ℕ, List, ◌++◌, Option, None, Some, map, refl, ap}
use Rattle.std.specs.Prelude.{position}
use Rattle.std.specs.FinMap.{get-from_entries}
use Rattle.hex.specs.Hex.{decode_pairs}
use Rattle.df1_check.specs.Checks.{eight_shifts}
use Rattle.df1_frame.specs.Spelling.{check_bytes}
use Rattle.logical_address.specs.Reading.{three_front, named_front, fields_front}
use Rattle.data_files.specs.Tables.{fresh, with_word, word_at, zero_entries}
use Rattle.data_files.proofs.Placed.{places_total}
use Rattle.data_files.proofs.Words.{word_at-with_word}
use Rattle.slc_commands.specs.Order.{fields, spelled_order}
use Rattle.plc_commands.specs.Fields.{set, sets_within}
use Rattle.plc_commands.specs.Reading.{unprotected_read, unprotected_write, range_write, range_read, change, typed_write, typed_read}
use Rattle.vector_suite.specs.declared.case.Case.{Case}
use Rattle.vector_suite.specs.Telling.{differing}
use Rattle.vector_suite.specs.Vectors.{files, first_differing, is_other, shown, station}
use Rattle.vector_suite.specs.Forty.{basic_cases, check_cases, forty, logical_cases, other_cases, range_cases}
use Rattle.vector_suite.proofs.Places.{NoneIs, none-joined, none-there, position-mapped}

-- ---- the words that are read

first : word_at station.tables 7 0 ≡ Some 0x1234
first = word_at-with_word (with_word (fresh files) 7 0 0x1234) 7 1 0x5678 7 0 ∙ word_at-with_word (fresh files) 7 0 0x1234 7 0

second : word_at station.tables 7 1 ≡ Some 0x5678
second = word_at-with_word (with_word (fresh files) 7 0 0x1234) 7 1 0x5678 7 1

low_of_float : word_at station.tables 8 0 ≡ Some 0
low_of_float =
    word_at-with_word (with_word (fresh files) 7 0 0x1234) 7 1 0x5678 8 0 ∙ word_at-with_word (fresh files) 7 0 0x1234 8 0 ∙ get-from_entries places_total (zero_entries files) (8, 0)

high_of_float : word_at station.tables 8 1 ≡ Some 0
high_of_float =
    word_at-with_word (with_word (fresh files) 7 0 0x1234) 7 1 0x5678 8 1 ∙ word_at-with_word (fresh files) 7 0 0x1234 8 1 ∙ get-from_entries places_total (zero_entries files) (8, 1)

-- ---- the cases

checks-hold : NoneIs is_other check_cases
unfolding decode_pairs eight_shifts check_bytes
checks-hold = (refl, (refl, (refl, (refl, (refl, (refl, (refl, (refl, tt))))))))

basics-hold : NoneIs is_other basic_cases
unfolding decode_pairs three_front fields spelled_order
basics-hold = (refl, (refl, (refl, (refl, (rw first refl, (rw second refl, (refl, (refl, tt))))))))

logicals-hold : NoneIs is_other logical_cases
unfolding decode_pairs three_front fields spelled_order named_front set sets_within change
logicals-hold = (refl, (refl, (refl, (refl, (refl, (refl, (refl, (refl, tt))))))))

ranges-hold : NoneIs is_other range_cases
unfolding decode_pairs named_front fields_front set sets_within change range_read range_write typed_read typed_write spelled_order
ranges-hold = (refl, (rw first (rw second refl), (refl, (refl, (rw first (rw second refl), (refl, (rw low_of_float (rw high_of_float refl), (refl, tt))))))))

others-hold : NoneIs is_other other_cases
unfolding decode_pairs three_front fields spelled_order range_read unprotected_read unprotected_write
others-hold = (refl, (refl, (rw first refl, (refl, (refl, (rw second refl, (refl, (refl, tt))))))))

from_ranges : NoneIs is_other (range_cases ++ other_cases)
from_ranges = none-joined is_other range_cases other_cases ranges-hold others-hold

from_logicals : NoneIs is_other (logical_cases ++ (range_cases ++ other_cases))
from_logicals = none-joined is_other logical_cases (range_cases ++ other_cases) logicals-hold from_ranges

from_basics : NoneIs is_other (basic_cases ++ (logical_cases ++ (range_cases ++ other_cases)))
from_basics = none-joined is_other basic_cases (logical_cases ++ (range_cases ++ other_cases)) basics-hold from_logicals

pub none-differs : position is_other forty ≡ None
none-differs =
    none-there is_other forty (none-joined is_other check_cases (basic_cases ++ (logical_cases ++ (range_cases ++ other_cases))) checks-hold from_basics)

-- the place of the first that differs among cases that show the forty
pub told-place : {longest : ℕ} (cases : List (Case longest)) (place : Option ℕ) → map shown cases ≡ forty → place ≡ first_differing cases → place ≡ differing
told-place cases place are is = is ∙ position-mapped is_other shown cases ∙ ap (position is_other) are
