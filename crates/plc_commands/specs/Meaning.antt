-- What an order does to data tables, and what its reply tells.
use Rattle.std.specs.Prelude.{ℕ, ◌+◌, ◌*◌, ◌/◌, Bool, true, false, List, [], ◌∷◌, ◌++◌, length, bit_and, bit_or, Option, Result, Ok, Err}
use Rattle.std.specs.Option.{option_map_or, unwrap_or}
use Rattle.df1_base.specs.declared.code.Code.{Code}
use Rattle.df1_base.specs.declared.code.Code.TheVariants.{Done}
use Rattle.logical_address.specs.declared.levels.Levels.{Levels}
use Rattle.logical_address.specs.Parameter.{written_array}
use Rattle.data_files.specs.declared.file_spec.FileSpec.{FileSpec}
use Rattle.data_files.specs.Words.{words_per_element}
use Rattle.data_files.specs.WordBytes.{bytes_of, words_of}
use Rattle.data_files.specs.Tables.{DataTables, file_of, words_at, with_word, with_words, word_at}
use Rattle.data_files.specs.Effect.{Test, Effect, refusal, unless_refused, refused, tested}
use Rattle.data_files.specs.Place.{first_of}
use Rattle.plc_commands.specs.declared.order.Set.{Set}
use Rattle.plc_commands.specs.declared.order.Window.{Window}
use Rattle.plc_commands.specs.declared.span.Span.{Span}
use Rattle.plc_commands.specs.Order.{Order, Echo, Status, Peek, Poke, RangeWrite, RangeRead, Change, TypedWrite, TypedRead}
use Rattle.plc_commands.specs.Tests.{unprotected_read_tests, unprotected_write_tests, range_place, range_read_tests, range_write_tests, set_place, change_tests, typed_write_tests, typed_read_tests}

-- ---- which words an order reads or writes

-- so many bytes of the compatibility file
abbrev pub byte_span : Option ℕ → ℕ → ℕ → Span
byte_span compat address size = record { file = unwrap_or compat 0; first = address / 2; count = size / 2 }

-- so many words of a range
abbrev pub range_span : List FileSpec → Window → ℕ → Bool → Span
range_span specs window count writes =
    record { file = window.at.file; first = first_of (file_of specs window.at.file) (range_place window count writes); count = count }

-- the words of an element of a file, and none where there is no such file
abbrev pub width : List FileSpec → Levels → ℕ
width specs at = option_map_or (λ f. words_per_element f.kind) (file_of specs at.file) 0

-- so many elements of a range
abbrev pub element_span : List FileSpec → Window → ℕ → Span
element_span specs window count =
    record { file = window.at.file; first = (window.at.element + window.offset) * width specs window.at; count = count * width specs window.at }

-- the parameter of an array of so many elements of a file
abbrev pub array_param : List FileSpec → Levels → ℕ → List ℕ
array_param specs at count = option_map_or (λ f. unwrap_or (written_array f.kind count) []) (file_of specs at.file) []

-- ---- what orders do

-- the words, or the code of the first test that fails
abbrev pub checked : {A : Type 0} → List Test → A → Result A Code
checked tests answer = unless_refused (refusal tests) answer

-- the reply tells these bytes
abbrev pub answered : DataTables → List ℕ → Effect
answered tables bytes = record { tables = tables; code = Done; reply = bytes }

-- the reply tells these bytes, and then the words, unless the order is refused
abbrev pub read_after : DataTables → List ℕ → Result Span Code → Effect
read_after tables front (Ok span) = answered tables (front ++ bytes_of (words_at tables span.file span.first span.count))
read_after tables front (Err code) = refused tables code

-- the words are replaced, unless the order is refused
abbrev pub written : DataTables → List ℕ → Result Span Code → Effect
written tables bytes (Ok span) = record { tables = with_words tables span.file span.first (words_of bytes); code = Done; reply = [] }
written tables bytes (Err code) = refused tables code

-- a word after a set: its old value AND the one mask, OR the other
abbrev pub changed_word : Set → ℕ → ℕ
changed_word set old = bit_or (bit_and old set.and) set.or

-- the index of the word of a set in its file
abbrev pub set_index : List FileSpec → Set → ℕ
set_index specs set = first_of (file_of specs set.at.file) (set_place set)

abbrev pub with_set : DataTables → Set → DataTables
with_set tables set =
    let index = set_index tables.specs set in
    with_word tables set.at.file index (changed_word set (unwrap_or (word_at tables set.at.file index) 0))

-- the sets one after the other, each on what the one before left
abbrev pub with_sets : DataTables → List Set → DataTables
with_sets tables [] = tables
with_sets tables (set ∷ sets) = with_sets (with_set tables set) sets

-- what an order does, beside the number of the compatibility file and the block of the station's status
abbrev pub meaning : DataTables → Option ℕ → List ℕ → Order → Effect
meaning tables compat block (Echo bytes) = answered tables bytes
meaning tables compat block Status = answered tables block
meaning tables compat block (Peek address size) = read_after tables [] (checked (unprotected_read_tests tables.specs compat address size) (byte_span compat address size))
meaning tables compat block (Poke address bytes) = written tables bytes (checked (unprotected_write_tests tables.specs compat address bytes) (byte_span compat address (length bytes)))
meaning tables compat block (RangeWrite window bytes) = written tables bytes (checked (range_write_tests tables.specs window bytes) (range_span tables.specs window (length bytes / 2) true))
meaning tables compat block (RangeRead window size) = read_after tables [] (checked (range_read_tests tables.specs window size) (range_span tables.specs window (size / 2) false))
meaning tables compat block (Change sets) = tested tables (refusal (change_tests tables.specs sets)) (record { tables = with_sets tables sets; code = Done; reply = [] })
meaning tables compat block (TypedWrite window element array bytes) = written tables bytes (checked (typed_write_tests tables.specs window element array bytes) (element_span tables.specs window (length bytes / element.size)))
meaning tables compat block (TypedRead window count) = read_after tables (array_param tables.specs window.at count) (checked (typed_read_tests tables.specs window count) (element_span tables.specs window count))
