-- What an order does to data tables.
use Rattle.std.specs.Prelude.{ℕ, ◌/◌, ◌%◌, not, ◌&&◌, ◌==◌, nat_le, List, [], ◌∷◌, if◌then◌else◌, Some}
use Rattle.df1_base.specs.declared.code.Code.TheVariants.{Done, Ext}
use Rattle.data_files.specs.declared.file_spec.FileSpec.{FileSpec}
use Rattle.data_files.specs.declared.place.Place.{Place}
use Rattle.data_files.specs.Tables.{DataTables, file_of, words_at, with_words}
use Rattle.data_files.specs.Effect.{Test, Effect, refusal, tested}
use Rattle.data_files.specs.Place.{place_tests, first_of}
use Rattle.slc_commands.specs.Order.{Order, writes}
use Rattle.data_files.specs.WordBytes.{bytes_of, words_of}
use Rattle.slc_commands.specs.Words.{masked}

-- the words of an order
abbrev pub place_of : Order → Place
place_of order =
    record { file = order.at.file; kind = Some order.at.kind; element = order.at.element; sub = order.at.sub; offset = 0; count = order.size / 2; writes = writes order.fnc }

-- the tests of an order: its size is of whole words, and there is at least one; its data fits a message; then those of
-- its place
abbrev pub tests : List FileSpec → Order → List Test
tests specs order =
    (not (order.size == 0) && (order.size % 2 == 0), Ext 0x01)
    ∷ (nat_le order.size 244, Ext 0x09)
    ∷ place_tests (file_of specs order.at.file) (place_of order)

-- the index of its first word in its file
abbrev pub first_word : List FileSpec → Order → ℕ
first_word specs order = first_of (file_of specs order.at.file) (place_of order)

-- its words before it
abbrev pub words_before : DataTables → Order → List ℕ
words_before tables order = words_at tables order.at.file (first_word tables.specs order) (order.size / 2)

-- its words after it, where it writes
abbrev pub words_after : DataTables → Order → List ℕ
words_after tables order = masked order.mask (words_before tables order) (words_of order.bytes)

-- a read gives the words in its reply; a write replaces them
abbrev pub effect_of : DataTables → Order → Effect
effect_of tables order =
    if writes order.fnc
    then record { tables = with_words tables order.at.file (first_word tables.specs order) (words_after tables order); code = Done; reply = [] }
    else record { tables = tables; code = Done; reply = bytes_of (words_before tables order) }

-- what an order does
abbrev pub meaning : DataTables → Order → Effect
meaning tables order = tested tables (refusal (tests tables.specs order)) (effect_of tables order)
