-- The words of data tables that aren't 0, as a report tells them.
use Rattle.std.specs.Prelude.{ℕ, ◌+◌, List, [], ◌∷◌, ◌++◌, ◌==◌, if◌then◌else◌}
use Rattle.std.specs.List.{flat_map}
use Rattle.data_files.specs.Tables.{DataTables, word_count, words_at}
use Rattle.script_statement.specs.declared.who.Who.{Who}
use Rattle.script_parts.specs.declared.script.WordOf.{WordOf}

-- a word of a file, if it isn't 0
abbrev pub word_line : Who → ℕ → ℕ → ℕ → List WordOf
word_line who number index value =
    if value == 0 then [] else record { who = who; file = number; index = index; value = value } ∷ []

-- words of a file from an index on, those that aren't 0
abbrev pub words_from : Who → ℕ → ℕ → List ℕ → List WordOf
words_from who number index [] = []
words_from who number index (value ∷ values) = word_line who number index value ++ words_from who number (index + 1) values

-- the words of tables that aren't 0: files in their order, words rising
abbrev pub words_of : Who → DataTables → List WordOf
words_of who tables = flat_map (λ spec. words_from who spec.number 0 (words_at tables spec.number 0 (word_count spec))) tables.specs
