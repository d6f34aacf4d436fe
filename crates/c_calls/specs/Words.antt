-- What C is told of the data files of a node, and how it sets their words.
use Rattle.std.specs.Prelude.{ℕ, suc, ◌+◌, Bool, List, [], ◌∷◌, length, is_some, nat_lt, ◌==◌, slice_get, slice_index, slice_set, if◌then◌else◌}
use Rattle.std.specs.declared.option.Option.{Option}
use Rattle.std.specs.declared.option.Option.TheVariants.{Some, None}
use Rattle.std.specs.Option.{option_map}
use Rattle.data_files.specs.declared.file_spec.FileSpec.{FileSpec}
use Rattle.data_files.specs.Place.{type_byte}
use Rattle.data_files.specs.Tables.{DataTables, has_word, has_words, word_at, words_at}
use Rattle.df1_node.specs.Node.{NodeState, with_node_word}
use Rattle.c_ends.specs.declared.code.Code.{Code}
use Rattle.c_ends.specs.declared.code.Code.TheVariants as code
use Rattle.c_ends.specs.declared.parts.FileParts.{FileParts}

-- there is such a word
abbrev pub is_word : NodeState → ℕ → ℕ → Bool
is_word node file index = has_word node.station.tables.specs file index

abbrev pub word_code : NodeState → ℕ → ℕ → Code
word_code node file index = if is_word node file index then code.Done else code.NoWord

abbrev pub word_told : NodeState → ℕ → ℕ → Option ℕ
word_told node file index = word_at node.station.tables file index

-- another word, where there is one
abbrev pub word_set : ℕ → ℕ → ℕ → NodeState → NodeState
word_set file index value node = if is_word node file index then with_node_word node file index value else node

-- there are so many words from an index on
abbrev pub is_range : NodeState → (file first count : ℕ) → Bool
is_range node file first count = has_words node.station.tables.specs file first count

abbrev pub range_code : NodeState → (file first count : ℕ) → Code
range_code node file first count = if is_range node file first count then code.Done else code.NoWord

abbrev pub range_told : NodeState → (file first count : ℕ) → Option (List ℕ)
range_told node file first count = if is_range node file first count then Some (words_at node.station.tables file first count) else None

-- the first place at which a word isn't what was seen there, and how many words there are where none is
abbrev pub first_change : List ℕ → List ℕ → ℕ
first_change [] seen = 0
first_change (word ∷ words) [] = 0
first_change (word ∷ words) (value ∷ seen) = if word == value then suc (first_change words seen) else 0

-- what was seen, with the word of that place
abbrev pub seen_with : List ℕ → List ℕ → List ℕ
seen_with words seen =
    if nat_lt (first_change words seen) (length words) then slice_set seen (first_change words seen) (slice_index words (first_change words seen)) else seen

-- of the words from an index on, beside what was seen of them
abbrev pub change_told : NodeState → (file first : ℕ) → List ℕ → Option ℕ
change_told node file first seen = option_map (λ words. first_change words seen) (range_told node file first (length seen))

abbrev pub seen_told : NodeState → (file first : ℕ) → List ℕ → Option (List ℕ)
seen_told node file first seen = option_map (λ words. seen_with words seen) (range_told node file first (length seen))

-- other words from an index on, each as where one is set alone
abbrev pub node_words_set : (file first : ℕ) → List ℕ → NodeState → NodeState
node_words_set file first [] node = node
node_words_set file first (value ∷ values) node = node_words_set file (first + 1) values (word_set file first value node)

-- where there are so many, else none
abbrev pub words_set : (file first : ℕ) → List ℕ → NodeState → NodeState
words_set file first values node = if is_range node file first (length values) then node_words_set file first values node else node

-- a node with other tables
abbrev pub with_tables : NodeState → DataTables → NodeState
with_tables node tables = record node { station = record node.station { tables = tables } }

-- how many files there are
abbrev pub file_count : NodeState → ℕ
file_count node = length node.station.tables.specs

abbrev pub file_parts : FileSpec → FileParts
file_parts spec = record { number = spec.number; kind = type_byte spec.kind; elements = spec.count }

-- the file at a place
abbrev pub file_at : NodeState → ℕ → Option FileParts
file_at node place = option_map file_parts (slice_get node.station.tables.specs place)

abbrev pub file_code : NodeState → ℕ → Code
file_code node place = if is_some (file_at node place) then code.Done else code.NoFile
