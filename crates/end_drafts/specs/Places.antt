-- Numbers of files, and places of words: the number of a file and the index of a word in it.
use Rattle.std.specs.Prelude.{◌≡◌, ℕ, Bool, false, List, [], Option, None, find, slice_index_or, ◌==◌, ◌&&◌, ◌||◌}
use Rattle.std.specs.List.{list_any}
use Rattle.data_files.specs.declared.file_spec.FileSpec.{FileSpec}
use Rattle.script_parts.specs.declared.script.WordOf.{WordOf}

-- the word stands at this place
abbrev pub is_at : ℕ → ℕ → WordOf → Bool
is_at file index word = (word.file == file) && (word.index == index)

-- a place is marked in a table with a row for each file and a mark for each word
abbrev pub is_marked : List (List Bool) → ℕ → ℕ → Bool
is_marked rows file index = slice_index_or (slice_index_or rows file []) index false

-- the same places are marked in two tables
pub record AreSame (before after : List (List Bool)) : Type 0 where
  pub same : (file index : ℕ) → is_marked after file index ≡ is_marked before file index

-- and this one beside them
pub record HasMore (before after : List (List Bool)) (file index : ℕ) : Type 0 where
  pub more : (f i : ℕ) → is_marked after f i ≡ (is_marked before f i || ((file == f) && (index == i)))

-- the places of some words are marked and no others
pub record ArePlaces (rows : List (List Bool)) (words : List WordOf) : Type 0 where
  pub same : (file index : ℕ) → is_marked rows file index ≡ list_any (is_at file index) words

-- a table has the first file of each number at that place and no others
pub record AreNumbers (numbers : List (Option FileSpec)) (files : List FileSpec) : Type 0 where
  pub same : (number : ℕ) → slice_index_or numbers number None ≡ find (λ spec. spec.number == number) files
