-- How tables are kept: the words of all files in one list, beside a directory of where the words of each file begin.
use Rattle.std.specs.Prelude.{◌≡◌, ℕ, ◌+◌, List, [], ◌∷◌, ◌++◌, length, take, drop, ◌==◌, if◌then◌else◌, Option, None, Some}
use Rattle.std.specs.FinMap as map_of
use Rattle.std.specs.BTreeMap.{BTreeMap, get}
use Rattle.std.specs.Ordering.{nat_cmp}
use Rattle.data_files.specs.declared.tables.File.{File}
use Rattle.data_files.specs.declared.file_spec.FileSpec.{FileSpec}
use Rattle.data_files.specs.Tables.{DataTables, placed, faults, word_count, total_words}

-- the words of all files at their places, file after file
abbrev pub entries_of : List FileSpec → List ℕ → List ((ℕ × ℕ) × ℕ)
entries_of [] words = []
entries_of (spec ∷ specs) words = placed spec.number 0 (take (word_count spec) words) ++ entries_of specs (drop (word_count spec) words)

-- the tables of these files and words
abbrev pub tables_of : List FileSpec → List ℕ → DataTables
tables_of specs words = record { specs = specs; words = map_of.from_entries (entries_of specs words) }

-- the file of a number, and where its words begin, if the words of the first file begin at a place
abbrev pub found : ℕ → List FileSpec → ℕ → Option File
found place [] number = None
found place (spec ∷ specs) number = if spec.number == number then Some (record { spec = spec; start = place }) else found (place + word_count spec) specs number

-- the files are such as tables may have, the directory finds each of them, and all their words are there
pub record AreTables (specs : List FileSpec) (directory : BTreeMap ℕ File) (words : List ℕ) : Type 0 where
  pub valid : faults specs ≡ None
  pub finds : (number : ℕ) → get nat_cmp directory number ≡ found 0 specs number
  pub all : length words ≡ total_words specs

-- the words with others from a place on
abbrev pub overwritten : List ℕ → ℕ → List ℕ → List ℕ
overwritten words place new = take place words ++ (new ++ drop (place + length new) words)
