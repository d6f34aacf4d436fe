-- The data files of a plan, by its entries in order.
use Rattle.std.specs.Prelude.{ℕ, ◌≤◌, ◌+◌, ◌*◌, ◌%◌, Bool, List, [], ◌∷◌, ◌++◌, map, length, codes, not, nat_lt, nat_le, ◌==◌, ◌&&◌, ◌||◌, if◌then◌else◌, Option, Some, None, option_map, Result, Ok, Err}
use Rattle.std.specs.Option.{option_and_then}
use Rattle.std.specs.List.{flat_map, list_any}
use Rattle.std.specs.Str.{bytes_eq}
use Rattle.data_files.specs.declared.file_spec.FileSpec.{FileSpec}
use Rattle.data_files.specs.Tables.{word_count}
use Rattle.data_files.specs.WordBytes.{words_of}
use Rattle.script_statement.specs.Statements.{file_spec}
use Rattle.script_statement.specs.declared.who.Who.TheVariants.{A}
use Rattle.script_parts.specs.declared.script.WordOf.{WordOf}
use Rattle.script_parts.specs.Playable.{IsBetween}
use Rattle.toml.specs.Data.{Data, table, Items, no_items, item, Members, get_member, as_array}
use Rattle.df1_plan.specs.declared.files.PlannedFile.{PlannedFile}
use Rattle.df1_plan.specs.declared.fault.PlanFault.{PlanFault}
use Rattle.df1_plan.specs.declared.fault.PlanFault.TheVariants as fault
use Rattle.df1_plan.specs.declared.plan_key.PlanKey.TheVariants as key
use Rattle.df1_plan.specs.Keys.{has_other}
use Rattle.df1_plan.specs.Values.{integer_in, kind_in, hex_in}

-- the names of an entry's fields
abbrev pub is_field : List ℕ → Bool
is_field name = bytes_eq name (codes "number") || (bytes_eq name (codes "type") || (bytes_eq name (codes "count") || bytes_eq name (codes "words")))

-- a field's number, type or count
abbrev pub field : {T : Type 0} → (Data → Option T) → List ℕ → Members → Option T
field read name fields = option_and_then read (get_member name fields)

-- the file that the fields describe
abbrev pub spec_in : Members → Option FileSpec
spec_in fields = file_spec (field (integer_in 0 999) (codes "number") fields) (field kind_in (codes "type") fields) (field (integer_in 1 1000) (codes "count") fields)

-- bytes that are words of the file: one word at least, and no more than the file has
abbrev pub are_words : FileSpec → List ℕ → Bool
are_words spec bytes = (length bytes % 2 == 0) && (nat_le 1 (length bytes) && nat_le (length bytes) (2 * word_count spec))

abbrev pub words_in : FileSpec → List ℕ → Option (List ℕ)
words_in spec bytes = if are_words spec bytes then Some (words_of bytes) else None

-- the first words of the file, none where the field is left out
abbrev pub first_words : FileSpec → Option Data → Option (List ℕ)
first_words spec None = Some []
first_words spec (Some value) = option_and_then (words_in spec) (hex_in value)

abbrev pub with_words : FileSpec → Option (List ℕ) → Option PlannedFile
with_words spec words = option_map (λ first. record { spec = spec; words = first }) words

abbrev pub file_with : Members → FileSpec → Option PlannedFile
file_with fields spec = with_words spec (first_words spec (get_member (codes "words") fields))

-- the file that an entry describes, by itself
abbrev pub file_in : Data → Option PlannedFile
file_in (table fields) = if has_other is_field fields then None else option_and_then (file_with fields) (spec_in fields)
file_in other = None

-- there are fewer than 256 files before it, and none of its number
abbrev pub may_follow : List PlannedFile → PlannedFile → Bool
may_follow before file = nat_lt (length before) 256 && not (list_any (λ other. other.spec.number == file.spec.number) before)

abbrev pub following : List PlannedFile → Option PlannedFile → Option PlannedFile
following before None = None
following before (Some file) = if may_follow before file then Some file else None

-- the file of an entry after these files
abbrev pub next_file : List PlannedFile → Data → Option PlannedFile
next_file before value = following before (file_in value)

-- the files of entries after these, or the place of the first entry that is refused, counted from 1
abbrev pub files_after : List PlannedFile → Items → Result (List PlannedFile) PlanFault
files_after before no_items = Ok before
files_after before (item value values) = elim (next_file before value) [ None ↦ Err (fault.File (length before + 1)) | Some file ↦ files_after (before ++ file ∷ []) values ]

abbrev pub files_of_array : Option Items → Result (List PlannedFile) PlanFault
files_of_array None = Err (fault.Key key.File)
files_of_array (Some entries) = files_after [] entries

-- the files of a plan, by its key `file`
abbrev pub files_in : Option Data → Result (List PlannedFile) PlanFault
files_in None = Ok []
files_in (Some value) = files_of_array (as_array value)

-- what an end's plan has of them
abbrev pub specs_of : List PlannedFile → List FileSpec
specs_of = map (λ file. file.spec)

abbrev pub numbered : ℕ → ℕ → List ℕ → List WordOf
numbered number index [] = []
numbered number index (value ∷ values) = record { who = A; file = number; index = index; value = value } ∷ numbered number (index + 1) values

abbrev pub words_of_all : List PlannedFile → List WordOf
words_of_all = flat_map (λ file. numbered file.spec.number 0 file.words)

-- a file has 1 to 1,000 elements, and no more first words than words
pub record HoldsItsWords (file : PlannedFile) : Type 0 where
  pub count : IsBetween 1 1000 file.spec.count
  pub words : length file.words ≤ word_count file.spec
