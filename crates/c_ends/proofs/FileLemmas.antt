-- Files found by their numbers, as C gives them and as the tables have them. Assumes nothing.
use Rattle.std.proofs.Common.{◌≡◌, ℕ, Bool, true, false, cond, List, [], ◌∷◌, refl, ap, ◌∙◌}
use Rattle.std.specs.Prelude.{◌==◌, ◌||◌, find, Option, Some, None}
use Rattle.std.specs.Option.{option_map}
use Rattle.std.specs.List.{list_any}
use Rattle.data_files.specs.declared.file_spec.FileSpec.{FileSpec}
use Rattle.data_files.specs.Tables.{DataTables, file_of, has_word, with_word}
use Rattle.c_ends.specs.declared.parts.FileParts.{FileParts}
use Rattle.c_ends.specs.declared.parts.WordParts.{WordParts}
use Rattle.c_ends.specs.Parts.{spec_of, specs_of, with_all, with_first}

pub any_specs : (files : List FileParts) (number : ℕ)
    → list_any {X = FileSpec} (λ other. other.number == number) (specs_of files) ≡ list_any {X = FileParts} (λ other. other.number == number) files
any_specs [] number = refl
any_specs (file ∷ files) number = ap (λ any. (file.number == number) || any) (any_specs files number)

found : (is : Bool) (file : FileParts) (specs : Option FileSpec) (files : Option FileParts)
    → specs ≡ option_map spec_of files → cond is (Some (spec_of file)) specs ≡ option_map spec_of (cond is (Some file) files)
found true file specs files e = refl
found false file specs files e = e

pub find_specs : (files : List FileParts) (number : ℕ)
    → file_of (specs_of files) number ≡ option_map spec_of (find {X = FileParts} (λ file. file.number == number) files)
find_specs [] number = refl
find_specs (file ∷ files) number = found (file.number == number) file _ _ (find_specs files number)

-- a first value changes no file
same_files : (there : Bool) (tables : DataTables) (word : WordParts)
    → (cond there (with_word tables word.file word.index word.value) tables).specs ≡ tables.specs
same_files true tables word = refl
same_files false tables word = refl

pub with_all-specs : (tables : DataTables) (words : List WordParts) → (with_all tables words).specs ≡ tables.specs
with_all-specs tables [] = refl
with_all-specs tables (word ∷ words) = with_all-specs (with_first tables word) words ∙ same_files (has_word tables.specs word.file word.index) tables word
