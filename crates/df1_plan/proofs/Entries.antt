-- The entries of a plan, one by one.
use Rattle.std.proofs.Common.{◌≡◌, ℕ, not, eqb, ◌+◌, ◌<◌, ◌≤◌, List, [], ◌∷◌, ◌++◌, length, drop, get_or, Option, Some, None, option_map, Err, refl, ap, ◌∙◌, arith, nat_lt, length-append}
use Rattle.std.proofs.lemmas.Bool.{and_parts}
use Rattle.std.proofs.lemmas.Bool.Decides.{nat_tests}
use Rattle.toml.specs.declared.value.Value.{Value}
use Rattle.toml.specs.Data.{Data, string, integer, float, boolean, datetime, array, table, as_table}
use Rattle.toml.specs.View.{items_view, view}
use Rattle.toml.proofs.Views.{items_view-drop}
use Rattle.std.specs.List.{list_any}
use Rattle.df1_plan.specs.declared.fault.PlanFault.TheVariants as fault
use Rattle.df1_plan.specs.declared.files.PlannedFile.{PlannedFile}
use Rattle.df1_plan.specs.Files.{file_in, files_after, next_file}
use Rattle.df1_plan.specs.Issues.{command_in, own_command}
use Rattle.df1_plan.specs.Values.{hex_in}
use Rattle.df1_plan.proofs.Planned.{follows}

pub files-next : (before : List PlannedFile) (entries : List Value) (i : ℕ) (entry : Value) (file : PlannedFile) → i < length entries → next_file before (view (get_or entries i entry)) ≡ Some file → files_after before (items_view (drop i entries)) ≡ files_after (before ++ file ∷ []) (items_view (drop (i + 1) entries))
files-next before entries i entry file h e =
    ap (files_after before) (items_view-drop entries i entry h)
    ∙ ap (λ (o : Option PlannedFile). elim o [ None ↦ Err (fault.File (length before + 1)) | Some next ↦ files_after (before ++ next ∷ []) (items_view (drop (i + 1) entries)) ]) e

pub files-few : (before : List PlannedFile) (entry : Value) (file : PlannedFile) → next_file before (view entry) ≡ Some file → length (before ++ file ∷ []) ≤ 256
files-few before entry file e =
    let both = follows before (file_in (view entry)) file e in
    let room : length before < 256 = grind (arith, nat_tests, (and_parts (nat_lt (length before) 256) (not (list_any (λ (other : PlannedFile). eqb other.spec.number file.spec.number) before)) both.1).0) in
    rw (length-append before (file ∷ [])) (omega (arith, room))

-- an entry that is no table is the text of a payload, or no command
pub no_table : (value : Data) → as_table value ≡ None → command_in value ≡ option_map own_command (hex_in value)
no_table (string s) h = refl
no_table (integer z) h = refl
no_table (float x) h = refl
no_table (boolean b) h = refl
no_table (datetime d) h = refl
no_table (array ds) h = refl
no_table (table fields) h = cc
