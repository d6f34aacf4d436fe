-- The files of an end's first tables are those of its plan.
use Rattle.std.proofs.Common.{◌≡◌, ◌∙◌, Bool, true, false, cond, List, [], ◌∷◌, refl}
use Rattle.data_files.specs.Tables.{DataTables, fresh, has_word, with_word}
use Rattle.script_parts.specs.declared.script.EndPlan.{EndPlan}
use Rattle.script_parts.specs.declared.script.WordOf.{WordOf}
use Rattle.outset.specs.Outset.{first_tables, with_all, with_first}

-- a first value changes no file
same_files : (there : Bool) (tables : DataTables) (w : WordOf) → (cond there (with_word tables w.file w.index w.value) tables).specs ≡ tables.specs
same_files true tables w = refl
same_files false tables w = refl

with_all_files : (tables : DataTables) (words : List WordOf) → (with_all tables words).specs ≡ tables.specs
with_all_files tables [] = refl
with_all_files tables (w ∷ words) = with_all_files (with_first tables w) words ∙ same_files (has_word tables.specs w.file w.index) tables w

pub first_files : (plan : EndPlan) → (first_tables plan).specs ≡ plan.files
first_files plan = with_all_files (fresh plan.files) plan.words
