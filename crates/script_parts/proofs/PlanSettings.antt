-- The keys of a plan have values that they may have.
use Rattle.std.proofs.Common.{◌≡◌, ℕ, ◌≤◌, Bool, true, false, cond, eqb, List, [], Option, None, refl, arith}
use Rattle.std.proofs.lemmas.Bool.Decides.{nat_tests}
use Rattle.data_files.specs.declared.file_spec.FileSpec.{FileSpec}
use Rattle.end_settings.specs.declared.key.EndKey.{EndKey}
use Rattle.end_settings.specs.declared.key.EndKey.TheVariants.{Embed}
use Rattle.end_settings.specs.Rows.{Fits}
use Rattle.end_settings.specs.Table.{first_of, row_of}
use Rattle.end_settings.proofs.Fitting.{Fits-first}
use Rattle.script_statement.specs.declared.who.Who.{Who}
use Rattle.script_parts.specs.declared.script.WordOf.{WordOf}
use Rattle.script_parts.specs.Plans.{first_plan, plan_with, setting_in}

switch : (on : Bool) → Fits (row_of Embed).values (cond on 1 0)
switch true = (omega arith, omega arith)
switch false = (omega arith, omega arith)

-- a plan has the values that it is made with, and so they are such as the keys may have
switch-same : (n : ℕ) → Fits (row_of Embed).values n → cond (eqb n 1) 1 0 ≡ n
switch-same n h = grind (arith, nat_tests, h)

pub setting_in-plan_with : (who : Who) (value : EndKey → ℕ) (compat : Option ℕ) (block : List ℕ) (files : List FileSpec) (words : List WordOf) → Fits (row_of Embed).values (value Embed)
    → (key : EndKey) → setting_in (plan_with who value compat block files words) key ≡ value key
setting_in-plan_with who value compat block files words h Embed = switch-same (value Embed) h
setting_in-plan_with who value compat block files words h other = refl

pub Fits-plan_with : (who : Who) (value : EndKey → ℕ) (compat : Option ℕ) (block : List ℕ) (files : List FileSpec) (words : List WordOf) → ((key : EndKey) → Fits (row_of key).values (value key))
    → (key : EndKey) → Fits (row_of key).values (setting_in (plan_with who value compat block files words) key)
Fits-plan_with who value compat block files words fits Embed = switch (eqb (value Embed) 1)
Fits-plan_with who value compat block files words fits other = fits other

-- and so does the plan of an end of which nothing is told
pub Fits-first_plan : (who : Who) (address : ℕ) → address ≤ 255 → (key : EndKey) → Fits (row_of key).values (setting_in (first_plan who address) key)
Fits-first_plan who address few = Fits-plan_with who (first_of address) None [] [] [] (Fits-first address few)
