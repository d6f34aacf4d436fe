-- What is told by a key is within its bounds.
use Rattle.std.proofs.Common.{◌≡◌, ℕ, Bool, true, false, cond, Option, Some, None, refl, arith, pos, negsuc}
use Rattle.std.specs.Option.{option_and_then, option_map}
use Rattle.std.proofs.lemmas.Bool.Decides.{nat_tests}
use Rattle.end_settings.specs.declared.key.EndKey.{EndKey}
use Rattle.end_settings.specs.declared.row.Values.{Values}
use Rattle.end_settings.specs.declared.row.Values.TheVariants.{Switch, Number}
use Rattle.end_settings.specs.Rows.{Fits, IfFits}
use Rattle.end_settings.specs.Table.{row_of}
use Rattle.script_statement.specs.Words.{within}
use Rattle.script_parts.specs.Playable.{IsBetween}
use Rattle.toml.specs.Data.{Data, string, integer, float, boolean, datetime, array, table, Members, as_bool}
use Rattle.df1_plan.specs.Values.{integer_in, value_in}
use Rattle.df1_plan.specs.Settings.{given_at, setting_at}

within-between : (least most n m : ℕ) → within least most (Some n) ≡ Some m → IsBetween least most m
within-between least most n m h = grind (arith, nat_tests, h)

pub integer-between : (least most : ℕ) (value : Data) (n : ℕ) → integer_in least most value ≡ Some n → IsBetween least most n
integer-between least most (string s) n h = cc
integer-between least most (integer (pos k)) n h = within-between least most k n h
integer-between least most (integer (negsuc k)) n h = cc
integer-between least most (float x) n h = cc
integer-between least most (boolean b) n h = cc
integer-between least most (datetime d) n h = cc
integer-between least most (array ds) n h = cc
integer-between least most (table ms) n h = cc

-- ---- settings

if-some : (values : Values) (o : Option ℕ) → ((n : ℕ) → o ≡ Some n → Fits values n) → IfFits values o
if-some values None fits = tt
if-some values (Some n) fits = fits n refl

switch-fits : (o : Option Bool) → IfFits Switch (option_map (λ on. cond on 1 0) o)
switch-fits None = tt
switch-fits (Some true) = (omega arith, omega arith)
switch-fits (Some false) = (omega arith, omega arith)

value-fits : (values : Values) (value : Data) → IfFits values (value_in values value)
value-fits Switch value = switch-fits (as_bool value)
value-fits (Number least most) value = if-some (Number least most) (integer_in least most value) (integer-between least most value)

at-fits : (values : Values) (o : Option Data) → IfFits values (option_and_then (value_in values) o)
at-fits values None = tt
at-fits values (Some value) = value-fits values value

pub given-fits : (members : Members) (setting : EndKey) → IfFits (row_of setting).values (given_at members setting)
given-fits members setting = at-fits (row_of setting).values (setting_at members setting)
