-- The settings of a plan: the keys that a full-duplex end has, by the table of keys.
use Rattle.std.specs.Prelude.{ℕ, Bool, false, Option, None, Some, find, is_none, if◌then◌else◌}
use Rattle.std.specs.Option.{option_and_then, option_map, option_map_or}
use Rattle.std.specs.Cmp.Lexicographic.{slice_cmp}
use Rattle.std.specs.Ordering.{is_lt, nat_cmp}
use Rattle.end_settings.specs.declared.key.EndKey.{EndKey}
use Rattle.end_settings.specs.declared.row.Role.TheVariants.{Duplex}
use Rattle.end_settings.specs.Table.{has_key, keys, row_of}
use Rattle.toml.specs.Data.{Data, Members, get_member}
use Rattle.df1_plan.specs.declared.plan_key.PlanKey.{PlanKey}
use Rattle.df1_plan.specs.declared.plan_key.PlanKey.TheVariants as key
use Rattle.df1_plan.specs.declared.fault.PlanFault.{PlanFault}
use Rattle.df1_plan.specs.declared.fault.PlanFault.TheVariants as fault
use Rattle.df1_plan.specs.Keys.{name_of}
use Rattle.df1_plan.specs.Values.{value_in}

-- what stands at a setting of these members
abbrev pub setting_at : Members → EndKey → Option Data
setting_at members setting = if has_key Duplex setting then get_member (row_of setting).name members else None

-- the value that a setting is given
abbrev pub given_at : Members → EndKey → Option ℕ
given_at members setting = option_and_then (value_in (row_of setting).values) (setting_at members setting)

-- what stands there is none of its values
abbrev pub is_refused : Members → EndKey → Bool
is_refused members setting = option_map_or (λ value. is_none (value_in (row_of setting).values value)) (setting_at members setting) false

-- the first setting that is refused, in the order of the names' bytes
unfoldable pub refused_in : Members → Option EndKey
refused_in members = find (is_refused members) keys

-- the name of a setting stands before that of another key
abbrev pub stands_before : EndKey → PlanKey → Bool
stands_before setting other = is_lt (slice_cmp nat_cmp (row_of setting).name (name_of other))

-- a setting that is refused is told before this key
abbrev pub refused_before : PlanKey → Option EndKey → Option PlanFault
refused_before other None = None
refused_before other (Some setting) = if stands_before setting other then Some (fault.Key (key.Setting setting)) else None

-- and behind all other keys
abbrev pub refused_last : Option EndKey → Option PlanFault
refused_last refused = option_map (λ setting. fault.Key (key.Setting setting)) refused
