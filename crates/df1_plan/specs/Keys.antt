-- The keys of a plan, and what stands at one.
use Rattle.std.specs.Prelude.{ℕ, Bool, false, List, [], ◌∷◌, codes, not, ◌||◌, Option, Some, None, Result, Ok, Err}
use Rattle.std.specs.List.{list_any}
use Rattle.std.specs.Option.{option_map_or}
use Rattle.std.specs.Str.{bytes_eq}
use Rattle.end_settings.specs.declared.row.Role.TheVariants.{Duplex}
use Rattle.end_settings.specs.Table.{has_key, key_named, row_of}
use Rattle.toml.specs.Data.{Data, Members, no_members, member, get_member}
use Rattle.df1_plan.specs.declared.plan_key.PlanKey.{PlanKey}
use Rattle.df1_plan.specs.declared.plan_key.PlanKey.TheVariants as key
use Rattle.df1_plan.specs.declared.fault.PlanFault.{PlanFault}
use Rattle.df1_plan.specs.declared.fault.PlanFault.TheVariants as fault

-- the name of a key
abbrev pub name_of : PlanKey → List ℕ
name_of (key.Setting setting) = (row_of setting).name
name_of key.Block = codes "block"
name_of key.Check = codes "check"
name_of key.Compat = codes "compat"
name_of key.File = codes "file"
name_of key.Issue = codes "issue"
name_of key.Peer = codes "peer"

-- a name is that of a setting that a full-duplex end has
abbrev pub is_setting : List ℕ → Bool
is_setting name = option_map_or (has_key Duplex) (key_named name) false

-- the keys that are no settings
abbrev pub others : List PlanKey
others = key.Block ∷ key.Check ∷ key.Compat ∷ key.File ∷ key.Issue ∷ key.Peer ∷ []

abbrev pub is_other : List ℕ → Bool
is_other name = list_any (λ k. bytes_eq name (name_of k)) others

-- a name is that of a key
abbrev pub is_known : List ℕ → Bool
is_known name = is_setting name || is_other name

-- a member has a name that is none of these
abbrev pub has_other : (List ℕ → Bool) → Members → Bool
has_other is_one no_members = false
has_other is_one (member name value others) = not (is_one name) || has_other is_one others

-- what is read of a value, or that the value of this key is refused
abbrev pub read_or : {T : Type 0} → PlanKey → Option T → Result T PlanFault
read_or key None = Err (fault.Key key)
read_or key (Some read) = Ok read

-- the same of a value that may be left out
abbrev pub told_or : {T : Type 0} → PlanKey → (Data → Option T) → T → Option Data → Result T PlanFault
told_or key read standard None = Ok standard
told_or key read standard (Some value) = read_or key (read value)

-- what stands at a key of these members, which has its standard value where it is left out
abbrev pub told : {T : Type 0} → PlanKey → (Data → Option T) → T → Members → Result T PlanFault
told key read standard members = told_or key read standard (get_member (name_of key) members)
