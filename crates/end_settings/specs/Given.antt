-- The settings of an end that were given: a value for each key, or none, in the order of the keys.
use Rattle.std.specs.Prelude.{ℕ, List, map, Option, None, slice_index_or, slice_set, unwrap_or}
use denote.Enum.Declared.{tag_of}
use Rattle.end_settings.specs.contracts.key.EndKey.{the_type}
use Rattle.end_settings.specs.declared.key.EndKey.{EndKey}
use Rattle.end_settings.specs.declared.settings.Setting.{Setting}
use Rattle.end_settings.specs.Rows.{IfFits, fitting}
use Rattle.end_settings.specs.Table.{first_of, keys, row_of}

-- the place of a key among all, from 0
abbrev pub place : EndKey → ℕ
place key = tag_of the_type key

abbrev pub no_settings : List (Option ℕ)
no_settings = map (λ key. None) keys

-- the value that was given to a key
abbrev pub value_of : List (Option ℕ) → EndKey → Option ℕ
value_of given key = slice_index_or given (place key) None

-- a setting more; a number that is none of the key's values counts as none
abbrev pub with_setting : List (Option ℕ) → Setting → List (Option ℕ)
with_setting given setting = slice_set given (place setting.key) (fitting (row_of setting.key).values setting.value)

-- the value of a key: the one that was given, else that at first
abbrev pub chosen : List (Option ℕ) → ℕ → EndKey → ℕ
chosen given address key = unwrap_or (value_of given key) (first_of address key)

-- each value is one that its key may have
pub record AreFitting (given : List (Option ℕ)) : Type 0 where
  pub each : (key : EndKey) → IfFits (row_of key).values (value_of given key)
