-- What a row of the table of keys says: which kinds of end have the key, its values, and the first of them.
use Rattle.std.specs.Prelude.{ℕ, ◌≤◌, Bool, List, Option, None, Some, nat_le, ◌&&◌, if◌then◌else◌}
use Rattle.end_settings.specs.declared.row.Role.{Role}
use Rattle.end_settings.specs.declared.row.Role.TheVariants.{Duplex, Master, Station, RoutedStation}
use Rattle.end_settings.specs.declared.row.Roles.{Roles}
use Rattle.end_settings.specs.declared.row.Values.{Values}
use Rattle.end_settings.specs.declared.row.Values.TheVariants.{Switch, Number}
use Rattle.end_settings.specs.declared.row.First.{First}
use Rattle.end_settings.specs.declared.row.First.TheVariants.{Address, Value}

pub record Row : Type 0 where
  pub name : List ℕ
  pub roles : Roles
  pub values : Values
  pub first : First

-- an end of this kind is among those that have the key
abbrev pub is_of : Role → Roles → Bool
is_of Duplex roles = roles.duplex
is_of Master roles = roles.master
is_of Station roles = roles.station
is_of RoutedStation roles = roles.routed_station

-- `off` and `on` are 0 and 1
abbrev pub least_of : Values → ℕ
least_of Switch = 0
least_of (Number least most) = least

abbrev pub most_of : Values → ℕ
most_of Switch = 1
most_of (Number least most) = most

-- a number is one of these values
abbrev pub Fits : Values → ℕ → Type 0
Fits values n = (least_of values ≤ n) × (n ≤ most_of values)

abbrev pub IfFits : Values → Option ℕ → Type 0
IfFits values None = Unit {0}
IfFits values (Some n) = Fits values n

-- the number, where it is one of these values
abbrev pub fitting : Values → Option ℕ → Option ℕ
fitting values None = None
fitting values (Some n) = if nat_le (least_of values) n && nat_le n (most_of values) then Some n else None

-- the value at first, of an end that has this address at first
abbrev pub first_in : ℕ → First → ℕ
first_in address Address = address
first_in address (Value value) = value
