-- The values that the keys of an end may have in C, and what is told of another.
use Rattle.std.specs.Prelude.{ℕ, List, ◌==◌, not, Option, None, Some, is_some, if◌then◌else◌}
use Rattle.std.specs.List.{list_any}
use Rattle.end_settings.specs.declared.key.EndKey.{EndKey}
use Rattle.end_settings.specs.declared.key.EndKey.TheVariants.{ReplyTicks}
use Rattle.end_settings.specs.declared.row.Values.{Values}
use Rattle.end_settings.specs.declared.row.Values.TheVariants.{Switch, Number}
use Rattle.end_settings.specs.Rows.{fitting}
use Rattle.end_settings.specs.Table.{first_of, row_of}
use Rattle.c_ends.specs.declared.code.Code.{Code}
use Rattle.c_ends.specs.declared.code.Code.TheVariants.{NotReserved}

abbrev pub from_one : Values → Values
from_one Switch = Switch
from_one (Number least most) = Number 1 most

-- those of the key's row, but that a reply may take as few ticks as one, since a tick of the caller's may be as long as he likes
abbrev pub values_of : EndKey → Values
values_of ReplyTicks = from_one (row_of ReplyTicks).values
values_of key = (row_of key).values

abbrev pub value_fault : EndKey → Code → ℕ → Option Code
value_fault key fault number = if is_some (fitting (values_of key) (Some number)) then None else Some fault

-- the value of a key that is told by this number: that at first where it is 0
abbrev pub given_or_first : EndKey → ℕ → ℕ
given_or_first key number = if number == 0 then first_of 0 key else number

-- reserved members are 0
abbrev pub reserved_fault : List ℕ → Option Code
reserved_fault reserved = if list_any (λ member. not (member == 0)) reserved then Some NotReserved else None
