-- Of which end a line of a report tells.
use Rattle.std.specs.Prelude.{Bool, true, false, Option, Some, None, ◌==◌, if◌then◌else◌}
use Rattle.script_statement.specs.declared.who.Who.{Who}
use Rattle.script_statement.specs.declared.who.Who.TheVariants.{A, B, M, S}

-- these are one end
abbrev pub is_who : Who → Who → Bool
is_who A A = true
is_who B B = true
is_who M M = true
is_who (S station) (S other) = station == other
is_who who other = false

-- what a line tells, where it tells of this end
abbrev pub where_of : {X : Type 0} → Who → Who → X → Option X
where_of who by told = if is_who who by then Some told else None
