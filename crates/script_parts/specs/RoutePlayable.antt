-- Route scripts whose events can happen: the master carries messages between its stations, and these issue commands too.
use Rattle.std.specs.Prelude.{◌≡◌, ℕ, ◌≤◌, Bool, false, true, List, [], ◌∷◌, Option, None, count_by, sum_by, not, ◌==◌, ◌&&◌, ◌||◌, IsTrue}
use Rattle.std.specs.List.{All}
use Rattle.script_statement.specs.declared.who.Who.{Who}
use Rattle.script_statement.specs.declared.who.Who.TheVariants.{M, S}
use Rattle.script_statement.specs.Statements.{is_payload}
use Rattle.script_parts.specs.declared.script.Event.{Event}
use Rattle.script_parts.specs.declared.script.Event.TheVariants.{Issue}
use Rattle.script_parts.specs.declared.script.EndPlan.{EndPlan}
use Rattle.script_parts.specs.declared.script.Script.{Script}
use Rattle.script_parts.specs.HalfPlayable.{AreHalfEnds, IsHalfPossible, half_count_of, is_declared, numbers_of}

-- the address of the master
abbrev pub node_of_master : List EndPlan → ℕ
node_of_master [] = 0
node_of_master (master ∷ stations) = master.node

-- a station can send to this number: it is that of another station, or the master's address
abbrev pub is_reached : List ℕ → ℕ → ℕ → ℕ → Bool
is_reached numbers node station to = (is_declared numbers to && not (to == station)) || (to == node)

-- a command may be issued, each end in its own name: by the master to a station, and by a station to another or to the master
abbrev pub may_issue : List ℕ → ℕ → Who → Option ℕ → ℕ → Bool
may_issue numbers node M None dst = is_declared numbers dst
may_issue numbers node (S station) None dst = is_declared numbers station && is_reached numbers node station dst
may_issue numbers node who src dst = false

-- an event that may happen
abbrev pub IsRoutePossible : List ℕ → ℕ → Event → Type 0
IsRoutePossible numbers node (Issue who src dst payload) = IsTrue (may_issue numbers node who src dst) × IsTrue (is_payload payload)
IsRoutePossible numbers node event = IsHalfPossible numbers event

abbrev pub is_same_half_end : Who → Who → Bool
is_same_half_end M M = true
is_same_half_end (S number) (S other) = number == other
is_same_half_end who other = false

-- a command of this end
abbrev pub is_issue_of : Who → Event → Bool
is_issue_of who (Issue by src dst payload) = is_same_half_end who by
is_issue_of who event = false

-- a route script whose ends are set up rightly, the master's address being that of no station, whose events may all happen, with at most 65,535
-- commands of each end and 5,000,000 events
pub record IsRoutePlayable (script : Script) : Type 0 where
  pub mode : script.half ≡ true
  pub ends : AreHalfEnds script.ends
  pub apart : is_declared (numbers_of script.ends) (node_of_master script.ends) ≡ false
  pub events : All (IsRoutePossible (numbers_of script.ends) (node_of_master script.ends)) script.events
  pub commands : count_by (is_issue_of M) script.events ≤ 65535
  pub commands_of_stations : All (λ number. count_by (is_issue_of (S number)) script.events ≤ 65535) (numbers_of script.ends)
  pub sum : sum_by (half_count_of (numbers_of script.ends)) script.events ≤ 5000000
