-- A world: what it holds while a script is played, and which event may come next.
use Rattle.std.specs.Prelude.{ℕ, ◌+◌, ◌<◌, ◌≤◌, Bool, true, false, List, [], ◌++◌, length, Option, Some, None}
use Rattle.df1_node.specs.Initiator.{InitiatorState}
use Rattle.script_statement.specs.declared.who.Who.{Who}
use Rattle.script_statement.specs.declared.who.Who.TheVariants.{A, B, M, S}
use Rattle.script_parts.specs.declared.script.Event.{Event}
use Rattle.script_parts.specs.declared.script.Event.TheVariants as event
use Rattle.script_parts.specs.declared.script.Script.{Script}
use Rattle.script_parts.specs.Playable.{IsPossible, count_of}
use Rattle.replay_report.specs.declared.record.Line.{Line}
use Rattle.duplex_line.specs.Acts.{LineEndState, LineState}
use Rattle.duplex_line.specs.Run.{start, after_event, lines_of, seen_from, who_of}

-- the state, the lines of the report so far, and the sum of the events so far
pub record Played : Type 0 where
  pub state : LineState
  pub lines : List Line
  pub events : ℕ

-- before the first event of a script
abbrev pub begun : Script → Played
begun script = record { state = start script; lines = []; events = 0 }

-- after an event more
abbrev pub played : Played → Event → Played
played p e = record { state = after_event p.state e; lines = p.lines ++ lines_of p.state e; events = p.events + count_of e }

-- after the lines so far are printed
abbrev pub printed : Played → Played
printed p = record p { lines = [] }

-- the initiator of an end, where the line has that end
abbrev pub initiator_of : LineState → Who → Option InitiatorState
initiator_of s A = Some s.a.end.host.initiator
initiator_of s B = Some s.b.end.host.initiator
initiator_of s M = None
initiator_of s (S station) = None

-- what the events of a world may sum to, as those of a script that can be played
abbrev pub most_events : ℕ
most_events = 5000000

-- how many commands an end has issued
abbrev pub issued_by : LineEndState → ℕ
issued_by side = length side.end.host.initiator.issued

-- a command is not the 65,536th of its end
abbrev pub IsUnspent : LineEndState → Event → Type 0
IsUnspent side (event.Issue who src dst payload) = issued_by side < 65535
IsUnspent side (event.Take who n) = Unit {0}
IsUnspent side (event.Deliver lane n) = Unit {0}
IsUnspent side (event.Lose lane n) = Unit {0}
IsUnspent side (event.Alter lane mask) = Unit {0}
IsUnspent side (event.Foreign lane bytes) = Unit {0}
IsUnspent side (event.Tick who n) = Unit {0}

-- an event that may happen next
pub record IsNext (p : Played) (e : Event) : Type 0 where
  pub possible : IsPossible e
  pub unspent : IsUnspent (seen_from (who_of e) p.state).a e
  pub sum : p.events + count_of e ≤ most_events

-- an event that takes bytes away or changes one: it takes no memory
abbrev pub takes_no_memory : Event → Bool
takes_no_memory (event.Issue who src dst payload) = false
takes_no_memory (event.Take who n) = false
takes_no_memory (event.Deliver lane n) = false
takes_no_memory (event.Lose lane n) = true
takes_no_memory (event.Alter lane mask) = true
takes_no_memory (event.Foreign lane bytes) = false
takes_no_memory (event.Tick who n) = false
