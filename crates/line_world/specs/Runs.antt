-- The run of a script of either mode: the world before its first event, after each event, and its record.
use Rattle.std.specs.Prelude.{Bool, true, false, List, [], ◌∷◌, ◌++◌, Option}
use Rattle.df1_check.specs.declared.Check.{Check}
use Rattle.df1_node.specs.Initiator.{InitiatorState}
use Rattle.script_statement.specs.declared.who.Who.{Who}
use Rattle.script_parts.specs.declared.script.EndPlan.{EndPlan}
use Rattle.script_parts.specs.declared.script.Event.{Event}
use Rattle.script_parts.specs.declared.script.Script.{Script}
use Rattle.replay_report.specs.declared.record.Line.{Line}
use Rattle.replay_report.specs.declared.record.Record.{Record}
use Rattle.duplex_line.specs.Plays as duplex
use Rattle.duplex_line.specs.Run as duplex_run
use Rattle.half_line.specs.Behind.{plain_node}
use Rattle.half_line.specs.Plays as polled
use Rattle.half_line.specs.Run as polled_run
use Rattle.line_world.specs.declared.world.World.{World}
use Rattle.line_world.specs.declared.world.World.TheVariants.{Duplex, Polled}

-- ---- the world

-- a script without events
abbrev pub setup_of : Bool → Check → List EndPlan → Script
setup_of half check ends = record { half = half; check = check; ends = ends; events = [] }

abbrev pub begun_in : Bool → Check → List EndPlan → World
begun_in true check ends = Polled (polled.begun (setup_of true check ends))
begun_in false check ends = Duplex (duplex.begun (setup_of false check ends))

-- before the first event of a script, in its mode
abbrev pub begun : Script → World
begun script = begun_in script.half script.check script.ends

-- after an event more
abbrev pub played : World → Event → World
played (Duplex p) e = Duplex (duplex.played p e)
played (Polled p) e = Polled (polled.played plain_node p e)

-- after the lines so far are printed
abbrev pub printed : World → World
printed (Duplex p) = Duplex (duplex.printed p)
printed (Polled p) = Polled (polled.printed p)

-- the lines that stand since the last printing
abbrev pub lines_in : World → List Line
lines_in (Duplex p) = p.lines
lines_in (Polled p) = p.lines

-- the lines that an event makes
abbrev pub lines_of : World → Event → List Line
lines_of (Duplex p) e = duplex_run.lines_of p.state e
lines_of (Polled p) e = polled_run.lines_of plain_node p.state e

-- an event that may happen next
abbrev pub IsNext : World → Event → Type 0
IsNext (Duplex p) e = duplex.IsNext p e
IsNext (Polled p) e = polled.IsNext plain_node p e

-- an event that takes bytes away or changes one: it takes no memory
abbrev pub takes_no_memory : World → Event → Bool
takes_no_memory (Duplex p) e = duplex.takes_no_memory e
takes_no_memory (Polled p) e = polled.takes_no_memory e

-- the initiator of an end, where the world has that end
abbrev pub initiator_of : World → Who → Option InitiatorState
initiator_of (Duplex p) who = duplex.initiator_of p.state who
initiator_of (Polled p) who = polled.initiator_of plain_node p.state who

-- the record of these lines, with the words and deceptions of a world
abbrev pub record_from : World → List Line → Record
record_from (Duplex p) lines = duplex_run.record_from p.state lines
record_from (Polled p) lines = polled_run.record_from plain_node p.state lines

-- ---- a run

-- an event whose lines are printed
abbrev pub after_event : World → Event → World
after_event w e = printed (played w e)

abbrev pub after_events : World → List Event → World
after_events w [] = w
after_events w (e ∷ events) = after_events (after_event w e) events

-- the lines that events make, one after another
abbrev pub lines_after : World → List Event → List Line
lines_after w [] = []
lines_after w (e ∷ events) = lines_of w e ++ lines_after (after_event w e) events

-- the world at the end of a script's run, and the lines of its events
abbrev pub last_world : Script → World
last_world script = after_events (begun script) script.events

abbrev pub all_lines : Script → List Line
all_lines script = lines_after (begun script) script.events

-- the record of a script's run
unfoldable pub record_of : Script → Record
record_of script = record_from (last_world script) (all_lines script)

-- ---- a run whose lines stand

-- events that may happen one after another
abbrev pub AreNext : World → List Event → Type 0
AreNext w [] = Unit {0}
AreNext w (e ∷ events) = IsNext w e × AreNext (played w e) events

-- after all of them, with no line printed
abbrev pub all_played : World → List Event → World
all_played w [] = w
all_played w (e ∷ events) = all_played (played w e) events

-- the world at the end of a script's run, with the lines of all events
abbrev pub whole_world : Script → World
whole_world script = all_played (begun script) script.events
