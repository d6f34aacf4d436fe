-- The run of a script: its first state, what each event leaves, the lines of the report that it makes, and the record.
use Rattle.std.specs.Prelude.{List, [], ◌∷◌, ◌++◌, map, replicate, slice_index_or}
use Rattle.df1_check.specs.declared.Check.{Check}
use Rattle.data_files.specs.Tables.{DataTables}
use Rattle.duplex_end.specs.End.{new_end}
use Rattle.script_statement.specs.declared.who.Who.{Who}
use Rattle.script_statement.specs.declared.who.Who.TheVariants.{A, B, M, S}
use Rattle.script_parts.specs.declared.script.Event.{Event}
use Rattle.script_parts.specs.declared.script.Event.TheVariants as event
use Rattle.script_parts.specs.declared.script.EndPlan.{EndPlan}
use Rattle.script_parts.specs.declared.script.Script.{Script}
use Rattle.script_parts.specs.declared.script.WordOf.{WordOf}
use Rattle.script_parts.specs.Plans.{first_plan}
use Rattle.replay_report.specs.declared.record.Line.{Line}
use Rattle.replay_report.specs.declared.record.Record.{Record}
use Rattle.replay_report.specs.Report.{sent_lines}
pub use Rattle.outset.specs.Outset.{with_first, with_all, first_tables, first_station, first_node, limits_of, setup_of}
use Rattle.report_lines.specs.Words.{words_of}
use Rattle.duplex_line.specs.Acts.{LineEndState, LineState, swapped, Deed, Issue, Take, Deliver, Lose, Alter, Foreign, Tick, after_deeds, lines_over, given_over}

-- ---- the first state

abbrev pub first_side : Check → EndPlan → LineEndState
first_side check plan = record { end = new_end (setup_of check plan) (first_node plan); lane = [] }

-- the plan of end a, and of end b; where a script has none, an end is as it is where no line tells of it
abbrev pub plan_of_a : Script → EndPlan
plan_of_a script = slice_index_or script.ends 0 (first_plan A 0)

abbrev pub plan_of_b : Script → EndPlan
plan_of_b script = slice_index_or script.ends 1 (first_plan B 1)

abbrev pub start : Script → LineState
start script = record {
  a = first_side script.check (plan_of_a script);
  b = first_side script.check (plan_of_b script);
  deceived = 0;
}

-- ---- events

-- the end at which an event happens, or from which its bytes come
abbrev pub who_of : Event → Who
who_of (event.Issue who src dst payload) = who
who_of (event.Take who n) = who
who_of (event.Deliver lane n) = lane.from
who_of (event.Lose lane n) = lane.from
who_of (event.Alter lane mask) = lane.from
who_of (event.Foreign lane bytes) = lane.from
who_of (event.Tick who n) = who

-- the unit steps of an event
abbrev pub deeds_of : Event → List Deed
deeds_of (event.Issue who src dst payload) = Issue src dst payload ∷ []
deeds_of (event.Take who n) = replicate n Take
deeds_of (event.Deliver lane n) = replicate n Deliver
deeds_of (event.Lose lane n) = replicate n Lose
deeds_of (event.Alter lane mask) = Alter mask ∷ []
deeds_of (event.Foreign lane bytes) = map Foreign bytes
deeds_of (event.Tick who n) = replicate n Tick

-- the other end
abbrev pub other : Who → Who
other A = B
other B = A
other M = M
other (S station) = S station

-- the line, looked at from this end
abbrev pub seen_from : Who → LineState → LineState
seen_from A s = s
seen_from B s = swapped s
seen_from M s = s
seen_from (S station) s = s

abbrev pub after_event : LineState → Event → LineState
after_event s e = seen_from (who_of e) (after_deeds (seen_from (who_of e) s) (deeds_of e))

-- the lines of unit steps at an end, and then its bytes
abbrev pub deed_lines : Who → LineState → List Deed → List Line
deed_lines who s deeds = lines_over who (other who) s deeds ++ sent_lines who (given_over s.a deeds)

abbrev pub lines_of : LineState → Event → List Line
lines_of s e = deed_lines (who_of e) (seen_from (who_of e) s) (deeds_of e)

abbrev pub state_after : LineState → List Event → LineState
state_after s [] = s
state_after s (e ∷ events) = state_after (after_event s e) events

abbrev pub lines_after : LineState → List Event → List Line
lines_after s [] = []
lines_after s (e ∷ events) = lines_of s e ++ lines_after (after_event s e) events

-- the last state of a run
abbrev pub last_state : Script → LineState
last_state script = state_after (start script) script.events

-- ---- the record

-- the tables of an end
abbrev pub tables_of : LineEndState → DataTables
tables_of side = side.end.host.station.tables

-- the words of both ends
abbrev pub all_words : LineState → List WordOf
all_words s = words_of A (tables_of s.a) ++ words_of B (tables_of s.b)

abbrev pub record_from : LineState → List Line → Record
record_from s lines = record { lines = lines; words = all_words s; deceived = s.deceived }

-- the record of a script's run
unfoldable pub record_of : Script → Record
record_of script = record_from (last_state script) (lines_after (start script) script.events)
