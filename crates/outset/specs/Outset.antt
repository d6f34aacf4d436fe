-- An end before anything happened: its tables, its station, its node and how it is set up, by its plan.
use Rattle.std.specs.Prelude.{List, [], ◌∷◌, if◌then◌else◌}
use Rattle.df1_check.specs.declared.Check.{Check}
use Rattle.df1_node.specs.declared.handed.Handed.TheVariants as handed
use Rattle.data_files.specs.Tables.{DataTables, fresh, has_word, with_word}
use Rattle.df1_node.specs.Answer.{StationState, station_of}
use Rattle.df1_node.specs.Node.{NodeState}
use Rattle.duplex_sender.specs.declared.Limits.{Limits}
use Rattle.duplex_end.specs.declared.Setup.{Setup}
use Rattle.script_parts.specs.declared.script.EndPlan.{EndPlan}
use Rattle.script_parts.specs.declared.script.WordOf.{WordOf}

-- a word has its first value, where there is such a word
abbrev pub with_first : DataTables → WordOf → DataTables
with_first tables w = if has_word tables.specs w.file w.index then with_word tables w.file w.index w.value else tables

-- words have their first values, one after another
abbrev pub with_all : DataTables → List WordOf → DataTables
with_all tables [] = tables
with_all tables (w ∷ words) = with_all (with_first tables w) words

-- the tables of an end: its files, with the first values of their words
abbrev pub first_tables : EndPlan → DataTables
first_tables plan = with_all (fresh plan.files) plan.words

-- the station of an end
abbrev pub first_station : EndPlan → StationState
first_station plan = station_of (first_tables plan) plan.compat plan.block

-- the node of an end, with no command issued and no reply kept
abbrev pub first_node : EndPlan → NodeState
first_node plan = record {
  room = plan.room;
  station = first_station plan;
  replies = [];
  initiator = record { node = plan.node; tns = plan.tns; reply_ticks = plan.reply_ticks; window = plan.window; per_source = plan.per_source; issued = [] };
  last = handed.Nothing;
}

-- the limits of an end's sender
abbrev pub limits_of : EndPlan → Limits
limits_of plan = record { ack_ticks = plan.ack_ticks; max_naks = plan.max_naks; max_enqs = plan.max_enqs }

-- how an end is set up
abbrev pub setup_of : Check → EndPlan → Setup
setup_of check plan = record { check = check; embed = plan.embed; limits = limits_of plan }
