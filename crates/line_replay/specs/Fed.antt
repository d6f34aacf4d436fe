-- A replay of a text that comes byte by byte: what it shows of the text so far.
use Rattle.std.specs.Prelude.{◌≡◌, ◌≢◌, ℕ, List, [], ◌∷◌, ◌++◌, Option, None, Some, Result, Ok, Err}
use Rattle.std.specs.List.{flat_map}
use Rattle.df1_base.specs.Outside.{Put}
use Rattle.line_script.specs.declared.fault.Cause.{Cause}
use Rattle.line_script.specs.declared.fault.ScriptFault.{ScriptFault}
use Rattle.line_script.specs.declared.fault.ScriptFault.TheVariants as script
use Rattle.script_parts.specs.declared.script.Event.{Event}
use Rattle.script_parts.specs.declared.script.Script.{Script}
use Rattle.line_script.specs.Fed.{EndsFor, Fed, StandsFor, accepted_script, ended}
use Rattle.line_script.specs.Lines.{script_with}
use Rattle.script_parts.specs.HalfPlayable.{CanBePlayed}
use Rattle.line_script.specs.ScriptText.{script_of}
use Rattle.replay_report.specs.Report.{line_text, report}
use Rattle.line_world.specs.declared.world.World.{World}
use Rattle.line_world.specs.Runs.{all_lines, begun, last_world, lines_of, record_from, record_of}
use Rattle.line_replay.specs.declared.replayer.StreamFault.{StreamFault}
use Rattle.line_replay.specs.declared.replayer.StreamFault.TheVariants as stream

-- ---- what is written of a text

-- the text of the report's lines of an event of a script, behind its other events
abbrev pub event_text : Script → Event → List ℕ
event_text script e = flat_map line_text (lines_of (last_world script) e)

-- the text of the report's lines of all events of a script
abbrev pub events_text : Script → List ℕ
events_text script = flat_map line_text (all_lines script)

-- what is written behind them: the words that aren't 0, and how often an end was deceived
abbrev pub rest_text : Script → List ℕ
rest_text script = report (record_from (last_world script) [])

-- what is written of a text that may go on: the report's lines of those of its event lines that a line feed ends, up to the first
-- line that is faulty
unfoldable pub shown : List ℕ → List ℕ
shown text = events_text (accepted_script (ended text))

abbrev pub told_by : Result Script (ℕ × Cause) → List ℕ → List ℕ
told_by (Ok script) text = report (record_of script)
told_by (Err fault) text = events_text (accepted_script text)

-- what is written of a whole text: the report of the script's run, or, where it is none, the report's lines of the event lines
-- before the first line that is faulty
unfoldable pub told : List ℕ → List ℕ
told text = told_by (script_of text) text

-- ---- a replay

-- a reader of the text, and the world that its events are played on, from the first one on
pub record Replaying : Type 0 where
  pub text : Fed
  pub world : Option World

-- there was no event, or this is the world after them, whose lines are printed
abbrev pub IsWorldOf : Script → Option World → Type 0
IsWorldOf script None = script.events ≡ []
IsWorldOf script (Some world) = (script.events ≢ []) × (world ≡ last_world script)

-- the world that the next event is played on: the one that there is, or a new one
abbrev pub world_for : Script → Option World → World
world_for script None = begun script
world_for script (Some world) = world

-- A replay stands for the text that it was fed: its reader does, and its world is that after the events of the lines so far.
pub record IsReplayOf (text : List ℕ) (r : Replaying) : Type 0 where
  pub events : List Event
  pub reads : StandsFor text events r.text
  pub plays : IsWorldOf (script_with r.text.reader events) r.world

-- it stands for some text, as it does until a fault
abbrev pub IsReplay : Replaying → Type 0
IsReplay r = (text : List ℕ) × IsReplayOf text r

-- It stands for the whole text, at its end.
pub record IsReplayAtEnd (text : List ℕ) (r : Replaying) : Type 0 where
  pub events : List Event
  pub reads : EndsFor text events r.text
  pub plays : IsWorldOf (script_with r.text.reader events) r.world

abbrev pub IsEndedReplay : Replaying → Type 0
IsEndedReplay r = (text : List ℕ) × IsReplayAtEnd text r

-- an event may be played: the script so far with it can
pub record IsDue (r : Replaying) (e : Event) : Type 0 where
  pub events : List Event
  pub playable : CanBePlayed (script_with r.text.reader (events ++ e ∷ []))
  pub plays : IsWorldOf (script_with r.text.reader events) r.world

-- ---- what a sink has taken

-- where it held what is shown at first, it holds what is shown then
pub record ShowsMore (before after : List ℕ) (held held' : Option (List ℕ)) : Type 0 where
  pub more : List ℕ
  pub shows : after ≡ before ++ more
  pub put : Put held held' more

-- and a front of what is shown in the end
pub record ShowsFront (before all : List ℕ) (held held' : Option (List ℕ)) : Type 0 where
  pub more : List ℕ
  pub rest : List ℕ
  pub shows : all ≡ before ++ more ++ rest
  pub put : Put held held' more

-- and not all of it
abbrev pub ShowsLess : List ℕ → List ℕ → Option (List ℕ) → Option (List ℕ) → Type 0
ShowsLess before all held held' = (front : ShowsFront before all held held') × (front.rest ≢ [])

-- ---- faults

abbrev pub stream_fault : ScriptFault → StreamFault
stream_fault (script.At line cause) = stream.At line cause
stream_fault script.NoMemory = stream.NoMemory

-- the text is refused, whatever follows, and all of it that is ever written is written
abbrev pub IsRefusedHere : List ℕ → List ℕ → StreamFault → Type 0
IsRefusedHere text written (stream.At line cause) = (more : List ℕ) → (script_of (text ++ more) ≡ Err (line, cause)) × (told (text ++ more) ≡ written)
IsRefusedHere text written stream.SinkFailed = Unit {0}
IsRefusedHere text written stream.NoMemory = Unit {0}

-- the text is refused, whatever follows, and where the sink held what was written at first, it holds all that is ever written
abbrev pub IsRefusedWith : List ℕ → List ℕ → Option (List ℕ) → Option (List ℕ) → StreamFault → Type 0
IsRefusedWith text written held held' (stream.At line cause) = (more : List ℕ) → (script_of (text ++ more) ≡ Err (line, cause)) × ShowsMore written (told (text ++ more)) held held'
IsRefusedWith text written held held' stream.SinkFailed = Unit {0}
IsRefusedWith text written held held' stream.NoMemory = Unit {0}

-- the whole text is a script
abbrev pub IsScript : List ℕ → Type 0
IsScript text = (script : Script) × (script_of text ≡ Ok script)

-- the whole text is none, and then this holds
abbrev pub IsRefusedAs : List ℕ → Type 0 → StreamFault → Type 0
IsRefusedAs text P (stream.At line cause) = (script_of text ≡ Err (line, cause)) × P
IsRefusedAs text P stream.SinkFailed = Unit {0}
IsRefusedAs text P stream.NoMemory = Unit {0}

-- what playing an event may come to
abbrev pub IsFromPlay : StreamFault → Type 0
IsFromPlay (stream.At line cause) = ⊥
IsFromPlay stream.SinkFailed = Unit {0}
IsFromPlay stream.NoMemory = Unit {0}
