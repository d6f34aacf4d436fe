-- What a replay of an input comes to: the report, where the input says a script, or what stands before its first faulty line.
use Rattle.std.specs.Prelude.{◌≡◌, ◌≢◌, ◌≤◌, ℕ, List, [], ◌++◌, length, Option, None, Some, Result, Ok, Err}
use Rattle.std.specs.Io.KnownBytes.{IsAtEnd}
use Rattle.df1_base.specs.Outside.{Rose, Took, Put, WrotePart}
use Rattle.line_script.specs.declared.fault.Cause.{Cause}
use Rattle.line_script.specs.ScriptText.{script_of}
use Rattle.line_script.specs.Unfinished.{IsOpen}
use Rattle.line_script.specs.Fed.{accepted_script}
use Rattle.line_replay.specs.Fed.{events_text, shown}
pub use Rattle.line_replay.specs.Fed.{told}
use Rattle.line_replay.specs.declared.replayer.StreamFault.{StreamFault}
use Rattle.line_replay.specs.declared.replayer.StreamFault.TheVariants as stream
use Rattle.line_world.specs.Runs.{record_of}
use Rattle.replay_report.specs.Report.{report}
use Rattle.script_parts.specs.declared.script.Script.{Script}
use Rattle.df1_replay.specs.declared.fault.ReplayFault.{ReplayFault}
use Rattle.df1_replay.specs.declared.fault.ReplayFault.TheVariants.{Refusal, Input, Output, NoMemory}

-- ---- the report

-- the report of the run of a script, where there is one
abbrev pub report_of : Result Script (ℕ × Cause) → Option (List ℕ)
report_of (Ok script) = Some (report (record_of script))
report_of (Err fault) = None

-- the report of the run of the script that the input says, if it says one
abbrev pub replayed : List ℕ → Option (List ℕ)
replayed input = report_of (script_of input)

-- ---- how a replay ends

-- The input was read to its end, and its answer, the text to be written for it, is written.
pub record Answered (answer : List ℕ → Option (List ℕ)) (left left' held held' : Option (List ℕ)) : Type 0 where
  pub input : List ℕ
  pub text : List ℕ
  pub took : Took left left' input
  pub end : IsAtEnd left'
  pub answered : answer input ≡ Some text
  pub put : Put held held' text

-- The bytes that were taken show that this line of the script is refused for this cause, whatever may follow them; at the end of
-- the input nothing does. The report's lines of the event lines before it are written. No read has failed.
pub record Refused (left left' held held' : Option (List ℕ)) (faults faults' line : ℕ) (fault : Cause) : Type 0 where
  pub bytes : List ℕ
  pub took : Took left left' bytes
  pub refused : (more : List ℕ) → (IsAtEnd left' → more ≡ []) → script_of (bytes ++ more) ≡ Err (line, fault)
  pub shows : Put held held' (events_text (accepted_script bytes))
  pub calm : faults' ≡ faults

-- A read has failed, and no line of the bytes that were taken is refused yet, nor are they more than a script may have. The report's
-- lines of those event lines are written that a line feed among these bytes ends.
pub record BrokenOff (left left' held held' : Option (List ℕ)) (faults faults' : ℕ) : Type 0 where
  pub bytes : List ℕ
  pub took : Took left left' bytes
  pub still : IsOpen bytes
  pub few : length bytes ≤ 16777216
  pub rose : Rose faults faults'
  pub shows : Put held held' (shown bytes)

-- The output has failed: at most 4,096 bytes were taken since all report's lines of the event lines before are written. Of what is
-- to be written for the bytes that were taken, something is missing.
pub record CutOff (left left' held held' : Option (List ℕ)) : Type 0 where
  pub before : List ℕ
  pub last : List ℕ
  pub took : Took left left' (before ++ last)
  pub few : length last ≤ 4096
  pub more : List ℕ
  pub rest : List ℕ
  pub tells : told (before ++ last) ≡ shown before ++ more ++ rest
  pub missing : rest ≢ []
  pub shows : Put held held' (shown before ++ more)

-- Of what is to be written for the bytes that were taken, a first part is written and nothing else. They are at most those of the
-- longest script and 4,096 more.
pub record Written (text : List ℕ → List ℕ) (left left' held held' : Option (List ℕ)) : Type 0 where
  pub input : List ℕ
  pub took : Took left left' input
  pub few : length input ≤ 16781312
  pub part : WrotePart held held' (text input)

-- where the fault is a refusal, its line and its cause are such
abbrev pub TellsRefusal : (ℕ → Cause → Type 0) → ReplayFault → Type 0
TellsRefusal P (Refusal line fault) = P line fault
TellsRefusal P Input = Unit {0}
TellsRefusal P Output = Unit {0}
TellsRefusal P NoMemory = Unit {0}

-- what a piece of a script may come to
abbrev pub IsFromPiece : ReplayFault → Type 0
IsFromPiece (Refusal line fault) = Unit {0}
IsFromPiece Input = ⊥
IsFromPiece Output = Unit {0}
IsFromPiece NoMemory = Unit {0}

-- ---- faults

-- the fault of a replay that stopped
abbrev pub fault_of : StreamFault → ReplayFault
fault_of (stream.At line cause) = Refusal line cause
fault_of stream.SinkFailed = Output
fault_of stream.NoMemory = NoMemory

abbrev pub result_of : Result (Unit {0}) StreamFault → Result (Unit {0}) ReplayFault
result_of (Ok done) = Ok done
result_of (Err fault) = Err (fault_of fault)
