-- All commands executed and answered, in the record of a full-duplex script of whose damage the line recovers.
use Rattle.std.specs.Prelude.{Bool, true, false}
use Rattle.script_parts.specs.declared.script.Script.{Script}
use Rattle.replay_report.specs.declared.record.Record.{Record}
use Rattle.duplex_line.specs.Recoverable.{IsRecoverable}
use Rattle.duplex_line.specs.Complete.{IsComplete}

-- of a half-duplex script nothing is said
abbrev pub RecoversIn : Bool → Script → Record → Type 0
RecoversIn true script r = Unit {0}
RecoversIn false script r = IsRecoverable script → IsComplete script r

-- of a script, in its mode
abbrev pub Recovers : Script → Record → Type 0
Recovers script r = RecoversIn script.half script r
