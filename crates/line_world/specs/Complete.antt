-- Each command executed and answered, in the record of a script of either mode whose run nothing disturbs.
use Rattle.std.specs.Prelude.{Bool, true, false}
use Rattle.script_parts.specs.declared.script.Script.{Script}
use Rattle.replay_report.specs.declared.record.Record.{Record}
use Rattle.duplex_line.specs.Prompt as duplex_run
use Rattle.duplex_line.specs.Complete as duplex
use Rattle.half_line.specs.Prompt as polled_run
use Rattle.half_line.specs.Complete as polled

-- no byte is lost, altered or added, few ticks come while something is under way, and nothing is in the end; each end has room for as
-- many replies as the other may have commands out, on a half-duplex line each station for as many as the master may; there the master also
-- waits more ticks for a reply than its window times the number of stations, and in the end no reply is left at a station
abbrev pub IsUndisturbedIn : Bool → Script → Type 0
IsUndisturbedIn true script = polled_run.IsUndisturbed script
IsUndisturbedIn false script = duplex_run.HasRooms script × duplex_run.IsPrompt script × duplex_run.EndsQuiet script

-- no end was deceived, and all commands were executed and answered
abbrev pub IsCompleteIn : Bool → Script → Record → Type 0
IsCompleteIn true script r = polled.IsComplete script r
IsCompleteIn false script r = duplex.IsComplete script r

-- of a script, in its mode
abbrev pub IsUndisturbed : Script → Type 0
IsUndisturbed script = IsUndisturbedIn script.half script

abbrev pub IsComplete : Script → Record → Type 0
IsComplete script r = IsCompleteIn script.half script r
