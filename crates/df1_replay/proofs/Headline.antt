-- What a replay that ended well shows.
use Rattle.std.proofs.Common.{◌≡◌, ℕ, List, Option, Some, Result, Ok, Err, OnOk, refl, sym, subst}
use Rattle.df1_base.specs.Outside.{Put}
use Rattle.line_script.specs.declared.fault.Cause.{Cause}
use Rattle.script_parts.specs.declared.script.Script.{Script}
use Rattle.line_script.specs.ScriptText.{script_of}
use Rattle.script_parts.specs.HalfPlayable.{CanBePlayed}
use Rattle.line_script.proofs.Standing.{CanBePlayed-script_of}
use Rattle.replay_report.specs.Report.{report}
use Rattle.line_world.specs.Complete.{IsUndisturbed, IsComplete}
use Rattle.line_world.specs.Once.{EachCommandOnce}
use Rattle.line_world.specs.Runs.{record_of}
use Rattle.line_world.proofs.EitherMode.{all-complete, all-recover, all-rested, all-wires, each-command-once}
use Rattle.run_laws.proofs.NothingLate.{nothing-comes-late}
use Rattle.run_laws.proofs.EitherMode.{outcomes-come}
use Rattle.run_laws.proofs.IdleRun.{ends-come-to-idle}
use Rattle.run_laws.proofs.Cut.{nothing-is-overtaken}
use Rattle.df1_replay.specs.declared.fault.ReplayFault.{ReplayFault}
use Rattle.df1_replay.specs.Outcome.{Answered, replayed, report_of}
use Rattle.df1_replay.specs.Replayed.{Replayed}

-- a text that is written is the report of a script
script-read : (read : Result Script (ℕ × Cause)) (text : List ℕ) → report_of read ≡ Some text → (script : Script) × (read ≡ Ok script) × (report (record_of script) ≡ text)
script-read (Ok script) text is = (script, refl, cc)
script-read (Err fault) text is = absurd cc

record-once : (script : Script) → CanBePlayed script → (record_of script).deceived ≡ 0 → EachCommandOnce script (record_of script)
record-once script playable = each-command-once script playable

record-complete : (script : Script) → CanBePlayed script → IsUndisturbed script → IsComplete script (record_of script)
record-complete script playable = all-complete script playable

pub replayed-well : (left left' held held' : Option (List ℕ)) → Answered replayed left left' held held' → Replayed left left' held held'
replayed-well left left' held held' a =
    let read = script-read (script_of a.input) a.text a.answered in
    record {
      input = a.input;
      script = read.0;
      took = a.took;
      end = a.end;
      reads = read.1;
      put = subst (λ (text : List ℕ). Put held held' text) (sym read.2) a.put;
      once = record-once read.0 (CanBePlayed-script_of a.input read.0 read.1);
      settled = nothing-is-overtaken read.0 (CanBePlayed-script_of a.input read.0 read.1);
      late = nothing-comes-late read.0 (CanBePlayed-script_of a.input read.0 read.1);
      outcomes = outcomes-come read.0 (CanBePlayed-script_of a.input read.0 read.1);
      idle = ends-come-to-idle read.0 (CanBePlayed-script_of a.input read.0 read.1);
      complete = record-complete read.0 (CanBePlayed-script_of a.input read.0 read.1);
      recovered = all-recover read.0 (CanBePlayed-script_of a.input read.0 read.1);
      rested = all-rested read.0 (CanBePlayed-script_of a.input read.0 read.1);
      wires = all-wires read.0 (CanBePlayed-script_of a.input read.0 read.1);
    }

pub replayed-on : (left left' held held' : Option (List ℕ)) (result : Result (Unit {0}) ReplayFault) → OnOk result (Answered replayed left left' held held') → OnOk result (Replayed left left' held held')
replayed-on left left' held held' (Ok done) a = replayed-well left left' held held' a
replayed-on left left' held held' (Err fault) a = tt
