-- What holds of the record of a script's run holds of the record that a replay answers.
use Rattle.std.specs.Prelude.{◌≡◌, IfOk, Result, Ok, Err}
use Rattle.std.proofs.Common.{sym, subst}
use Rattle.line_world.specs.Runs.{record_of}
use Rattle.replay_report.specs.declared.record.Record.{Record}
use Rattle.script_parts.specs.declared.script.Script.{Script}

pub of-run : {E : Type 0} (script : Script) (P : Record → Type 0) (result : Result Record E) → IfOk result (λ r. r ≡ record_of script) → P (record_of script) → IfOk result P
of-run script P (Ok r) is holds = subst P (sym is) holds
of-run script P (Err fault) is holds = tt
