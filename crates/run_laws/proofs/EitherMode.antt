-- A run of either mode: where enough drained ticks came, the outcome of each command is told.
use Rattle.std.proofs.Common.{◌≡◌, Bool, true, false, refl, sym, subst}
use Rattle.line_world.specs.Runs.{record_of}
use Rattle.line_world.proofs.EitherMode.{duplex-record, polled-record}
use Rattle.replay_report.specs.declared.record.Record.{Record}
use Rattle.script_parts.specs.declared.script.Script.{Script}
use Rattle.script_parts.specs.HalfPlayable.{CanBePlayed}
use Rattle.run_laws.specs.Bounds.{AtBothEnds, AtMaster, AtIssuersOf, OutcomesCome}
use Rattle.run_laws.proofs.DuplexRun.{told-at-both}
use Rattle.run_laws.proofs.HalfRun.{told-at-master}

come-in : (half : Bool) (script : Script) → script.half ≡ half → CanBePlayed script → AtIssuersOf half script (record_of script)
come-in true script mode h = subst (λ (r : Record). AtMaster script r) (sym (polled-record script mode)) (told-at-master script (h.half mode))
come-in false script mode h = subst (λ (r : Record). AtBothEnds script r) (sym (duplex-record script mode)) (told-at-both script (h.full mode))

pub outcomes-come : (script : Script) → CanBePlayed script → OutcomesCome script (record_of script)
outcomes-come script h = come-in script.half script refl h
