-- A run of either mode in which no end is deceived: nothing that ended comes late.
use Rattle.std.proofs.Common.{◌≡◌, ◌∙◌, Bool, true, false, ◌++◌, refl, sym, ap, subst}
use Rattle.duplex_line.specs.Run as duplex
use Rattle.half_line.specs.Behind.{plain_node}
use Rattle.half_line.specs.Run as polled
use Rattle.line_world.specs.Runs.{record_of}
use Rattle.line_world.proofs.EitherMode.{duplex-record, polled-record}
use Rattle.replay_report.specs.declared.record.Record.{Record}
use Rattle.std.specs.Prelude.{List}
use Rattle.script_parts.specs.declared.script.Event.{Event}
use Rattle.script_parts.specs.declared.script.Script.{Script}
use Rattle.script_parts.specs.HalfPlayable.{CanBePlayed}
use Rattle.run_laws.specs.GivenUp.{IsOverAfter, IsOverIn, NothingComesLate, lines_so_far}
use Rattle.run_laws.proofs.LateAtCut.{cut-report as duplex-report, of-both-ends}
use Rattle.run_laws.proofs.LateAtPolledCut.{cut-report as polled-report, at-stations}

pub duplex-honest : (script : Script) → script.half ≡ false → (record_of script).deceived ≡ 0 → (duplex.last_state script).deceived ≡ 0
unfolding duplex.record_of
duplex-honest script mode none = sym (ap (λ (r : Record). r.deceived) (duplex-record script mode)) ∙ none

pub polled-honest : (script : Script) → script.half ≡ true → (record_of script).deceived ≡ 0 → (polled.last_state script).deceived ≡ 0
unfolding polled.record_of
polled-honest script mode none = sym (ap (λ (r : Record). r.deceived) (polled-record script mode)) ∙ none

none-late : (half : Bool) (script : Script) → script.half ≡ half → CanBePlayed script → (record_of script).deceived ≡ 0 → (front back : List Event) → script.events ≡ front ++ back → IsOverAfter script (record_of script) front
none-late true script mode h none front back is =
    let after = polled.lines_after plain_node (polled.state_after plain_node (polled.start script) front) back in
    record {
      after = after;
      lines = polled-report script front back mode is;
      over = subst (λ (half : Bool). IsOverIn half script front (lines_so_far script front) after) (sym mode) (at-stations script (h.half mode) (polled-honest script mode none) front back is);
    }
none-late false script mode h none front back is =
    let after = duplex.lines_after (duplex.state_after (duplex.start script) front) back in
    record {
      after = after;
      lines = duplex-report script front back mode is;
      over = subst (λ (half : Bool). IsOverIn half script front (lines_so_far script front) after) (sym mode) (of-both-ends script (h.full mode) (duplex-honest script mode none) front back is);
    }

pub nothing-comes-late : (script : Script) → CanBePlayed script → (record_of script).deceived ≡ 0 → NothingComesLate script (record_of script)
nothing-comes-late script h none = none-late script.half script refl h none
