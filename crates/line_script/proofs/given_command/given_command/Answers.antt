use Rattle.std.proofs.Common.{◌≡◌, ◌≤◌, length, refl, rules, slice_index_or}
use Rattle.std.proofs.lemmas.List.{take_rest}
use Rattle.line_script.proofs.GivenCommands.{is-command}
use Rattle.line_script.proofs.given_command.given_command.Goals as goal

pub returns-in_ok-payload-in-105 : goal.returns-in_ok-payload-in-105
returns-in_ok-payload-in-105 c =
    let line = c.args.line.now in
    let some : 3 ≤ length line = search rules in
    let letter : slice_index_or line 1 0 ≡ 105 = search rules in
    let blank : slice_index_or line 2 0 ≡ 32 = search rules in
    let side = c.in_ok-side-in-105.side in
    let end = c.in_ok-side-in-105.ensures.letter side refl in
    let payload = c.in_ok-payload-in-105.ensures in
    is-command line _ c.in_ok-payload-in-105.payload side some letter blank (take_rest line 3) end.0 end.1 end.2 payload.0 payload.1 payload.2
