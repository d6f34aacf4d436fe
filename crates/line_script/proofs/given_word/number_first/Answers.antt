use Rattle.std.proofs.Common.{sym, take}
use Rattle.line_script.proofs.GivenWords.{number_cut}
use Rattle.line_script.proofs.given_word.number_first.Goals as goal

pub returns : goal.returns
returns c =
    let bytes = c.args.bytes.now in
    let stop = c.in_ok-stop.stop in
    (take stop bytes, sym c.in_ok-number_of.ensures, number_cut bytes stop c.in_ok-number_of.field-0 (sym c.in_ok-stop.ensures) (sym c.in_ok-number_of.ensures))
