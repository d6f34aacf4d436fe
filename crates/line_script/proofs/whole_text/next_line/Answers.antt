use Rattle.std.proofs.Common.{sym, arith, eqb}
use Rattle.std.proofs.lemmas.Grind.{common_steps}
use Rattle.line_script.proofs.Cuts.{split-at, split-none}
use Rattle.line_script.proofs.whole_text.next_line.Goals as goal

pub returns-in-Some : goal.returns-in-Some
returns-in-Some c =
    let cut = split-at (λ b. eqb b 10) c.args.text.now c.in-Some.end (sym c.in-Some.ensures) in
    (cut.1, let lt = cut.0 in grind (arith, common_steps))

pub returns-in-None : goal.returns-in-None
returns-in-None c = split-none (λ b. eqb b 10) c.args.text.now (sym c.in-None.ensures)
