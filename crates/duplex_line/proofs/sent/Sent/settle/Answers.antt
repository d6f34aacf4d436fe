use Rattle.std.proofs.Common.{◌≡◌, arith, length, sym}
use Rattle.std.proofs.lemmas.Bool.Decides.{nat_tests}
use Rattle.std.proofs.lemmas.Grind.{common_steps}
use Rattle.duplex_line.proofs.Told.{empty, with-none}
use Rattle.duplex_line.proofs.sent.Sent.settle.Goals as goal

pub returns-then-is_empty-clause-none : goal.returns-then-is_empty-clause-none
returns-then-is_empty-clause-none c =
    let none : length c.args.self.now.bytes ≡ 0 = grind (arith, nat_tests, common_steps) in
    empty c.args.self.now.bytes none

pub returns-then-is_empty-clause-lines : goal.returns-then-is_empty-clause-lines
returns-then-is_empty-clause-lines c =
    let none : length c.args.self.now.bytes ≡ 0 = grind (arith, nat_tests, common_steps) in
    sym (with-none c.args.lines.now c.args.self.now (empty c.args.self.now.bytes none))
