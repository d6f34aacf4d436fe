use Rattle.duplex_line.proofs.Wire.AllHeard.{run-stands-a, run-stands-b}
use Rattle.duplex_line.proofs.laws.all_is_heard_by_the_grammar.Goals as goal

pub returns-clause-at_a : goal.returns-clause-at_a
returns-clause-at_a c = run-stands-a

pub returns-clause-at_b : goal.returns-clause-at_b
returns-clause-at_b c = run-stands-b
