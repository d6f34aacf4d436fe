use Rattle.duplex_line.proofs.Wire.Transmissions.{counted-a, counted-b}
use Rattle.duplex_line.proofs.laws.transmissions_are_counted.Goals as goal

pub returns-clause-of_a : goal.returns-clause-of_a
returns-clause-of_a c = counted-a

pub returns-clause-of_b : goal.returns-clause-of_b
returns-clause-of_b c = counted-b
