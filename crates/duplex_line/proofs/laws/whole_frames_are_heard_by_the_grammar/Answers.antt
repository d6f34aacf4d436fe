use Rattle.duplex_line.proofs.Once.Arrivals.{run-hears}
use Rattle.duplex_line.proofs.laws.whole_frames_are_heard_by_the_grammar.Goals as goal

pub returns-clause-at_a : goal.returns-clause-at_a
returns-clause-at_a c script playable = (run-hears script playable).of_a.heard

pub returns-clause-at_b : goal.returns-clause-at_b
returns-clause-at_b c script playable = (run-hears script playable).of_b.heard
