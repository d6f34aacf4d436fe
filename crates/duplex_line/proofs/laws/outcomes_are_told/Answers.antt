use Rattle.duplex_line.proofs.Once.ToldCommands.{recounts-run}
use Rattle.duplex_line.proofs.laws.outcomes_are_told.Goals as goal

pub returns-clause-commands_of_a : goal.returns-clause-commands_of_a
returns-clause-commands_of_a c script playable = (recounts-run script playable).recounts.issued.bodies

pub returns-clause-commands_of_b : goal.returns-clause-commands_of_b
returns-clause-commands_of_b c script playable = (recounts-run script playable).far_recounts.issued.bodies

pub returns-clause-outcomes_of_a : goal.returns-clause-outcomes_of_a
returns-clause-outcomes_of_a c script playable = (recounts-run script playable).recounts.outcomes

pub returns-clause-outcomes_of_b : goal.returns-clause-outcomes_of_b
returns-clause-outcomes_of_b c script playable = (recounts-run script playable).far_recounts.outcomes
