use Rattle.duplex_end.proofs.Runs.{new-stands, moved-stands}
use Rattle.duplex_end.proofs.laws.hears_what_the_grammar_hears.Goals as goal

pub returns-clause-signals : goal.returns-clause-signals
returns-clause-signals g c = new-stands g.H.Host

pub returns-clause-moves : goal.returns-clause-moves
returns-clause-moves g c = moved-stands g.H.Host
