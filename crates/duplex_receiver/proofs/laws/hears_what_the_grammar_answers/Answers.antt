use Rattle.duplex_receiver.proofs.Answered.{Hears-answers}
use Rattle.duplex_receiver.proofs.laws.hears_what_the_grammar_answers.Goals as goal

pub returns : goal.returns
returns c = Hears-answers c.args.check
