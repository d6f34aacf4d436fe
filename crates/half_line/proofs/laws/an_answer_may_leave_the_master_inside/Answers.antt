use Rattle.half_line.specs.Run.{record_of}
use Rattle.half_line.proofs.Certified.Witness.{left-playable, left-quiet-before, left-prompt, left-honest, left-answered, left-between, left-goes_on, left-missed}
use Rattle.half_line.proofs.laws.an_answer_may_leave_the_master_inside.Goals as goal

pub returns-clause-playable : goal.returns-clause-playable
returns-clause-playable c = left-playable

pub returns-clause-quiet : goal.returns-clause-quiet
returns-clause-quiet c = left-quiet-before

pub returns-clause-undisturbed : goal.returns-clause-undisturbed
returns-clause-undisturbed c = left-prompt

pub returns-clause-undeceived : goal.returns-clause-undeceived
returns-clause-undeceived c = left-honest

pub returns-clause-answered : goal.returns-clause-answered
returns-clause-answered c = left-answered

pub returns-clause-inside : goal.returns-clause-inside
returns-clause-inside c = left-between

pub returns-clause-goes_on : goal.returns-clause-goes_on
returns-clause-goes_on c = left-goes_on

pub returns-clause-missed : goal.returns-clause-missed
unfolding record_of
returns-clause-missed c = left-missed
