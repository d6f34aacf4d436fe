-- The lines of an answered and of an unanswered command.
use Rattle.replay_report.proofs.printing.put_line.Goals as goal

pub returns-in-Unanswered-clause-ok : goal.returns-in-Unanswered-clause-ok
returns-in-Unanswered-clause-ok g c = rw c.in-Unanswered.is c.put_number-in-Unanswered.ensures.ok

pub returns-in-Unanswered-clause-missing : goal.returns-in-Unanswered-clause-missing
returns-in-Unanswered-clause-missing g c = rw c.in-Unanswered.is c.put_number-in-Unanswered.ensures.missing

pub returns-in-Answered-clause-missing : goal.returns-in-Answered-clause-missing
returns-in-Answered-clause-missing g c = rw c.in-Answered.is (rw c.as_slice-in-Answered.ensures at c.put_answer.ensures.missing)
