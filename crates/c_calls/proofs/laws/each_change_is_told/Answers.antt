use Rattle.c_calls.proofs.Changes.{all, within, on, kept}
use Rattle.c_calls.proofs.laws.each_change_is_told.Goals as goal

pub returns-clause-all : goal.returns-clause-all
returns-clause-all c = all

pub returns-clause-within : goal.returns-clause-within
returns-clause-within c = within

pub returns-clause-on : goal.returns-clause-on
returns-clause-on c = on

pub returns-clause-kept : goal.returns-clause-kept
returns-clause-kept c = kept
