use Rattle.c_calls.proofs.Setting.{each, none, run, tables}
use Rattle.c_calls.proofs.laws.a_run_of_words_is_set.Goals as goal

pub returns-clause-tables : goal.returns-clause-tables
returns-clause-tables c = tables

pub returns-clause-each : goal.returns-clause-each
returns-clause-each c = each

pub returns-clause-run : goal.returns-clause-run
returns-clause-run c = run

pub returns-clause-none : goal.returns-clause-none
returns-clause-none c = none
