use Rattle.half_frame.specs.SlaveGrammar.{slave_hears}
use Rattle.df1_frame.proofs.LineLemmas.{answered-on}
use Rattle.half_frame.proofs.WholeItems.{at-each}
use Rattle.half_frame.proofs.SlaveLemmas.{machine, works}
use Rattle.half_frame.proofs.slave_laws.heard_stays_at_a_slave.Goals as goal

pub returns-clause-stays : goal.returns-clause-stays
returns-clause-stays c = λ N bytes more so_far r. answered-on (slave_hears c.args.check N) (machine c.args.check N) (works c.args.check N) more bytes so_far r

pub returns-clause-at_each : goal.returns-clause-at_each
returns-clause-at_each c = λ N. at-each (slave_hears c.args.check N) (machine c.args.check N) (works c.args.check N)
