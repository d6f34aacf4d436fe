use Rattle.half_frame.specs.MasterGrammar.{master_hears}
use Rattle.df1_frame.proofs.LineLemmas.{answered-on}
use Rattle.half_frame.proofs.WholeItems.{at-each}
use Rattle.half_frame.proofs.MasterLemmas.{machine, works}
use Rattle.half_frame.proofs.master_laws.heard_stays_at_the_master.Goals as goal

pub returns-clause-stays : goal.returns-clause-stays
returns-clause-stays c = λ N bytes more so_far r. answered-on (master_hears c.args.check N) (machine c.args.check N) (works c.args.check N) more bytes so_far r

pub returns-clause-at_each : goal.returns-clause-at_each
returns-clause-at_each c = λ N. at-each (master_hears c.args.check N) (machine c.args.check N) (works c.args.check N)
