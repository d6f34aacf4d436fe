-- A run on each side.
use Rattle.std.proofs.Common.{◌∙◌, ap, sym, take}
use Rattle.df1_dissect.specs.declared.ear.Ear.TheVariants as ear
use Rattle.df1_dissect.proofs.RunLemmas.{full-turns, full-value, master-turns, master-value, slave-turns, slave-value}
use Rattle.df1_dissect.proofs.ear.Ear.hear_run.Goals as goal

pub returns-in-Full-clause-value : goal.returns-in-Full-clause-value
returns-in-Full-clause-value c = rw c.in-Full.is (ap (λ d. ear.Full d) c.feed_run.ensures.value ∙ sym (full-value c.in-Full.decoder (take c.feed_run.result c.args.bytes.now)))

pub returns-in-Full-clause-turns : goal.returns-in-Full-clause-turns
returns-in-Full-clause-turns c = let d = c.in-Full.decoder in rw c.in-Full.is (full-turns d.check d.standing c.feed_run.result c.args.bytes.now c.feed_run.ensures.count)

pub returns-in-Master-clause-value : goal.returns-in-Master-clause-value
returns-in-Master-clause-value c = rw c.in-Master.is (ap (λ d. ear.Master d) c.feed_run-in-Master.ensures.value ∙ sym (master-value c.in-Master.ear (take c.feed_run-in-Master.result c.args.bytes.now)))

pub returns-in-Master-clause-turns : goal.returns-in-Master-clause-turns
returns-in-Master-clause-turns c = let d = c.in-Master.ear in rw c.in-Master.is (master-turns d.check d.standing c.feed_run-in-Master.result c.args.bytes.now c.feed_run-in-Master.ensures.count)

pub returns-in-Slave-clause-value : goal.returns-in-Slave-clause-value
returns-in-Slave-clause-value c = rw c.in-Slave.is (ap (λ d. ear.Slave d) c.feed_run-in-Slave.ensures.value ∙ sym (slave-value c.in-Slave.ear (take c.feed_run-in-Slave.result c.args.bytes.now)))

pub returns-in-Slave-clause-turns : goal.returns-in-Slave-clause-turns
returns-in-Slave-clause-turns c = let d = c.in-Slave.ear in rw c.in-Slave.is (slave-turns d.check d.standing c.feed_run-in-Slave.result c.args.bytes.now c.feed_run-in-Slave.ensures.count)
