use Rattle.df1_base.proofs.Feeding.{came-put}
use Rattle.df1_base.proofs.feed_port.FeedPortPort.put_all.Goals as goal

pub returns-clause-none_came : goal.returns-clause-none_came
returns-clause-none_came g c = came-put g.S.Source.left _ c.args.self.now c.write_all.new.sink c.self.view_is
