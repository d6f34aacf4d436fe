use Rattle.df1_base.proofs.Feeding.{came-drain}
use Rattle.df1_base.proofs.feed_port.FeedPortPort.next.Goals as goal

pub returns-then-self-clause-gave : goal.returns-then-self-clause-gave
returns-then-self-clause-gave g c = came-drain g.S.Source.left _ c.args.self.now c.self.view_is c.if-self.true
