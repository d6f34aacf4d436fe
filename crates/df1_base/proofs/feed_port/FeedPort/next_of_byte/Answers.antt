use Rattle.df1_base.proofs.Feeding.{came-byte}
use Rattle.df1_base.proofs.feed_port.FeedPort.next_of_byte.Goals as goal

pub returns-clause-gave : goal.returns-clause-gave
returns-clause-gave g c =
    came-byte g.S.Source.left _ c.args.self.now c.args.first c.skip.new.self c.self.view_is c.skip.ensures c.requires.first c.requires.room c.requires.raw c.requires.none_due
