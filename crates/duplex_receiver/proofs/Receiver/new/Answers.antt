use Rattle.std.proofs.Common.{◌≡◌}
use Rattle.df1_frame.specs.Standing.{Outside}
use Rattle.duplex_receiver.proofs.Keeping.{decoding-start, stands-start}
use Rattle.duplex_receiver.proofs.Receiver.new.Goals as goal

pub returns-clause-value : goal.returns-clause-value
returns-clause-value g c =
    let outside : c.new.result ≡ record { check = c.args.check; standing = Outside } = decoding-start c.args.check g.row.N c.new.result c.new.ensures.stands in
    cc

pub returns-clause-stands : goal.returns-clause-stands
returns-clause-stands g c = rw c.new-2.ensures (stands-start c.args.check g.row.N c.new.result c.new.ensures.stands)
