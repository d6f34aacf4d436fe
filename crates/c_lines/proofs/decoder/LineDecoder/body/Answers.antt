use Rattle.c_lines.proofs.Arriving.{lent-is}
use Rattle.c_lines.proofs.decoder.LineDecoder.body.Goals as goal

pub returns-clause-lent : goal.returns-clause-lent
returns-clause-lent c = λ side check bytes stands. rw c.lent.ensures (lent-is c.args.self.now side check bytes stands)
