use Rattle.pccc_envelope.proofs.Replies.{and_64}
use Rattle.df1_node.proofs.initiator.has_reply_bit.Goals as goal

pub returns : goal.returns
returns c = and_64 c.args.cmd
