use Rattle.std.proofs.Common.{slice_index}
use Rattle.pccc_envelope.proofs.Replies.{and_64}
use Rattle.pccc_envelope.proofs.envelope.is_reply.Goals as goal

pub returns : goal.returns
returns c = and_64 (slice_index c.args.body.now 2)
