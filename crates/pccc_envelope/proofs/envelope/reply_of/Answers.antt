use Rattle.pccc_envelope.proofs.Replies.{is_reply-reply_form}
use Rattle.pccc_envelope.proofs.envelope.reply_of.Goals as goal

pub returns-clause-is_reply : goal.returns-clause-is_reply
returns-clause-is_reply c = λ rest. is_reply-reply_form c.args.e.now c.args.sts rest
