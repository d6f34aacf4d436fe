use Rattle.std.proofs.Common.{◌∙◌}
use Rattle.df1_frame.proofs.FrameLemmas.{units-spell}
use Rattle.c_lines.proofs.spelling.reply_of.Goals as goal

pub returns-clause-reply : goal.returns-clause-reply
returns-clause-reply c = let spells = units-spell c.args.check c.args.body.now in c.frame_of.ensures.frame ∙ spells.spelled
