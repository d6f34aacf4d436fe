use Rattle.df1_frame.proofs.FrameLemmas.{units-spell}
use Rattle.df1_frame.proofs.laws.frame_spells.Goals as goal

pub returns : goal.returns
returns c = units-spell c.args.check
