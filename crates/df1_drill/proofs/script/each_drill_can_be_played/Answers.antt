use Rattle.df1_drill.proofs.Playing.{drill-playable}
use Rattle.df1_drill.proofs.script.each_drill_can_be_played.Goals as goal

pub returns : goal.returns
returns c = drill-playable
