use Rattle.df1_drill.proofs.StormPlaying.{storm-playable}
use Rattle.df1_drill.proofs.storm_script.each_storm_can_be_played.Goals as goal

pub returns : goal.returns
returns c = storm-playable
