use Rattle.df1_drill.specs.Storm.{storm_script}
use Rattle.df1_drill.proofs.StormPlaying.{storm-playable}
use Rattle.line_world.proofs.EitherMode.{all-recover}
use Rattle.df1_drill.proofs.telling.write_storm.Goals as goal

pub returns-in-Ok-clause-recovers : goal.returns-in-Ok-clause-recovers
returns-in-Ok-clause-recovers g c = all-recover (storm_script c.args.seed c.args.count) (storm-playable c.args.seed c.args.count c.requires)

pub returns-in-Err-clause-recovers : goal.returns-in-Err-clause-recovers
returns-in-Err-clause-recovers g c = all-recover (storm_script c.args.seed c.args.count) (storm-playable c.args.seed c.args.count c.requires)
