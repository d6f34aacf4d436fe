-- The run shows how the storm ended.
use Rattle.std.proofs.Common.{Ok, Err, refl}
use Rattle.df1_drill.specs.Telling.{storm_line}
use Rattle.df1_tool.proofs.Drills.{line-ended}
use Rattle.df1_tool.proofs.drilling.storm.Goals as goal

pub returns-in-Ok-clause-line : goal.returns-in-Ok-clause-line
returns-in-Ok-clause-line g c = line-ended (storm_line c.args.rounds.seed c.args.rounds.count) _ _ 0 (Ok tt) (refl, refl, refl) c.in-Ok.ensures.line

pub returns-in-Err-clause-line : goal.returns-in-Err-clause-line
returns-in-Err-clause-line g c = line-ended (storm_line c.args.rounds.seed c.args.rounds.count) _ _ c.refuse.result (Err c.in-Err.fault) (c.refuse.ensures.status, c.refuse.ensures.note) c.in-Err.ensures.line
