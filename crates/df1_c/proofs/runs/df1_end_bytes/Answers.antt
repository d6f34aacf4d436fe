use Rattle.std.proofs.Common.{rules}
use Rattle.df1_c.specs.Held.{holding, value_in}
use Rattle.df1_c.proofs.RunsArrived.{run-stands}
use Rattle.df1_c.proofs.runs.df1_end_bytes.Goals as goal

pub returns-clause-stands : goal.returns-clause-stands
unfolding value_in
returns-clause-stands c = run-stands (holding c.args.end.now) (holding c.of.result) c.args.bytes.now c.args.used.now c.hear_run-code.new.used (search rules) (search rules)
