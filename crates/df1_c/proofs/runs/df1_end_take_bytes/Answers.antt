use Rattle.std.proofs.Common.{rules}
use Rattle.std.specs.Prelude.{length, min}
use Rattle.df1_c.specs.Held.{holding, value_in}
use Rattle.c_calls.specs.Runs.{most_given}
use Rattle.df1_c.proofs.RunsArrived.{given-stands}
use Rattle.df1_c.proofs.runs.df1_end_take_bytes.Goals as goal

pub returns-clause-stands : goal.returns-clause-stands
unfolding value_in
returns-clause-stands c = given-stands (holding c.args.end.now) (holding c.of.result) (min (length c.args.into.now) most_given) (search rules)
