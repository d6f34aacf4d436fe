use Rattle.std.proofs.Common.{rules, length, nat_lt}
use Rattle.std.specs.Mem.{manually_drop_value}
use Rattle.df1_c.specs.Held.{holding, value_in}
use Rattle.df1_c.proofs.Arriving.{tick-stands}
use Rattle.df1_c.proofs.ends.df1_end_tick.Goals as goal

pub returns-clause-stands : goal.returns-clause-stands
unfolding value_in
returns-clause-stands c =
    tick-stands (nat_lt (length c.args.gone.now) 16) (holding c.args.end.now) (holding c.of.result) (manually_drop_value c.in-Some.held.value) c.tick-code.new.held
    (search rules) (search rules) (search rules)
