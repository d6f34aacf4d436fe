use Rattle.std.proofs.Common.{rules}
use Rattle.df1_c.specs.Held.{holding, value_in}
use Rattle.df1_c.proofs.Arriving.{byte-stands, byte-whole}
use Rattle.df1_c.proofs.ends.df1_end_byte.Goals as goal

pub returns-clause-stands : goal.returns-clause-stands
unfolding value_in
returns-clause-stands c = byte-stands (holding c.args.end.now) (holding c.of.result) c.args.byte (search rules)

pub returns-clause-whole : goal.returns-clause-whole
unfolding value_in
returns-clause-whole c = byte-whole (holding c.args.end.now) c.args.byte c.args.step.now c.hear-code.new.step (search rules)
