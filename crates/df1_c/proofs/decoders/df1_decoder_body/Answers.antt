use Rattle.std.proofs.Common.{rules}
use Rattle.df1_c.specs.Held.{holding, value_in}
use Rattle.df1_c.proofs.Arriving.{lent-copied}
use Rattle.df1_c.proofs.decoders.df1_decoder_body.Goals as goal

pub returns-clause-lent : goal.returns-clause-lent
unfolding value_in
returns-clause-lent c =
    lent-copied (holding c.args.decoder.now) c.args.into.now c.copy_lent-code.new.into c.args.count.now c.copy_lent-code.new.count c.number-2.result
    (search rules) (search rules) (search rules)
