use Rattle.std.proofs.Common.{rules}
use Rattle.df1_c.specs.Held.{holding, value_in}
use Rattle.df1_c.proofs.Making.{decoder-stands}
use Rattle.df1_c.proofs.decoders.df1_decoder_make.Goals as goal

pub returns-clause-stands : goal.returns-clause-stands
unfolding value_in
returns-clause-stands c = decoder-stands c.args.crc c.number-2.result (holding c.args.decoder.now) (holding c.fill.new.decoder) (search rules)
