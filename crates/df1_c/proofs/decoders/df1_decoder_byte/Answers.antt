use Rattle.std.proofs.Common.{rules}
use Rattle.df1_c.specs.Held.{holding, value_in}
use Rattle.df1_c.proofs.Arriving.{fed-stands, fed-hears}
use Rattle.df1_c.proofs.decoders.df1_decoder_byte.Goals as goal

pub returns-clause-stands : goal.returns-clause-stands
unfolding value_in
returns-clause-stands c = fed-stands (holding c.args.decoder.now) (holding c.of.result) c.args.byte (search rules)

pub returns-clause-heard : goal.returns-clause-heard
unfolding value_in
returns-clause-heard c = fed-hears (holding c.args.decoder.now) c.args.byte c.args.hearing.now c.feed-code.new.hearing (search rules)
