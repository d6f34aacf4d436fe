use Rattle.c_payloads.specs.Payloads.{IsMasked}
use Rattle.df1_c.proofs.Spelled.{copied-spelled}
use Rattle.df1_c.proofs.payloads.df1_payload_masked.Goals as goal

pub returns-clause-spelled : goal.returns-clause-spelled
returns-clause-spelled c =
    copied-spelled _ (IsMasked c.args.address.now c.args.mask c.args.words.now) _ _ _ _ c.masked_payload.ensures.told c.masked_payload.ensures.spelled c.give.ensures.whole
