use Rattle.c_payloads.specs.Payloads.{IsBit}
use Rattle.df1_c.proofs.Spelled.{copied-spelled}
use Rattle.df1_c.proofs.payloads.df1_payload_bit.Goals as goal

pub returns-clause-spelled : goal.returns-clause-spelled
returns-clause-spelled c =
    copied-spelled _ (IsBit c.args.address.now c.args.on) _ _ _ _ c.bit_payload.ensures.told c.bit_payload.ensures.spelled c.give.ensures.whole
