use Rattle.c_payloads.specs.Payloads.{IsWrite}
use Rattle.df1_c.proofs.Spelled.{copied-spelled}
use Rattle.df1_c.proofs.payloads.df1_payload_write.Goals as goal

pub returns-clause-spelled : goal.returns-clause-spelled
returns-clause-spelled c =
    copied-spelled _ (IsWrite c.args.command c.args.address.now c.args.words.now) _ _ _ _ c.write_payload.ensures.told c.write_payload.ensures.spelled c.give.ensures.whole
