use Rattle.c_payloads.specs.Payloads.{IsModify}
use Rattle.df1_c.proofs.Spelled.{copied-spelled}
use Rattle.df1_c.proofs.payloads.df1_payload_modify.Goals as goal

pub returns-clause-spelled : goal.returns-clause-spelled
returns-clause-spelled c =
    copied-spelled _ (IsModify c.args.address.now c.args.and_mask c.args.or_mask) _ _ _ _ c.modify_payload.ensures.told c.modify_payload.ensures.spelled c.give.ensures.whole
