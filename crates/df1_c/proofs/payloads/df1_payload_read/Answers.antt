use Rattle.c_payloads.specs.Payloads.{IsRead}
use Rattle.df1_c.proofs.Spelled.{copied-spelled}
use Rattle.df1_c.proofs.payloads.df1_payload_read.Goals as goal

pub returns-clause-spelled : goal.returns-clause-spelled
returns-clause-spelled c =
    let spelled = copied-spelled _ (IsRead c.args.command c.args.address.now c.min-words.result) _ _ _ _ c.read_payload.ensures.told c.read_payload.ensures.spelled c.give.ensures.whole in
    (rw c.min-words.ensures at spelled)
