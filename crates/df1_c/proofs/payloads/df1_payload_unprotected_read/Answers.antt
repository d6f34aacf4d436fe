use Rattle.std.proofs.Common.{◌*◌}
use Rattle.plc_commands.specs.Order.{Peek}
use Rattle.command_payloads.specs.Orders.{SpellsPlc}
use Rattle.df1_c.proofs.Spelled.{copied-spelled}
use Rattle.df1_c.proofs.payloads.df1_payload_unprotected_read.Goals as goal

pub returns-clause-spelled : goal.returns-clause-spelled
returns-clause-spelled c =
    let spelled = copied-spelled _ (SpellsPlc (Peek c.args.address (2 * c.min-words.result))) _ _ _ _ c.unprotected_read_payload.ensures.told c.unprotected_read_payload.ensures.spelled c.give.ensures.whole in
    (rw c.min-words.ensures at spelled)
