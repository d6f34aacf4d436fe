use Rattle.plc_commands.specs.Order.{Echo}
use Rattle.command_payloads.specs.Orders.{SpellsPlc}
use Rattle.df1_c.proofs.Spelled.{copied-spelled}
use Rattle.df1_c.proofs.payloads.df1_payload_echo.Goals as goal

pub returns-clause-spelled : goal.returns-clause-spelled
returns-clause-spelled c =
    copied-spelled _ (SpellsPlc (Echo c.args.bytes.now)) _ _ _ _ c.echo_payload.ensures.told c.echo_payload.ensures.spelled c.give.ensures.whole
