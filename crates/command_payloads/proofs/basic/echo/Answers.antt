use Rattle.std.proofs.Common.{◌≡◌, rules, sym, subst}
use Rattle.plc_commands.specs.Order.{Echo}
use Rattle.command_payloads.specs.Orders.{SpellsPlc}
use Rattle.command_payloads.specs.Payloads.{echo_payload}
use Rattle.command_payloads.proofs.OfPlc.{echo_spelled}
use Rattle.command_payloads.proofs.basic.echo.Goals as goal

pub returns-clause-spelled : goal.returns-clause-spelled
returns-clause-spelled c =
    let bytes : c.try_extend_from_slice.new.self.items ≡ echo_payload c.args.bytes.now = search rules in
    subst (SpellsPlc (Echo c.args.bytes.now)) (sym bytes) (echo_spelled c.args.bytes.now)
