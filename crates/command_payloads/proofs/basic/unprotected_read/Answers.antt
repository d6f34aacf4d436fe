use Rattle.std.proofs.Common.{◌≡◌, ◌*◌, rules, sym, subst}
use Rattle.plc_commands.specs.Order.{Peek}
use Rattle.command_payloads.specs.Orders.{SpellsPlc}
use Rattle.command_payloads.specs.Payloads.{unprotected_read_payload}
use Rattle.command_payloads.proofs.OfPlc.{unprotected_read_spelled}
use Rattle.command_payloads.proofs.basic.unprotected_read.Goals as goal

pub returns-clause-spelled : goal.returns-clause-spelled
returns-clause-spelled c =
    let bytes : c.push-2.new.self.items ≡ unprotected_read_payload c.args.address c.args.count = search rules in
    subst (SpellsPlc (Peek c.args.address (2 * c.args.count))) (sym bytes) (unprotected_read_spelled c.args.address c.args.count)
