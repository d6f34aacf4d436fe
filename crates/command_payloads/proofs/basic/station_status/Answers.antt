use Rattle.std.proofs.Common.{◌≡◌, rules, sym, subst}
use Rattle.plc_commands.specs.Order.{Status}
use Rattle.command_payloads.specs.Orders.{SpellsPlc}
use Rattle.command_payloads.specs.Payloads.{status_payload}
use Rattle.command_payloads.proofs.OfPlc.{status_spelled}
use Rattle.command_payloads.proofs.basic.station_status.Goals as goal

pub returns-clause-spelled : goal.returns-clause-spelled
returns-clause-spelled c =
    let bytes : c.push-2.new.self.items ≡ status_payload = search rules in
    subst (SpellsPlc Status) (sym bytes) status_spelled
