use Rattle.std.proofs.Common.{◌≡◌, rules, sym, subst}
use Rattle.command_payloads.specs.Orders.{SpellsPlc, typed_read_order}
use Rattle.command_payloads.specs.Payloads.{typed_read_payload}
use Rattle.command_payloads.proofs.OfPlc.{typed_read_spelled}
use Rattle.command_payloads.proofs.typed.typed_read.Goals as goal

pub returns-clause-spelled : goal.returns-clause-spelled
returns-clause-spelled c =
    let at = c.args.at.now in
    let bytes : c.add_number.new.into.items ≡ typed_read_payload at c.args.count = search rules in
    subst (SpellsPlc (typed_read_order at c.args.count)) (sym bytes) (typed_read_spelled at c.args.count)
