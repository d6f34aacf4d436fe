use Rattle.std.proofs.Common.{◌≡◌, rules, sym, subst}
use Rattle.command_payloads.specs.Orders.{SpellsPlc, read_modify_write_order}
use Rattle.command_payloads.specs.Payloads.{read_modify_write_payload}
use Rattle.command_payloads.proofs.OfPlc.{read_modify_write_spelled}
use Rattle.command_payloads.proofs.bits.read_modify_write.Goals as goal

pub returns-clause-spelled : goal.returns-clause-spelled
returns-clause-spelled c =
    let at = c.args.at.now in
    let bytes : c.add_number-2.new.into.items ≡ read_modify_write_payload at c.args.and c.args.or = search rules in
    subst (SpellsPlc (read_modify_write_order at c.args.and c.args.or)) (sym bytes) (read_modify_write_spelled at c.args.and c.args.or)
