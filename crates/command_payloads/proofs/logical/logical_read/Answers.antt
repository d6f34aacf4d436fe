use Rattle.std.proofs.Common.{◌≡◌, None, rules, sym, subst}
use Rattle.command_payloads.specs.Orders.{SpellsSlc, logical_read_order}
use Rattle.command_payloads.specs.Payloads.{logical_read_fault, logical_read_payload}
use Rattle.command_payloads.proofs.OfSlc.{logical_read_spelled}
use Rattle.command_payloads.proofs.logical.logical_read.Goals as goal

pub returns-clause-spelled : goal.returns-clause-spelled
returns-clause-spelled c =
    let at = c.args.at.now in
    let bytes : c.begin_logical.new.into.items ≡ logical_read_payload c.args.with_sub at c.args.count = search rules in
    let good : logical_read_fault c.args.with_sub at c.args.count ≡ None = search rules in
    subst (SpellsSlc (logical_read_order c.args.with_sub at c.args.count)) (sym bytes) (logical_read_spelled c.args.with_sub at c.args.count good)
