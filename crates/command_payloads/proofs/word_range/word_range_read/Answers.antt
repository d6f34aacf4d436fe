use Rattle.std.proofs.Common.{◌≡◌, rules, sym, subst}
use Rattle.command_payloads.specs.Orders.{SpellsPlc, word_range_read_order}
use Rattle.command_payloads.specs.Payloads.{word_range_read_payload}
use Rattle.command_payloads.proofs.OfPlc.{word_range_read_spelled}
use Rattle.command_payloads.proofs.word_range.word_range_read.Goals as goal

pub returns-clause-spelled : goal.returns-clause-spelled
returns-clause-spelled c =
    let at = c.args.at.now in
    let bytes : c.push.new.self.items ≡ word_range_read_payload at c.args.count = search rules in
    subst (SpellsPlc (word_range_read_order at c.args.count)) (sym bytes) (word_range_read_spelled at c.args.count)
