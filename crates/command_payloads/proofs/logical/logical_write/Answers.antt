use Rattle.std.proofs.Common.{rules}
use Rattle.command_payloads.specs.Orders.{SpellsSlc, logical_write_order}
use Rattle.command_payloads.specs.Payloads.{logical_write_fault, logical_write_payload}
use Rattle.command_payloads.proofs.Faults.{where_written}
use Rattle.command_payloads.proofs.OfSlc.{logical_write_spelled}
use Rattle.command_payloads.proofs.logical.logical_write.Goals as goal

pub returns-clause-spelled : goal.returns-clause-spelled
returns-clause-spelled c =
    let with_sub = c.args.with_sub in
    let at = c.args.at.now in
    let words = c.args.words.now in
    where_written (logical_write_fault with_sub at words) (SpellsSlc (logical_write_order with_sub at words)) (logical_write_payload with_sub at words) c.add_words.new.into.items c.add_words.result
    (search rules) (search rules) (logical_write_spelled with_sub at words)
