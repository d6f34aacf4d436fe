use Rattle.std.proofs.Common.{rules}
use Rattle.command_payloads.specs.Orders.{SpellsSlc, masked_write_order}
use Rattle.command_payloads.specs.Payloads.{masked_write_fault, masked_write_payload}
use Rattle.command_payloads.proofs.Faults.{where_written}
use Rattle.command_payloads.proofs.OfSlc.{masked_write_spelled}
use Rattle.command_payloads.proofs.logical.masked_write.Goals as goal

pub returns-clause-spelled : goal.returns-clause-spelled
returns-clause-spelled c =
    let at = c.args.at.now in
    let mask = c.args.mask in
    let words = c.args.words.now in
    where_written (masked_write_fault at mask words) (SpellsSlc (masked_write_order at mask words)) (masked_write_payload at mask words) c.add_words.new.into.items c.add_words.result
    (search rules) (search rules) (λ _. masked_write_spelled at mask words)
