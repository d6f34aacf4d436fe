use Rattle.std.proofs.Common.{rules}
use Rattle.command_payloads.specs.Orders.{SpellsPlc, typed_write_order}
use Rattle.command_payloads.specs.Payloads.{typed_write_fault, typed_write_payload}
use Rattle.command_payloads.proofs.Faults.{where_written}
use Rattle.command_payloads.proofs.OfPlc.{typed_write_spelled}
use Rattle.command_payloads.proofs.typed.typed_write.Goals as goal

pub returns-clause-spelled : goal.returns-clause-spelled
returns-clause-spelled c =
    let at = c.args.at.now in
    let words = c.args.words.now in
    where_written (typed_write_fault at words) (SpellsPlc (typed_write_order at words)) (typed_write_payload at words) c.add_words.new.into.items c.add_words.result
    (search rules) (search rules) (typed_write_spelled at words)
