use Rattle.std.proofs.Common.{rules}
use Rattle.plc_commands.specs.Order.{Poke}
use Rattle.data_files.specs.WordBytes.{bytes_of}
use Rattle.command_payloads.specs.Orders.{SpellsPlc}
use Rattle.command_payloads.specs.Payloads.{unprotected_write_fault, unprotected_write_payload}
use Rattle.command_payloads.proofs.Faults.{where_written}
use Rattle.command_payloads.proofs.OfPlc.{unprotected_write_spelled}
use Rattle.command_payloads.proofs.basic.unprotected_write.Goals as goal

pub returns-clause-spelled : goal.returns-clause-spelled
returns-clause-spelled c =
    let address = c.args.address in
    let words = c.args.words.now in
    where_written (unprotected_write_fault address words) (SpellsPlc (Poke address (bytes_of words))) (unprotected_write_payload address words) c.add_words.new.into.items c.add_words.result
    (search rules) (search rules) (unprotected_write_spelled address words)
