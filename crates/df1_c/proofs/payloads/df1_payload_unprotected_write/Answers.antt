use Rattle.data_files.specs.WordBytes.{bytes_of}
use Rattle.plc_commands.specs.Order.{Poke}
use Rattle.command_payloads.specs.Orders.{SpellsPlc}
use Rattle.df1_c.proofs.Spelled.{copied-spelled}
use Rattle.df1_c.proofs.payloads.df1_payload_unprotected_write.Goals as goal

pub returns-clause-spelled : goal.returns-clause-spelled
returns-clause-spelled c =
    copied-spelled _ (SpellsPlc (Poke c.args.address (bytes_of c.args.words.now))) _ _ _ _ c.unprotected_write_payload.ensures.told c.unprotected_write_payload.ensures.spelled c.give.ensures.whole
