use Rattle.half_frame.specs.SlaveGrammar.{slave_hears, message_answers}
use Rattle.half_frame.specs.SlaveStanding.{lent}
use Rattle.half_frame.proofs.WholeItems.{heard-whole, heard-later, read-whole}
use Rattle.half_frame.proofs.SlaveLemmas.{machine, works, message, message_is, message_right, message_lent}
use Rattle.half_frame.proofs.slave_laws.message_round_trip.Goals as goal

pub returns-clause-heard : goal.returns-clause-heard
returns-clause-heard c = λ N stn before body items s least most. let check = c.args.check in
    heard-whole (slave_hears check N) (machine check N) (works check N) before items (message check stn body) (message_answers check stn body) s (message_is check stn body) (message_right check N stn body least most)

pub returns-clause-lent : goal.returns-clause-lent
returns-clause-lent c = λ N stn before body items s least most. let check = c.args.check in
    read-whole (slave_hears check N) (machine check N) (works check N) before items (message check stn body) (lent check N) body s (message_is check stn body) (message_lent check N stn body items least most)

pub returns-clause-later : goal.returns-clause-later
returns-clause-later c = λ N stn before body more items s least most. let check = c.args.check in
    heard-later (slave_hears check N) (machine check N) (works check N) before more items (message check stn body) (message_answers check stn body) s (message_is check stn body) (message_right check N stn body least most)
