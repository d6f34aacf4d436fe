use Rattle.half_frame.specs.MasterGrammar.{master_hears, reply_answers}
use Rattle.half_frame.specs.MasterStanding.{lent}
use Rattle.half_frame.proofs.WholeItems.{heard-whole, heard-later, read-whole}
use Rattle.half_frame.proofs.MasterLemmas.{machine, works, reply, reply_is, reply_right, reply_lent}
use Rattle.half_frame.proofs.master_laws.reply_round_trip.Goals as goal

pub returns-clause-heard : goal.returns-clause-heard
returns-clause-heard c = λ N before body items s least most. let check = c.args.check in
    heard-whole (master_hears check N) (machine check N) (works check N) before items (reply check body) (reply_answers check body) s (reply_is check body) (reply_right check N body least most)

pub returns-clause-lent : goal.returns-clause-lent
returns-clause-lent c = λ N before body items s least most. let check = c.args.check in
    read-whole (master_hears check N) (machine check N) (works check N) before items (reply check body) (lent check N) body s (reply_is check body) (reply_lent check N body items least most)

pub returns-clause-later : goal.returns-clause-later
returns-clause-later c = λ N before body more items s least most. let check = c.args.check in
    heard-later (master_hears check N) (machine check N) (works check N) before more items (reply check body) (reply_answers check body) s (reply_is check body) (reply_right check N body least most)
