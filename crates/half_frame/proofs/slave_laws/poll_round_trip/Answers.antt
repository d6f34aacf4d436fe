use Rattle.std.proofs.Common.{[], ◌∷◌}
use Rattle.df1_check.specs.Checks.{bcc}
use Rattle.half_frame.specs.SlaveGrammar.{Poll, slave_hears, poll_answers}
use Rattle.half_frame.proofs.WholeItems.{heard-whole, heard-later}
use Rattle.half_frame.proofs.SlaveLemmas.{machine, works, poll_right}
use Rattle.half_frame.proofs.slave_laws.poll_round_trip.Goals as goal

pub returns-clause-heard : goal.returns-clause-heard
returns-clause-heard c = λ N stn before items s. heard-whole (slave_hears c.args.check N) (machine c.args.check N) (works c.args.check N) before items (Poll stn (bcc (stn ∷ []))) (poll_answers stn) s tt (poll_right c.args.check N stn)

pub returns-clause-later : goal.returns-clause-later
returns-clause-later c = λ N stn before more items s. heard-later (slave_hears c.args.check N) (machine c.args.check N) (works c.args.check N) before more items (Poll stn (bcc (stn ∷ []))) (poll_answers stn) s tt (poll_right c.args.check N stn)
