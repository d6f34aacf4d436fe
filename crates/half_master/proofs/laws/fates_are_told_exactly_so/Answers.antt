use Rattle.half_master.proofs.CourseLemmas.{came-delivers, came-gives-up, signal-fates}
use Rattle.half_master.proofs.laws.fates_are_told_exactly_so.Goals as goal

pub returns-clause-delivered : goal.returns-clause-delivered
returns-clause-delivered g c = came-delivers g.H.Host

pub returns-clause-given_up : goal.returns-clause-given_up
returns-clause-given_up g c = came-gives-up g.H.Host

pub returns-clause-told : goal.returns-clause-told
returns-clause-told g c = signal-fates g.H.Host
