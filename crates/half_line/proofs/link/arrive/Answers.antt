-- A byte arrives at one end or the other.
use Rattle.half_line.proofs.link.arrive.Goals as goal

pub returns-in-ToStation-clause-lines : goal.returns-in-ToStation-clause-lines
returns-in-ToStation-clause-lines g c = rw c.in-ToStation.is (c.arrive_at_station.ensures.lines c.args.master.now)

pub returns-in-ToMaster-clause-lines : goal.returns-in-ToMaster-clause-lines
returns-in-ToMaster-clause-lines g c = rw c.in-ToMaster.is (c.arrive_at_master.ensures.lines c.args.side.now)
