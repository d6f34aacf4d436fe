use Rattle.half_master.proofs.FittingLemmas.{new-fits}
use Rattle.half_master.proofs.Master.new.Goals as goal

pub invariant_of-result : goal.invariant_of-result
invariant_of-result g c = rw (c.listed.ensures, c.new-2.ensures, c.new-3.ensures) (new-fits c.args.stations.now c.requires.stations)
