use Rattle.half_master.proofs.FittingLemmas.{key-fits}
use Rattle.half_master.proofs.Master.perform.Goals as goal

pub invariant_of-self-in-Accepted : goal.invariant_of-self-in-Accepted
invariant_of-self-in-Accepted g c =
    rw c.keep.ensures (key-fits c.self-in-Accepted.inside.stations.items c.self-in-Accepted.inside.next c.self-in-Accepted.inside.phase c.self-in-Accepted.inside.mouth c.self-in-Accepted.inside.sending.items c.in-Accepted.place _ c.self-in-Accepted.invariant)
