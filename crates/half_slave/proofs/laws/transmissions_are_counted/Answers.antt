use Rattle.half_slave.proofs.Reaching.{KeepsBodies}
use Rattle.half_slave.proofs.Giving.{came-gave, came-number, came-ended, came-running}
use Rattle.half_slave.proofs.laws.transmissions_are_counted.Goals as goal

pub returns-clause-begun : goal.returns-clause-begun
returns-clause-begun g c =
    let laws : KeepsBodies g.H.Host = record { next_is = g.met.H.Host.body_at_next; at_accept = g.met.H.Host.bodies_at_accept; at_next = g.met.H.Host.bodies_at_next; at_told = g.met.H.Host.bodies_at_told; at_clear = g.met.H.Host.bodies_at_clear } in
    λ past s came. (came-gave g.H.Host laws past s came).begun

pub returns-clause-sending : goal.returns-clause-sending
returns-clause-sending g c =
    let laws : KeepsBodies g.H.Host = record { next_is = g.met.H.Host.body_at_next; at_accept = g.met.H.Host.bodies_at_accept; at_next = g.met.H.Host.bodies_at_next; at_told = g.met.H.Host.bodies_at_told; at_clear = g.met.H.Host.bodies_at_clear } in
    λ past s came. (came-gave g.H.Host laws past s came).sending_is

pub returns-clause-numbered : goal.returns-clause-numbered
returns-clause-numbered g c =
    let laws : KeepsBodies g.H.Host = record { next_is = g.met.H.Host.body_at_next; at_accept = g.met.H.Host.bodies_at_accept; at_next = g.met.H.Host.bodies_at_next; at_told = g.met.H.Host.bodies_at_told; at_clear = g.met.H.Host.bodies_at_clear } in
    came-number g.H.Host laws

pub returns-clause-ended : goal.returns-clause-ended
returns-clause-ended g c =
    let laws : KeepsBodies g.H.Host = record { next_is = g.met.H.Host.body_at_next; at_accept = g.met.H.Host.bodies_at_accept; at_next = g.met.H.Host.bodies_at_next; at_told = g.met.H.Host.bodies_at_told; at_clear = g.met.H.Host.bodies_at_clear } in
    came-ended g.H.Host laws

pub returns-clause-running : goal.returns-clause-running
returns-clause-running g c =
    let laws : KeepsBodies g.H.Host = record { next_is = g.met.H.Host.body_at_next; at_accept = g.met.H.Host.bodies_at_accept; at_next = g.met.H.Host.bodies_at_next; at_told = g.met.H.Host.bodies_at_told; at_clear = g.met.H.Host.bodies_at_clear } in
    came-running g.H.Host laws
