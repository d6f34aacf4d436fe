use Rattle.half_master.proofs.SendingLemmas.{signals-counted}
use Rattle.half_master.proofs.Reaching.{KeepsBodies}
use Rattle.half_master.proofs.Giving.{came-gave, came-number, came-ended, came-running}
use Rattle.half_master.proofs.laws.transmissions_are_counted.Goals as goal

pub returns-clause-begun : goal.returns-clause-begun
returns-clause-begun g c = λ e signals. (signals-counted g.H.Host e signals).0

pub returns-clause-sending : goal.returns-clause-sending
returns-clause-sending g c = λ e signals. (signals-counted g.H.Host e signals).1

pub returns-clause-count : goal.returns-clause-count
returns-clause-count g c =
    let laws : KeepsBodies g.H.Host = record { next_is = g.met.H.Host.body_at_next; at_accept = g.met.H.Host.bodies_at_accept; at_next = g.met.H.Host.bodies_at_next; at_told = g.met.H.Host.bodies_at_told; at_tick = g.met.H.Host.bodies_at_tick } in
    λ past e came. (came-gave g.H.Host laws past e came).begun

pub returns-clause-last : goal.returns-clause-last
returns-clause-last g c =
    let laws : KeepsBodies g.H.Host = record { next_is = g.met.H.Host.body_at_next; at_accept = g.met.H.Host.bodies_at_accept; at_next = g.met.H.Host.bodies_at_next; at_told = g.met.H.Host.bodies_at_told; at_tick = g.met.H.Host.bodies_at_tick } in
    λ past e came. (came-gave g.H.Host laws past e came).sending_is

pub returns-clause-numbered : goal.returns-clause-numbered
returns-clause-numbered g c =
    let laws : KeepsBodies g.H.Host = record { next_is = g.met.H.Host.body_at_next; at_accept = g.met.H.Host.bodies_at_accept; at_next = g.met.H.Host.bodies_at_next; at_told = g.met.H.Host.bodies_at_told; at_tick = g.met.H.Host.bodies_at_tick } in
    came-number g.H.Host laws

pub returns-clause-ended : goal.returns-clause-ended
returns-clause-ended g c =
    let laws : KeepsBodies g.H.Host = record { next_is = g.met.H.Host.body_at_next; at_accept = g.met.H.Host.bodies_at_accept; at_next = g.met.H.Host.bodies_at_next; at_told = g.met.H.Host.bodies_at_told; at_tick = g.met.H.Host.bodies_at_tick } in
    came-ended g.H.Host laws

pub returns-clause-running : goal.returns-clause-running
returns-clause-running g c =
    let laws : KeepsBodies g.H.Host = record { next_is = g.met.H.Host.body_at_next; at_accept = g.met.H.Host.bodies_at_accept; at_next = g.met.H.Host.bodies_at_next; at_told = g.met.H.Host.bodies_at_told; at_tick = g.met.H.Host.bodies_at_tick } in
    came-running g.H.Host laws
