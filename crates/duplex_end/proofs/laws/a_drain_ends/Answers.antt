use Rattle.std.proofs.Common.{arith}
use Rattle.duplex_end.proofs.Draining.{quiet-same, take-lowers, most-left, drains, drains-only, drained-quiet, drained-takes}
use Rattle.duplex_end.proofs.Order.{nothing-there}
use Rattle.duplex_end.proofs.Reaching.{KeepsBodies, reached-carries, carried-fits}
use Rattle.duplex_end.proofs.laws.a_drain_ends.Goals as goal

pub returns-clause-quiet : goal.returns-clause-quiet
returns-clause-quiet g c = λ e none. (nothing-there g.H.Host e none, quiet-same g.H.Host e none)

pub returns-clause-fewer : goal.returns-clause-fewer
returns-clause-fewer g c =
    let laws : KeepsBodies g.H.Host = record { next_is = g.met.H.Host.body_at_next; at_accept = g.met.H.Host.bodies_at_accept; at_next = g.met.H.Host.bodies_at_next; at_told = g.met.H.Host.bodies_at_told; at_tick = g.met.H.Host.bodies_at_tick } in
    λ e reached. let carried = reached-carries g.H.Host laws e reached in take-lowers g.H.Host e carried.joined (carried-fits g.H.Host laws e carried)

pub returns-clause-most : goal.returns-clause-most
returns-clause-most g c =
    let laws : KeepsBodies g.H.Host = record { next_is = g.met.H.Host.body_at_next; at_accept = g.met.H.Host.bodies_at_accept; at_next = g.met.H.Host.bodies_at_next; at_told = g.met.H.Host.bodies_at_told; at_tick = g.met.H.Host.bodies_at_tick } in
    λ e reached. most-left g.H.Host e (reached-carries g.H.Host laws e reached).short

pub returns-clause-drains : goal.returns-clause-drains
returns-clause-drains g c =
    let laws : KeepsBodies g.H.Host = record { next_is = g.met.H.Host.body_at_next; at_accept = g.met.H.Host.bodies_at_accept; at_next = g.met.H.Host.bodies_at_next; at_told = g.met.H.Host.bodies_at_told; at_tick = g.met.H.Host.bodies_at_tick } in
    λ e reached.
    let carried = reached-carries g.H.Host laws e reached in
    let drained = drains g.H.Host e carried.joined (carried-fits g.H.Host laws e carried) in
    let most = most-left g.H.Host e carried.short in
    (drained.0, drained.1, drained.2, omega (arith, drained.3, most))

pub returns-clause-only : goal.returns-clause-only
returns-clause-only g c = drains-only g.H.Host

pub returns-clause-drained : goal.returns-clause-drained
returns-clause-drained g c = drained-quiet g.H.Host

pub returns-clause-by_takes : goal.returns-clause-by_takes
returns-clause-by_takes g c = drained-takes g.H.Host
