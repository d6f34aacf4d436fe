use Rattle.half_slave.proofs.Draining.{none-quiet, quiet-same, take-lowers, drains, drains-only, drained-quiet, drained-takes}
use Rattle.half_slave.proofs.Reaching.{KeepsBodies, reached-most}
use Rattle.half_slave.proofs.laws.a_drain_ends.Goals as goal

pub returns-clause-quiet : goal.returns-clause-quiet
returns-clause-quiet g c = λ s none. (none-quiet s none, quiet-same s none)

pub returns-clause-fewer : goal.returns-clause-fewer
returns-clause-fewer g c = take-lowers

pub returns-clause-most : goal.returns-clause-most
returns-clause-most g c =
    let laws : KeepsBodies g.H.Host = record { next_is = g.met.H.Host.body_at_next; at_accept = g.met.H.Host.bodies_at_accept; at_next = g.met.H.Host.bodies_at_next; at_told = g.met.H.Host.bodies_at_told; at_clear = g.met.H.Host.bodies_at_clear } in
    reached-most g.H.Host laws

pub returns-clause-drains : goal.returns-clause-drains
returns-clause-drains g c = drains

pub returns-clause-only : goal.returns-clause-only
returns-clause-only g c = drains-only

pub returns-clause-drained : goal.returns-clause-drained
returns-clause-drained g c = drained-quiet

pub returns-clause-by_takes : goal.returns-clause-by_takes
returns-clause-by_takes g c = drained-takes g.H.Host
