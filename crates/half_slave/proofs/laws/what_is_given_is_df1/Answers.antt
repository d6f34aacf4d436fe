use Rattle.half_slave.proofs.Reaching.{KeepsBodies}
use Rattle.half_slave.proofs.Giving.{came-wire, came-all}
use Rattle.half_slave.proofs.laws.what_is_given_is_df1.Goals as goal

pub returns-clause-wire : goal.returns-clause-wire
returns-clause-wire g c =
    let laws : KeepsBodies g.H.Host = record { next_is = g.met.H.Host.body_at_next; at_accept = g.met.H.Host.bodies_at_accept; at_next = g.met.H.Host.bodies_at_next; at_told = g.met.H.Host.bodies_at_told; at_clear = g.met.H.Host.bodies_at_clear } in
    came-wire g.H.Host laws

pub returns-clause-signals : goal.returns-clause-signals
returns-clause-signals g c = came-all g.H.Host
