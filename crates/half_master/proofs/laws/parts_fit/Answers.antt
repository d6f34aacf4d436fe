use Rattle.half_master.proofs.Reaching.{KeepsBodies, reached-carries}
use Rattle.half_master.proofs.laws.parts_fit.Goals as goal

pub returns-clause-fits : goal.returns-clause-fits
returns-clause-fits g c =
    let laws : KeepsBodies g.H.Host = record { next_is = g.met.H.Host.body_at_next; at_accept = g.met.H.Host.bodies_at_accept; at_next = g.met.H.Host.bodies_at_next; at_told = g.met.H.Host.bodies_at_told; at_tick = g.met.H.Host.bodies_at_tick } in
    λ e reached. (reached-carries g.H.Host laws e reached).fits.0

pub returns-clause-holds : goal.returns-clause-holds
returns-clause-holds g c =
    let laws : KeepsBodies g.H.Host = record { next_is = g.met.H.Host.body_at_next; at_accept = g.met.H.Host.bodies_at_accept; at_next = g.met.H.Host.bodies_at_next; at_told = g.met.H.Host.bodies_at_told; at_tick = g.met.H.Host.bodies_at_tick } in
    λ e reached. (reached-carries g.H.Host laws e reached).holds
