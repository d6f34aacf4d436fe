use Rattle.duplex_end.proofs.Reaching.{KeepsBodies, reached-carries, carried-fits}
use Rattle.duplex_end.proofs.laws.parts_stay_joined.Goals as goal

pub returns-clause-joined : goal.returns-clause-joined
returns-clause-joined g c =
    let laws : KeepsBodies g.H.Host = record { next_is = g.met.H.Host.body_at_next; at_accept = g.met.H.Host.bodies_at_accept; at_next = g.met.H.Host.bodies_at_next; at_told = g.met.H.Host.bodies_at_told; at_tick = g.met.H.Host.bodies_at_tick } in
    λ e reached. (reached-carries g.H.Host laws e reached).joined

pub returns-clause-short : goal.returns-clause-short
returns-clause-short g c =
    let laws : KeepsBodies g.H.Host = record { next_is = g.met.H.Host.body_at_next; at_accept = g.met.H.Host.bodies_at_accept; at_next = g.met.H.Host.bodies_at_next; at_told = g.met.H.Host.bodies_at_told; at_tick = g.met.H.Host.bodies_at_tick } in
    λ e reached. (reached-carries g.H.Host laws e reached).short

pub returns-clause-fits : goal.returns-clause-fits
returns-clause-fits g c =
    let laws : KeepsBodies g.H.Host = record { next_is = g.met.H.Host.body_at_next; at_accept = g.met.H.Host.bodies_at_accept; at_next = g.met.H.Host.bodies_at_next; at_told = g.met.H.Host.bodies_at_told; at_tick = g.met.H.Host.bodies_at_tick } in
    λ e reached. carried-fits g.H.Host laws e (reached-carries g.H.Host laws e reached)

pub returns-clause-holds : goal.returns-clause-holds
returns-clause-holds g c =
    let laws : KeepsBodies g.H.Host = record { next_is = g.met.H.Host.body_at_next; at_accept = g.met.H.Host.bodies_at_accept; at_next = g.met.H.Host.bodies_at_next; at_told = g.met.H.Host.bodies_at_told; at_tick = g.met.H.Host.bodies_at_tick } in
    λ e reached. (reached-carries g.H.Host laws e reached).holds
