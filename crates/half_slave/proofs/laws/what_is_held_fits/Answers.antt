use Rattle.half_slave.proofs.Reaching.{KeepsBodies, reached-fits}
use Rattle.half_slave.proofs.laws.what_is_held_fits.Goals as goal

pub returns : goal.returns
returns g c =
    let laws : KeepsBodies g.H.Host = record { next_is = g.met.H.Host.body_at_next; at_accept = g.met.H.Host.bodies_at_accept; at_next = g.met.H.Host.bodies_at_next; at_told = g.met.H.Host.bodies_at_told; at_clear = g.met.H.Host.bodies_at_clear } in
    reached-fits g.H.Host laws
