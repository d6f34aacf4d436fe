use Rattle.duplex_end.proofs.OnWire.{new-df1}
use Rattle.duplex_end.proofs.Reaching.{KeepsBodies}
use Rattle.duplex_end.proofs.laws.what_is_given_is_df1.Goals as goal

pub returns : goal.returns
returns g c =
    let laws : KeepsBodies g.H.Host = record { next_is = g.met.H.Host.body_at_next; at_accept = g.met.H.Host.bodies_at_accept; at_next = g.met.H.Host.bodies_at_next; at_told = g.met.H.Host.bodies_at_told; at_tick = g.met.H.Host.bodies_at_tick } in
    new-df1 g.H.Host laws
