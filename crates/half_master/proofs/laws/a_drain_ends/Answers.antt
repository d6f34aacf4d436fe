use Rattle.std.proofs.Common.{arith, is_some}
use Rattle.half_master.specs.Master.{MasterState}
use Rattle.half_master.proofs.Draining.{take-lowers, most-of, drains, drains-only, drained-done, drained-takes}
use Rattle.half_master.proofs.Reaching.{KeepsBodies, Carried, reached-carries, carried-next, take-carried}
use Rattle.half_master.proofs.laws.a_drain_ends.Goals as goal

pub returns-clause-fewer : goal.returns-clause-fewer
returns-clause-fewer g c =
    let laws : KeepsBodies g.H.Host = record { next_is = g.met.H.Host.body_at_next; at_accept = g.met.H.Host.bodies_at_accept; at_next = g.met.H.Host.bodies_at_next; at_told = g.met.H.Host.bodies_at_told; at_tick = g.met.H.Host.bodies_at_tick } in
    λ e reached. take-lowers g.H.Host e (carried-next g.H.Host laws e (reached-carries g.H.Host laws e reached))

pub returns-clause-most : goal.returns-clause-most
returns-clause-most g c =
    let laws : KeepsBodies g.H.Host = record { next_is = g.met.H.Host.body_at_next; at_accept = g.met.H.Host.bodies_at_accept; at_next = g.met.H.Host.bodies_at_next; at_told = g.met.H.Host.bodies_at_told; at_tick = g.met.H.Host.bodies_at_tick } in
    λ e reached. let carried = reached-carries g.H.Host laws e reached in most-of e.stations e.mouth e.sending (is_some (g.H.Host.next_body e.host)) e.phase carried.fits.0.phase_fits carried.fits.1

pub returns-clause-drains : goal.returns-clause-drains
returns-clause-drains g c =
    let laws : KeepsBodies g.H.Host = record { next_is = g.met.H.Host.body_at_next; at_accept = g.met.H.Host.bodies_at_accept; at_next = g.met.H.Host.bodies_at_next; at_told = g.met.H.Host.bodies_at_told; at_tick = g.met.H.Host.bodies_at_tick } in
    λ e reached.
    let carried = reached-carries g.H.Host laws e reached in
    let drained = drains g.H.Host (λ (x : MasterState g.row.H.Denot). Carried g.H.Host x) (carried-next g.H.Host laws) (take-carried g.H.Host laws) e carried in
    let most = most-of e.stations e.mouth e.sending (is_some (g.H.Host.next_body e.host)) e.phase carried.fits.0.phase_fits carried.fits.1 in
    (drained.0, drained.1, drained.2, omega (arith, drained.3, most))

pub returns-clause-only : goal.returns-clause-only
returns-clause-only g c = drains-only g.H.Host

pub returns-clause-drained : goal.returns-clause-drained
returns-clause-drained g c = drained-done g.H.Host

pub returns-clause-by_takes : goal.returns-clause-by_takes
returns-clause-by_takes g c = drained-takes g.H.Host
