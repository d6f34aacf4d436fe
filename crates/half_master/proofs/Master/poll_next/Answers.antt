use Rattle.std.proofs.Common.{◌≡◌, Option, Some, refl, sym, subst}
use Rattle.std.specs.Prelude.{slice_get}
use Rattle.half_master.specs.declared.stations.Station.{Station}
use Rattle.half_master.specs.declared.table.Phase.TheVariants as phase
use Rattle.half_master.specs.Master.{MasterState, polled}
use Rattle.half_master.proofs.FittingLemmas.{number-at}
use Rattle.half_master.proofs.Keeping.{read-is}
use Rattle.half_master.proofs.Master.poll_next.Goals as goal

pub poll-requires-clause-not_dle : goal.poll-requires-clause-not_dle
poll-requires-clause-not_dle g c =
    let found = c.in-Some.ensures.lookup in
    let is : slice_get c.self.inside.stations.items c.self.inside.next ≡ Some c.in-Some.station.now = rw (sym c.as_slice.ensures.value) (read-is c.as_slice.result.now c.self.inside.next c.in-Some.station.now found.3.0 found.1) in
    (number-at c.self.inside.stations.items c.self.inside.next c.in-Some.station.now c.self.invariant.are_stations.each is).0

pub poll-requires-clause-not_all : goal.poll-requires-clause-not_all
poll-requires-clause-not_all g c =
    let found = c.in-Some.ensures.lookup in
    let is : slice_get c.self.inside.stations.items c.self.inside.next ≡ Some c.in-Some.station.now = rw (sym c.as_slice.ensures.value) (read-is c.as_slice.result.now c.self.inside.next c.in-Some.station.now found.3.0 found.1) in
    (number-at c.self.inside.stations.items c.self.inside.next c.in-Some.station.now c.self.invariant.are_stations.each is).1

pub returns-in-Some : goal.returns-in-Some
returns-in-Some g c =
    let found = c.in-Some.ensures.lookup in
    let is : slice_get c.self.inside.stations.items c.self.inside.next ≡ Some c.in-Some.station.now = rw (sym c.as_slice.ensures.value) (read-is c.as_slice.result.now c.self.inside.next c.in-Some.station.now found.3.0 found.1) in
    let before : MasterState g.row.H.Denot = record { setup = c.self.inside.setup; stations = c.self.inside.stations.items; next = c.self.inside.next; ear = c.self.inside.ear; phase = c.self.inside.phase; mouth = c.self.inside.mouth; sending = c.self.inside.sending.items; host = c.self.inside.host } in
    let after : MasterState g.row.H.Denot = record { setup = c.self.inside.setup; stations = c.self.inside.stations.items; next = c.place_after-self-inside.result; ear = c.self.inside.ear; phase = phase.WaitsAfterPoll c.self.inside.setup.poll_ticks c.self.inside.next; mouth = c.give.new.self; sending = c.self.inside.sending.items; host = c.self.inside.host } in
    let polls : after ≡ polled before (Some c.in-Some.station.now) = rw (c.give.ensures, c.poll.ensures, c.place_after-self-inside.ensures, c.deref.ensures.0) refl in
    subst (λ (e : MasterState g.row.H.Denot). after ≡ polled e (slice_get e.stations e.next)) c.self.view_is
    (subst (λ (o : Option Station). after ≡ polled before o) (sym is) polls)
