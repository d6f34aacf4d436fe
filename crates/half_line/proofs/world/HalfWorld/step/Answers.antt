-- An event on the whole line.
use Rattle.std.proofs.Common.{◌≡◌, ◌∙◌, ◌+◌, ℕ, Some, None, sym, ap}
use Rattle.std.specs.Prelude.{slice_get, ◌==◌}
use Rattle.std.proofs.lemmas.List.{length-map}
use Rattle.std.proofs.lemmas.Option.{slice_get-get_or}
use Rattle.std.proofs.lemmas.List.Quantifiers.{position-Some}
use Rattle.half_line.specs.Behind.{behind}
use Rattle.half_line.specs.Acts.{LineStationState, half_state, link_state}
use Rattle.half_line.specs.Run.{place_of, station_at}
use Rattle.half_line.specs.Plays.{Played, numbers_at, weight}
use Rattle.half_line.proofs.Steps.PlayedEvents.{master-ok, station-ok}
use Rattle.half_line.proofs.world.HalfWorld.step.Goals as goal

pub returns-in_default-clause-ok : goal.returns-in_default-clause-ok
returns-in_default-clause-ok g c =
    let inside = c.self.inside in
    let p : Played g.row.H.Denot = record { state = half_state inside.master inside.stations.items inside.reported.deceived; lines = inside.reported.lines; events = inside.events } in
    let e = c.args.event.now in
    let none : station_at e ≡ None = sym c.station_at.ensures ∙ c.in_default.is in
    let weighs : c.count.result ≡ weight p e = c.count.ensures (numbers_at p.state.stations) (length-map p.state.stations (λ (side : LineStationState). side.number) ∙ sym c.self.inside.stations.ok.0 ∙ sym c.len.ensures) in
    let after = half_state c.deal_at_master.new.master c.deal_at_master.new.stations.items inside.reported.deceived in
    master-ok (behind g.H.Host g.H.MasterHost) c.deal_at_master.result p c.args.self.now e after c.deal_at_master.new.lines (inside.events + c.count.result) c.self.view_is none
    (c.deal_at_master.ensures.state inside.reported.deceived) c.deal_at_master.ensures.lines (ap (λ (n : ℕ). inside.events + n) weighs)

pub returns-in-Some-place_of-clause-ok : goal.returns-in-Some-place_of-clause-ok
returns-in-Some-place_of-clause-ok g c =
    let inside = c.self.inside in
    let p : Played g.row.H.Denot = record { state = half_state inside.master inside.stations.items inside.reported.deceived; lines = inside.reported.lines; events = inside.events } in
    let e = c.args.event.now in
    let number = c.in-Some.number in
    let place = c.in-Some-place_of.place in
    let side = c.index_mut.result.now in
    let at : station_at e ≡ Some number = sym c.station_at.ensures ∙ c.in-Some.is in
    let is : place_of p.state.stations number ≡ Some place = rw c.deref.ensures.value at (sym c.place_of.ensures ∙ c.in-Some-place_of.is) in
    let found = position-Some (λ (s : LineStationState). s.number == number) p.state.stations place side is in
    let there : slice_get p.state.stations place ≡ Some side = slice_get-get_or p.state.stations place side found.0 ∙ ap Some (sym c.index_mut.ensures.value) in
    let weighs : c.count.result ≡ weight p e = c.count.ensures (numbers_at p.state.stations) (length-map p.state.stations (λ (s : LineStationState). s.number) ∙ sym c.self.inside.stations.ok.0 ∙ sym c.len.ensures) in
    let link = link_state c.deal_at_station.new.master c.deal_at_station.new.side c.deal_at_station.new.reported.deceived in
    station-ok (behind g.H.Host g.H.MasterHost) c.deal_at_station.result p c.args.self.now e number place side link c.deal_at_station.new.reported.lines (inside.events + c.count.result) c.self.view_is at is there
    c.deal_at_station.ensures.state c.deal_at_station.ensures.lines (ap (λ (n : ℕ). inside.events + n) weighs)
