-- The station at its place.
use Rattle.std.proofs.Common.{◌≡◌, ◌∙◌, Some, sym, ap}
use Rattle.std.specs.Prelude.{slice_get, ◌==◌}
use Rattle.std.specs.Option.{option_map}
use Rattle.std.proofs.lemmas.Option.{slice_get-get_or}
use Rattle.std.proofs.lemmas.List.Quantifiers.{position-Some}
use Rattle.half_line.specs.Acts.{LineStationState}
use Rattle.half_line.specs.Run.{place_of}
use Rattle.half_line.specs.Plays.{initiator_at}
use Rattle.half_line.proofs.world.station_initiator.Goals as goal

pub returns : goal.returns
returns c =
    let stations = c.args.stations.now in
    let place = c.in_ok-place.place in
    let side = c.index-stations-place.result in
    let is : place_of stations c.args.number ≡ Some place = sym c.in_ok-place.ensures in
    let found = position-Some (λ (s : LineStationState). s.number == c.args.number) stations place side is in
    let there : slice_get stations place ≡ Some side = slice_get-get_or stations place side found.0 ∙ ap Some (sym c.index-stations-place.is) in
    ap (initiator_at stations) is ∙ ap (option_map (λ (s : LineStationState). s.slave.host.initiator)) there ∙ ap Some (sym c.initiator.ensures)
