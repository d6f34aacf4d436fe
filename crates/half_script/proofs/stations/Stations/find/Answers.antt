-- What stands at the place of a number is the first station of that number.
use Rattle.std.proofs.Common.{◌∙◌, ap, sym, arith, option_map}
use Rattle.std.specs.Prelude.{option_and_then}
use Rattle.std.specs.List.{position, slice_get}
use Rattle.half_script.specs.Stations.{has_number, station_at}
use Rattle.half_script.proofs.Places.{found_there, read_there, some_map}
use Rattle.half_script.proofs.stations.Stations.find.Goals as goal

pub returns-in-Some : goal.returns-in-Some
returns-in-Some c =
    let same = c.deref.ensures.value ∙ c.self.view_is in
    let at = c.in-Some.ensures ∙ ap (position (has_number c.args.number)) (sym same) in
    read_there c.deref.result.now c.args.number c.in-Some.place (option_map (λ x. x.now) c.get.result) at (some_map (λ x. x.now) c.get.result ∙ c.get.ensures.lookup.0) (c.get.ensures.lookup.4 (omega arith))
    ∙ ap (λ stations. station_at stations c.args.number) same

pub returns-in-None : goal.returns-in-None
returns-in-None c = ap (option_and_then (slice_get c.args.self.now)) c.in-None.ensures ∙ sym (found_there c.args.number c.args.self.now)
