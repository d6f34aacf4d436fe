use Rattle.std.proofs.Common.{◌≡◌, ◌≤◌, length, rules, refl, slice_index_or}
use Rattle.std.proofs.lemmas.List.{take_rest}
use Rattle.line_script.proofs.GivenDeliveries.{delivery_says, front}
use Rattle.line_script.proofs.given_delivery.given_delivery.Goals as goal

pub returns-in_ok-count_of-in-109 : goal.returns-in_ok-count_of-in-109
returns-in_ok-count_of-in-109 c =
    let line = c.args.line.now in
    let some : 3 ≤ length line = search rules in
    let m : slice_index_or line 0 0 ≡ 109 = search rules in
    let d : slice_index_or line 1 0 ≡ 100 = search rules in
    let blank : slice_index_or line 2 0 ≡ 32 = search rules in
    let bytes = front line _ some m d blank (take_rest line 3) in
    let station = c.in_ok-station-in-109.ensures in
    let count = c.in_ok-count_of-in-109.ensures.number c.in_ok-count_of-in-109.field-0 refl in
    delivery_says line _ station.0 c.in_ok-station-in-109.digits.now c.in_ok-station-in-109.station c.in_ok-count_of-in-109.field-0
    bytes station.2 station.1 count.0 count.1 count.2
