-- The first station of a number is changed alone.
use Rattle.std.proofs.Common.{◌≡◌, ◌∙◌, List, ap, set, subst, sym}
use Rattle.std.specs.List.{position}
use Rattle.std.specs.Result.{OnOk}
use Rattle.std.proofs.lemmas.Result.{on_ok_weaker}
use Rattle.half_script.specs.declared.stations.StationDraft.{StationDraft}
use Rattle.half_script.specs.Stations.{has_number, line_taken, with_station_line}
use Rattle.half_script.proofs.Places.{changed_there}
use Rattle.half_script.proofs.stations.Stations.take.Goals as goal

pub returns-in-Some : goal.returns-in-Some
returns-in-Some c =
    let stations = c.self.inside.list.items in
    let at = c.in-Some.ensures ∙ ap (position (has_number c.args.number)) (sym c.self.view_is) in
    subst (λ (s : List StationDraft). OnOk c.take.result (set stations c.in-Some.place c.take.new.self ≡ with_station_line s c.args.number c.args.line)) c.self.view_is
    (on_ok_weaker c.take.result
    (λ (taken : c.take.new.self ≡ line_taken c.index_mut.result.now c.args.line).
    changed_there (λ s. line_taken s c.args.line) stations c.args.number c.in-Some.place c.index_mut.result.now c.take.new.self at c.index_mut.ensures.value taken)
    c.take.ensures.taken)
