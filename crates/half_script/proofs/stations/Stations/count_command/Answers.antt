-- The first station of a number is changed alone.
use Rattle.std.proofs.Common.{◌≡◌, ◌∙◌, ℕ, List, ap, set, subst, sym}
use Rattle.std.specs.List.{position}
use Rattle.end_drafts.specs.declared.end_draft.EndDraft.{EndDraft}
use Rattle.half_script.specs.declared.stations.StationDraft.{StationDraft}
use Rattle.half_script.specs.Stations.{command_taken, has_number, with_station_command}
use Rattle.half_script.proofs.Places.{changed_there}
use Rattle.half_script.proofs.stations.Stations.count_command.Goals as goal

abbrev with_end : ℕ → EndDraft → StationDraft
with_end number end = record { number = number; end = end }

pub returns-in-Some : goal.returns-in-Some
returns-in-Some c =
    let stations = c.self.inside.list.items in
    let now = c.index_mut.result.now in
    let next = with_end now.number c.count_command.new.self in
    let at = c.in-Some.ensures ∙ ap (position (has_number c.args.number)) (sym c.self.view_is) in
    subst (λ (s : List StationDraft). set stations c.in-Some.place next ≡ with_station_command s c.args.number) c.self.view_is
    (changed_there command_taken stations c.args.number c.in-Some.place now next at c.index_mut.ensures.value (ap (with_end now.number) c.count_command.ensures))
