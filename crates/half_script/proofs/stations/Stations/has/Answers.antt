-- A number has a place where it is declared.
use Rattle.std.proofs.Common.{◌∙◌, ap, is_some}
use Rattle.half_script.specs.Stations.{numbers_in}
use Rattle.script_parts.specs.HalfPlayable.{is_declared}
use Rattle.half_script.proofs.Places.{is_placed}
use Rattle.half_script.proofs.stations.Stations.has.Goals as goal

pub returns : goal.returns
returns c =
    c.contains_key.ensures
    ∙ ap is_some (c.self.invariant.same c.args.number)
    ∙ is_placed c.args.number c.self.inside.list.items
    ∙ ap (λ stations. is_declared (numbers_in stations) c.args.number) c.self.view_is
