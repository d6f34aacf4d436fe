-- Nothing joins the queues where nothing is given.
use Rattle.std.proofs.Common.{◌≡◌, ◌∙◌, map, Option, None, sym, ap}
use Rattle.std.specs.Option.{option_map, option_to_list}
use Rattle.df1_base.specs.declared.link.Out.{Out}
use Rattle.half_master.specs.Master.{master_after_take, out_at_take}
use Rattle.lane_cells.specs.Cells.{cell_of}
use Rattle.half_line.specs.Acts.{joined}
use Rattle.half_line.proofs.Steps.MasterSteps.{joins-nothing}
use Rattle.half_line.proofs.master.take.Goals as goal

pub returns-in_default-clause-stations : goal.returns-in_default-clause-stations
returns-in_default-clause-stations g c =
    let m = c.args.master.now in
    let stations = c.args.stations.now.items in
    let none : out_at_take g.H.Host m ≡ None = sym c.take.ensures.out ∙ c.in_default.is in
    sym (joins-nothing stations) ∙ ap (λ (out : Option Out). map (joined (option_to_list (option_map (cell_of (master_after_take g.H.Host m).sending) out))) stations) (sym none)
