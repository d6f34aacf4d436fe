-- An event with a station, by what its steps do there.
use Rattle.std.specs.Prelude.{replicate, map}
use Rattle.half_line.specs.Behind.{behind}
use Rattle.half_line.specs.Acts.{LinkState, OnLane, Deliver, Foreign, link_state}
use Rattle.half_line.specs.Run.{way_from}
use Rattle.half_line.proofs.Steps.LinkSteps.{on_ok, without-bytes, takes-lines, loses-lines, lane-no-bytes, foreign-no-bytes}
use Rattle.half_line.proofs.deal.deal_at_station.Goals as goal

pub returns-in-Take-clause-lines : goal.returns-in-Take-clause-lines
returns-in-Take-clause-lines g c =
    let s : LinkState g.row.H.Denot = link_state c.args.master.now c.args.side.now c.args.reported.now.deceived in
    rw c.in-Take.is (on_ok c.give.result (takes-lines (behind g.H.Host g.H.MasterHost) c.args.number c.in-Take.n s c.args.reported.now.lines c.give.new.lines) (c.give.ensures.lines c.args.master.now c.args.reported.now.deceived))

pub returns-in-Deliver-clause-lines : goal.returns-in-Deliver-clause-lines
returns-in-Deliver-clause-lines g c =
    let s : LinkState g.row.H.Denot = link_state c.args.master.now c.args.side.now c.args.reported.now.deceived in
    let way = way_from c.in-Deliver.lane.from in
    let n = c.in-Deliver.n in
    rw c.in-Deliver.is (on_ok c.deliver.result
    (without-bytes (behind g.H.Host g.H.MasterHost) c.args.number s (replicate n (OnLane way Deliver)) (lane-no-bytes (behind g.H.Host g.H.MasterHost) way Deliver n s) c.args.reported.now.lines c.deliver.new.reported.lines)
    (rw c.way_from.ensures at c.deliver.ensures.lines))

pub returns-in-Lose-clause-lines : goal.returns-in-Lose-clause-lines
returns-in-Lose-clause-lines g c =
    let s : LinkState g.row.H.Denot = link_state c.args.master.now c.args.side.now c.args.reported.now.deceived in
    rw c.in-Lose.is (loses-lines (behind g.H.Host g.H.MasterHost) c.args.number (way_from c.in-Lose.lane.from) c.in-Lose.n s c.args.reported.now.lines)

pub returns-in-Foreign-clause-lines : goal.returns-in-Foreign-clause-lines
returns-in-Foreign-clause-lines g c =
    let s : LinkState g.row.H.Denot = link_state c.args.master.now c.args.side.now c.args.reported.now.deceived in
    let way = way_from c.in-Foreign.lane.from in
    let bytes = c.in-Foreign.bytes in
    rw c.in-Foreign.is (on_ok c.intrude.result
    (without-bytes (behind g.H.Host g.H.MasterHost) c.args.number s (map (λ byte. OnLane way (Foreign byte)) bytes) (foreign-no-bytes (behind g.H.Host g.H.MasterHost) way bytes s) c.args.reported.now.lines c.intrude.new.reported.lines)
    (rw (c.way_from-in-Foreign.ensures, c.as_slice.ensures) at c.intrude.ensures.lines))
